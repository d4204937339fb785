-- Each candidate that a search finds names rows and actions that exist.
use Rattle.std.proofs.Common.{◌≡◌, ◌≢◌, ℕ, ◌+◌, ◌<◌, ◌==◌, List, [], ◌∷◌, map, take, drop, length, refl, ap, sym, subst, ◌∙◌, Option, Some, None, Bool, true, false, slice_get, eq-eqb, if◌then◌else◌, option_map, option_to_list, IfSome}
use Rattle.std.proofs.lemmas.List.Elements.{All-nil, All-cons, All-append, All-map, All-head, All-weaker}
use Rattle.std.proofs.lemmas.Option.{get_or_from_slice_get, slice_get_within}
use Rattle.std.specs.List.{All}
use Rattle.tb_terms.specs.declared.term.Term.{Term}
use Rattle.tb_match.specs.declared.bind.Bind.{Bind}
use Rattle.tb_match.specs.Matches.{match_list}
use Rattle.tb_search.specs.Candidates.{Row, Scene, row_at, no_row, received_if, reception, receptions, partner_in, partners, finding_of, candidates_by, candidates_among, candidates_of, candidates_from, up_to, candidates_in_turn, candidates_or_halt, candidates_while_up, all_candidates, ascend}
use Rattle.tb_search.specs.declared.marks.Marks.{Marks}
use Rattle.tb_bus.specs.Buses.{Bus}
use Rattle.tb_bus.specs.Steps.{moves, first}
use Rattle.tb_search.specs.Views.{sent_in, ready_at, move_of, Receives, IsThere, IsCandidateIn, IsSearchedFor}
use Rattle.tb_bus.specs.declared.action.Action.{Action}
use Rattle.tb_bus.specs.declared.action.Action.TheVariants as action
use Rattle.tb_search.specs.declared.living.Ready.{Ready}
use Rattle.tb_search.specs.declared.candidate.Partner.{Partner}
use Rattle.tb_search.specs.declared.candidate.Finding.{Finding}
use Rattle.tb_search.specs.declared.candidate.Candidate.{Candidate}
use Rattle.tb_search.specs.declared.candidate.Candidate.TheVariants as candidate
use Rattle.tb_search.proofs.PartLemmas.{StandAt, stand-whole, stand-drop, stand-take}
use Rattle.tb_search.proofs.RowLemmas.{ready_at-is, partner_at, first_moves}

-- the partner exists, is another process than the one with this number, and its action receives the terms
abbrev IsPartnerIn : List Row → ℕ → List Term → Partner → Type 0
IsPartnerIn rows number terms partner =
    (partner.living < length rows) × (partner.received.action < length (row_at rows partner.living).ready)
    × (number ≢ (row_at rows partner.living).number)
    × Receives terms (ready_at rows partner.living partner.received.action).action partner.received.binds

first-all : {A : Type 0} (P : A → Type 0) (xs : List A) (x : A) → All P xs → first xs ≡ Some x → P x
first-all P [] x h e = cc
first-all P (y ∷ ys) x h e = let same : y ≡ x = cc in subst P same (All-head P y ys h)

module _ (rows : List Row) where
  within-row : (at index : ℕ) (row : Row) (ready : Ready) → slice_get rows at ≡ Some row → slice_get row.ready index ≡ Some ready → index < length (row_at rows at).ready
  within-row at index row ready e f =
      subst (λ (r : Row). index < length r.ready) (sym (get_or_from_slice_get rows at row no_row e)) (slice_get_within row.ready index ready f)

  action-is : (at index : ℕ) (row : Row) (ready : Ready) (does : Action) → slice_get rows at ≡ Some row → slice_get row.ready index ≡ Some ready → ready.action ≡ does → (ready_at rows at index).action ≡ does
  action-is at index row ready does e f d = ap (λ (r : Ready). r.action) (ready_at-is rows at index row ready e f) ∙ d

  module _ (number : ℕ) (terms : List Term) where
    matched-in : (at index : ℕ) (row : Row) (ready : Ready) → slice_get rows at ≡ Some row → slice_get row.ready index ≡ Some ready → number ≢ row.number →
        (does : Action) → ready.action ≡ does → (binds : Option (List Bind)) → ((b : List Bind) → binds ≡ Some b → Receives terms does b) → All (λ received. IsPartnerIn rows number terms (partner_at at received)) (received_if index binds)
    matched-in at index row ready e f n does d None m = All-nil _
    matched-in at index row ready e f n does d (Some binds) m =
        let other : number ≢ (row_at rows at).number = λ q. n (q ∙ ap (λ (r : Row). r.number) (get_or_from_slice_get rows at row no_row e)) in
        let receives : Receives terms (ready_at rows at index).action binds = subst (λ d. Receives terms d binds) (sym (action-is at index row ready does e f d)) (m binds refl) in
        All-cons (λ received. IsPartnerIn rows number terms (partner_at at received)) (record { action = index; binds = binds }) []
        (slice_get_within rows at row e, within-row at index row ready e f, other, receives) (All-nil _)

    reception-in : (at index : ℕ) (row : Row) (ready : Ready) → slice_get rows at ≡ Some row → slice_get row.ready index ≡ Some ready → number ≢ row.number →
        (does : Action) → ready.action ≡ does → All (λ received. IsPartnerIn rows number terms (partner_at at received)) (reception terms index does)
    reception-in at index row ready e f n (action.Own own) d = All-nil _
    reception-in at index row ready e f n (action.Send other) d = All-nil _
    reception-in at index row ready e f n (action.Receive patterns) d = matched-in at index row ready e f n (action.Receive patterns) d (match_list patterns terms) (λ b q. q)

    receptions-in : (at : ℕ) (row : Row) → slice_get rows at ≡ Some row → number ≢ row.number → (index : ℕ) (some : List Ready) → StandAt row.ready index some →
        All (λ received. IsPartnerIn rows number terms (partner_at at received)) (receptions terms index some)
    receptions-in at row e n index [] h = All-nil _
    receptions-in at row e n index (ready ∷ others) h =
        All-append (λ received. IsPartnerIn rows number terms (partner_at at received)) (reception terms index ready.action) (receptions terms (index + 1) others)
        (reception-in at index row ready e h.0 n ready.action refl) (receptions-in at row e n (index + 1) others h.1)

    partner-in-by : (at : ℕ) (row : Row) → slice_get rows at ≡ Some row → (b : Bool) → (row.number == number) ≡ b →
        All (IsPartnerIn rows number terms) (if b then [] else map (partner_at at) (receptions terms 0 row.ready))
    partner-in-by at row e true b = All-nil _
    partner-in-by at row e false b =
        let other : number ≢ row.number = λ q. let t = eq-eqb row.number number (sym q) in cc in
        All-map (IsPartnerIn rows number terms) (partner_at at) (receptions terms 0 row.ready) (receptions-in at row e other 0 row.ready (stand-whole row.ready))

    partners-in : (at : ℕ) (some : List Row) → StandAt rows at some → All (IsPartnerIn rows number terms) (partners number terms at some)
    partners-in at [] h = All-nil _
    partners-in at (row ∷ some) h =
        All-append (IsPartnerIn rows number terms) (partner_in number terms at row) (partners number terms (at + 1) some)
        (partner-in-by at row h.0 (row.number == number) refl) (partners-in (at + 1) some h.1)

found-in : (P : Candidate → Type 0) (make : Finding → Candidate) (found : Option Finding) → ((f : Finding) → found ≡ Some f → P (make f)) → All P (map make (option_to_list found))
found-in P make None h = All-nil P
found-in P make (Some found) h = All-cons P (make found) [] (h found refl) (All-nil P)

module _ (scene : Scene) where
  there : (at index : ℕ) (row : Row) (ready : Ready) → slice_get scene.rows at ≡ Some row → slice_get row.ready index ≡ Some ready → IsThere scene.rows at index
  there at index row ready e f = (slice_get_within scene.rows at row e, within-row scene.rows at index row ready e f)

  candidates_by-in : (at index : ℕ) (row : Row) (ready : Ready) → slice_get scene.rows at ≡ Some row → slice_get row.ready index ≡ Some ready → (does : Action) → ready.action ≡ does →
      All (IsCandidateIn scene) (candidates_by scene at row index does)
  candidates_by-in at index row ready e f (action.Own own) d =
      let same = get_or_from_slice_get scene.rows at row no_row e in
      found-in (IsCandidateIn scene) (candidate.Own at index) (finding_of scene row own)
      (λ found h. (there at index row ready e f, (own, action-is scene.rows at index row ready (action.Own own) e f d, ap (λ (r : Row). finding_of scene r own) same ∙ h)))
  candidates_by-in at index row ready e f (action.Receive patterns) d = All-nil _
  candidates_by-in at index row ready e f (action.Send terms) d =
      let sends = action-is scene.rows at index row ready (action.Send terms) e f d in
      let sent : (ready_at scene.rows at index).action ≡ action.Send (sent_in (ready_at scene.rows at index).action) = sends ∙ ap action.Send (sym (ap sent_in sends)) in
      let same = get_or_from_slice_get scene.rows at row no_row e in
      All-map (IsCandidateIn scene) (candidate.Handshake at index) (partners row.number terms 0 scene.rows)
      (All-weaker (IsPartnerIn scene.rows row.number terms) (λ (partner : Partner). IsCandidateIn scene (candidate.Handshake at index partner))
      (λ partner h. (
        there at index row ready e f,
        (h.0, h.1),
        λ q. h.2 (sym (ap (λ (r : Row). r.number) same) ∙ q),
        sent,
        subst (λ ts. Receives ts (ready_at scene.rows partner.living partner.received.action).action partner.received.binds) (sym (ap sent_in sends)) h.3,
      ))
      (partners row.number terms 0 scene.rows) (partners-in scene.rows row.number terms 0 scene.rows (stand-whole scene.rows)))

  candidates_among-in : (at : ℕ) (row : Row) → slice_get scene.rows at ≡ Some row → (index : ℕ) (some : List Ready) → StandAt row.ready index some → All (IsCandidateIn scene) (candidates_among scene at row index some)
  candidates_among-in at row e index [] h = All-nil _
  candidates_among-in at row e index (ready ∷ others) h =
      All-append (IsCandidateIn scene) (candidates_by scene at row index ready.action) (candidates_among scene at row (index + 1) others)
      (candidates_by-in at index row ready e h.0 ready.action refl) (candidates_among-in at row e (index + 1) others h.1)

  candidates_from-in : (at : ℕ) (some : List Row) → StandAt scene.rows at some → All (IsCandidateIn scene) (candidates_from scene at some)
  candidates_from-in at [] h = All-nil _
  candidates_from-in at (row ∷ some) h =
      All-append (IsCandidateIn scene) (candidates_of scene at row) (candidates_from scene (at + 1) some)
      (candidates_among-in at row h.0 0 row.ready (stand-whole row.ready)) (candidates_from-in (at + 1) some h.1)

  -- Each candidate of a search in turn names rows and actions that exist.
  all_in_turn : (last : ℕ) → All (IsCandidateIn scene) (candidates_in_turn scene last)
  unfolding candidates_in_turn
  all_in_turn last =
      let at = up_to last scene.rows in
      All-append (IsCandidateIn scene) (candidates_from scene at (drop at scene.rows)) (candidates_from scene 0 (take at scene.rows))
      (candidates_from-in at (drop at scene.rows) (stand-drop at scene.rows)) (candidates_from-in 0 (take at scene.rows) (stand-take at scene.rows))

  or_halt-in : (no_ticks : Bool) (candidates : List Candidate) → All (IsCandidateIn scene) candidates → All (IsCandidateIn scene) (candidates_or_halt no_ticks candidates)
  or_halt-in true [] h = All-cons (IsCandidateIn scene) candidate.Halt [] tt (All-nil (IsCandidateIn scene))
  or_halt-in false [] h = h
  or_halt-in no_ticks (found ∷ candidates) h = h

  while_up-in : (marks : Marks) (some : List Row) → All (IsCandidateIn scene) (candidates_while_up scene marks some)
  while_up-in marks [] = All-cons (IsCandidateIn scene) candidate.Finish [] tt (All-nil (IsCandidateIn scene))
  while_up-in marks (row ∷ some) = or_halt-in marks.no_ticks (candidates_in_turn scene marks.last_starter) (all_in_turn marks.last_starter)

  down-in : (down : Bool) (candidates : List Candidate) → All (IsCandidateIn scene) candidates → All (IsCandidateIn scene) (if down then [] else candidates)
  down-in true candidates h = All-nil _
  down-in false candidates h = h

module _ (scene : Scene) (marks : Marks) where
  -- Each candidate names rows and actions that exist.
  pub all_candidates-in : All (IsCandidateIn scene) (all_candidates scene marks)
  unfolding all_candidates
  all_candidates-in =
      down-in scene marks.down (candidates_while_up scene marks scene.rows) (while_up-in scene marks scene.rows)

  -- The first candidate that a search finds is the first move of the bus.
  pub move_first : (found : Option Candidate) → ascend 0 scene.rows ≡ true → found ≡ first (all_candidates scene marks) →
      (bus : Bus) → IsSearchedFor bus scene marks → option_map (move_of bus scene.rows) found ≡ first (moves bus)
  move_first found a e bus is = ap (option_map (move_of bus scene.rows)) e ∙ first_moves bus scene marks is a

  -- The first candidate names rows and actions that exist.
  pub stands_first : (found : Option Candidate) → found ≡ first (all_candidates scene marks) → IfSome found (IsCandidateIn scene)
  stands_first None e = tt
  stands_first (Some found) e = first-all (IsCandidateIn scene) (all_candidates scene marks) found all_candidates-in (sym e)
