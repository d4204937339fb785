-- Rows that represent the processes of a bus: the candidates that a search finds are the moves of the bus.
use Rattle.std.proofs.Common.{◌≡◌, ℕ, ◌+◌, ◌<◌, ◌≤◌, ◌==◌, zero, suc, List, [], ◌∷◌, ◌++◌, map, filter, take, drop, refl, ap, sym, ◌∙◌, arith, Option, Some, None, option_map, Bool, true, false, not, nat_lt, nat_le, append-nil, slice_get, slice_index_or, if◌then◌else◌, is_some, option_to_list}
use Rattle.std.proofs.lemmas.Grind.{flat_map-append}
use Rattle.std.proofs.lemmas.Bool.{leb-true, leb-false, lt-ltb, le-leb, le-ltb, lt-leb}
use Rattle.std.proofs.lemmas.List.{map-append}
use Rattle.std.proofs.lemmas.Option.{get_or_from_slice_get}
use Rattle.std.specs.List.{flat_map}
use Rattle.tb_terms.specs.declared.term.Term.{Term}
use Rattle.tb_match.specs.declared.bind.Bind.{Bind}
use Rattle.tb_match.specs.Matches.{match_list}
use Rattle.tb_body.specs.declared.atom.Atom.{Atom}
use Rattle.tb_body.specs.declared.body.Body.{Body}
use Rattle.tb_process_steps.specs.Offers.{Offered, offers}
use Rattle.tb_bus.specs.Buses.{Bus, Proc, atoms_of}
use Rattle.tb_bus.specs.Actions.{action_of}
use Rattle.tb_bus.specs.Steps.{Move, Handshake, Halt, handshake_if, handshake_of, handshakes_with, handshakes, own_if, moves_by, moves_of, moves_of_all, moves, moves_while_up, moves_or_halt, first}
use Rattle.tb_bus.specs.Effects.{Effect, own_effect, effect_of}
use Rattle.tb_search.specs.Candidates.{Row, Scene, ready_one, readies, received_if, reception, receptions, partner_in, partners, finding_of, candidates_by, candidates_among, candidates_of, candidates_from, up_to, candidates_in_turn, candidates_or_halt, candidates_while_up, all_candidates, ascend}
use Rattle.tb_search.specs.Views.{IsRowOf, AreRowsOf, no_proc, no_offer, no_ready, proc_at, ready_at, offer_at, offer_of, own_move, move_by, move_of, sent_in, IsSearchedFor}
use Rattle.tb_search.specs.declared.marks.Marks.{Marks}
use Rattle.tb_bus.specs.declared.action.Action.{Action}
use Rattle.tb_bus.specs.declared.action.Action.TheVariants as action
use Rattle.tb_search.specs.declared.living.Ready.{Ready}
use Rattle.tb_search.specs.declared.candidate.Received.{Received}
use Rattle.tb_search.specs.declared.candidate.Partner.{Partner}
use Rattle.tb_search.specs.declared.candidate.Finding.{Finding}
use Rattle.tb_search.specs.declared.candidate.Candidate.{Candidate}
use Rattle.tb_search.specs.declared.candidate.Candidate.TheVariants as candidate
use Rattle.tb_search.proofs.PartLemmas.{StandAt, stand-whole, stand-drop, stand-take, map-twice, both-append}
use Rattle.tb_search.proofs.TurnLemmas.{ascend-first}
use Rattle.tb_search.proofs.EffectLemmas.{IsSceneOf, scene-is, happens-is}

-- the action at an index of a row
pub ready_at-is : (rows : List Row) (at index : ℕ) (row : Row) (ready : Ready) → slice_get rows at ≡ Some row → slice_get row.ready index ≡ Some ready → ready_at rows at index ≡ ready
ready_at-is rows at index row ready e f =
    ap (λ (r : Row). slice_index_or r.ready index no_ready) (get_or_from_slice_get rows at row _ e)
    ∙ get_or_from_slice_get row.ready index ready no_ready f

-- A list that is built from each offer with its action can be built from the ready offers alone, if an offer without an action
-- adds nothing.
module _ {M : Type 0} (g : Offered → Option Action → List M) (none : (offered : Offered) → g offered None ≡ []) (atoms : List Atom) (now : ℕ) (offs : List Offered) where
  offered-one : (at : ℕ) (offered : Offered) (does : Option Action) → slice_get offs at ≡ Some offered →
      flat_map (λ (ready : Ready). g (slice_index_or offs ready.offer no_offer) (Some ready.action)) (ready_one at offered does) ≡ g offered does
  offered-one at offered None e = sym (none offered)
  offered-one at offered (Some does) e =
      append-nil (g (slice_index_or offs at no_offer) (Some does))
      ∙ ap (λ o. g o (Some does)) (get_or_from_slice_get offs at offered no_offer e)

  offered-readies : (at : ℕ) (some : List Offered) → StandAt offs at some →
      flat_map (λ (ready : Ready). g (slice_index_or offs ready.offer no_offer) (Some ready.action)) (readies atoms now at some)
      ≡ flat_map (λ offered. g offered (action_of atoms now offered)) some
  offered-readies at [] h = refl
  offered-readies at (offered ∷ others) h =
      flat_map-append (λ (ready : Ready). g (slice_index_or offs ready.offer no_offer) (Some ready.action)) (ready_one at offered (action_of atoms now offered)) (readies atoms now (at + 1) others)
      ∙ both-append _ _ _ _ (offered-one at offered (action_of atoms now offered) h.0) (offered-readies (at + 1) others h.1)

-- the handshake with a found partner
abbrev shaken : List Proc → List Row → Proc → Offered → List Term → Partner → Move
shaken procs rows sender sent terms partner =
    Handshake sender sent (proc_at procs partner.living) (offer_of procs rows partner.living partner.received.action) terms partner.received.binds

-- the partner at an index
abbrev pub partner_at : ℕ → Received → Partner
partner_at at received = record { living = at; received = received }

module _ (procs : List Proc) (rows : List Row) (sender : Proc) (sent : Offered) (terms : List Term) where
  shaken-if : (at index : ℕ) (proc : Proc) (ready : Ready) → proc_at procs at ≡ proc → ready_at rows at index ≡ ready → (found : Option (List Bind)) →
      map (λ received. shaken procs rows sender sent terms (partner_at at received)) (received_if index found) ≡ handshake_if sender sent terms proc (offer_at proc ready.offer) found
  shaken-if at index proc ready e f None = refl
  shaken-if at index proc ready e f (Some binds) =
      ap (λ (p : Proc). Handshake sender sent p (offer_at p (ready_at rows at index).offer) terms binds ∷ []) e
      ∙ ap (λ (r : Ready). Handshake sender sent proc (offer_at proc r.offer) terms binds ∷ []) f

  shaken-reception : (at index : ℕ) (proc : Proc) (ready : Ready) → proc_at procs at ≡ proc → ready_at rows at index ≡ ready → (does : Action) →
      map (λ received. shaken procs rows sender sent terms (partner_at at received)) (reception terms index does) ≡ handshake_of sender sent terms proc (offer_at proc ready.offer) (Some does)
  shaken-reception at index proc ready e f (action.Own own) = refl
  shaken-reception at index proc ready e f (action.Send other) = refl
  shaken-reception at index proc ready e f (action.Receive patterns) = shaken-if at index proc ready e f (match_list patterns terms)

  -- the receiving actions of a process are its handshakes with the sender
  shaken-receptions : (at : ℕ) (row : Row) (proc : Proc) → slice_get rows at ≡ Some row → slice_get procs at ≡ Some proc → (index : ℕ) (some : List Ready) → StandAt row.ready index some →
      map (λ received. shaken procs rows sender sent terms (partner_at at received)) (receptions terms index some)
      ≡ flat_map (λ (ready : Ready). handshake_of sender sent terms proc (offer_at proc ready.offer) (Some ready.action)) some
  shaken-receptions at row proc e f index [] h = refl
  shaken-receptions at row proc e f index (ready ∷ others) h =
      map-append (λ received. shaken procs rows sender sent terms (partner_at at received)) (reception terms index ready.action) (receptions terms (index + 1) others)
      ∙ both-append _ _ _ _
      (shaken-reception at index proc ready (get_or_from_slice_get procs at proc no_proc f) (ready_at-is rows at index row ready e h.0) ready.action)
      (shaken-receptions at row proc e f (index + 1) others h.1)

-- one process, unless it is the sender, and the others
partner-by : (f : Partner → Move) (b : Bool) (found : List Partner) (moves rest : List Move) → map f found ≡ moves → map f (if b then [] else found) ++ rest ≡ (if not b then moves ++ rest else rest)
partner-by f true found moves rest e = refl
partner-by f false found moves rest e = ap (λ ms. ms ++ rest) e

kept-by : (f : Proc → List Move) (b : Bool) (proc : Proc) (procs : List Proc) → (if b then f proc ++ flat_map f procs else flat_map f procs) ≡ flat_map f (if b then proc ∷ procs else procs)
kept-by f true proc procs = refl
kept-by f false proc procs = refl

module _ (bus : Bus) (rows : List Row) where
  shaken-with : (sender : Proc) (sent : Offered) (terms : List Term) (at : ℕ) (row : Row) (proc : Proc) → slice_get rows at ≡ Some row → slice_get bus.procs at ≡ Some proc → IsRowOf bus.program.bodies bus.now row proc →
      map (λ received. shaken bus.procs rows sender sent terms (partner_at at received)) (receptions terms 0 row.ready) ≡ handshakes_with bus sender sent terms proc
  unfolding handshakes_with
  shaken-with sender sent terms at row proc e f is =
      shaken-receptions bus.procs rows sender sent terms at row proc e f 0 row.ready (stand-whole row.ready)
      ∙ ap (flat_map (λ (ready : Ready). handshake_of sender sent terms proc (offer_at proc ready.offer) (Some ready.action))) is.ready
      ∙ offered-readies (handshake_of sender sent terms proc) (λ offered. refl) (atoms_of bus.program.bodies proc.body) bus.now (offers proc.term proc.store) 0 (offers proc.term proc.store) (stand-whole (offers proc.term proc.store))

  -- the partners that a search finds are the receivers of the handshakes
  shaken-partners : (sender : Proc) (sent : Offered) (terms : List Term) (at : ℕ) (some : List Row) (them : List Proc) → StandAt rows at some → StandAt bus.procs at them → AreRowsOf bus.program.bodies bus.now some them →
      map (shaken bus.procs rows sender sent terms) (partners sender.number terms at some) ≡ flat_map (handshakes_with bus sender sent terms) (filter (λ other. not (other.number == sender.number)) them)
  shaken-partners sender sent terms at [] [] e f h = refl
  shaken-partners sender sent terms at [] (proc ∷ them) e f h = absurd h
  shaken-partners sender sent terms at (row ∷ some) [] e f h = absurd h
  shaken-partners sender sent terms at (row ∷ some) (proc ∷ them) e f h =
      let view = shaken bus.procs rows sender sent terms in
      let meets = handshakes_with bus sender sent terms in
      let others = filter (λ (other : Proc). not (other.number == sender.number)) them in
      map-append view (partner_in sender.number terms at row) (partners sender.number terms (at + 1) some)
      ∙ ap (λ ms. map view (partner_in sender.number terms at row) ++ ms) (shaken-partners sender sent terms (at + 1) some them e.1 f.1 h.1)
      ∙ partner-by view (row.number == sender.number) (map (partner_at at) (receptions terms 0 row.ready)) (meets proc) (flat_map meets others)
      (map-twice view (partner_at at) (receptions terms 0 row.ready) ∙ shaken-with sender sent terms at row proc e.0 f.0 h.0)
      ∙ ap (λ n. if not (n == sender.number) then meets proc ++ flat_map meets others else flat_map meets others) h.0.number
      ∙ kept-by meets (not (proc.number == sender.number)) proc others

-- an action that a process does by itself has a finding if and only if it has an effect
found-by : (view : Candidate → Move) (make : Finding → Candidate) (proc : Proc) (offered : Offered) (effect : Option Effect) (found : Option Finding) →
    ((f : Finding) → view (make f) ≡ own_move proc offered effect) → is_some found ≡ is_some effect → map view (map make (option_to_list found)) ≡ own_if proc offered effect
found-by view make proc offered None None h e = refl
found-by view make proc offered None (Some found) h e = cc
found-by view make proc offered (Some effect) None h e = cc
found-by view make proc offered (Some effect) (Some found) h e = ap (λ move. move ∷ []) (h found)

module _ (bus : Bus) (scene : Scene) (is : IsSceneOf bus scene) where
  shaken-all : (sender : Proc) (sent : Offered) (terms : List Term) → map (shaken bus.procs scene.rows sender sent terms) (partners sender.number terms 0 scene.rows) ≡ handshakes bus sender sent terms
  unfolding handshakes
  shaken-all sender sent terms = shaken-partners bus scene.rows sender sent terms 0 scene.rows bus.procs (stand-whole scene.rows) (stand-whole bus.procs) is.rows_are

  -- the move of the action at an index, if the process does it by itself
  move_by-is : (at index : ℕ) (proc : Proc) (ready : Ready) → proc_at bus.procs at ≡ proc → ready_at scene.rows at index ≡ ready → (does : Action) → ready.action ≡ does →
      move_by bus scene.rows at index ≡ own_move proc (offer_at proc ready.offer) (effect_of bus proc does)
  move_by-is at index proc ready e f does d =
      ap (λ (p : Proc). own_move p (offer_at p (ready_at scene.rows at index).offer) (effect_of bus p (ready_at scene.rows at index).action)) e
      ∙ ap (λ (r : Ready). own_move proc (offer_at proc r.offer) (effect_of bus proc r.action)) f
      ∙ ap (λ d. own_move proc (offer_at proc ready.offer) (effect_of bus proc d)) d

  -- the moves of one action
  moved-by : (at index : ℕ) (row : Row) (proc : Proc) (ready : Ready) → proc_at bus.procs at ≡ proc → ready_at scene.rows at index ≡ ready → IsRowOf bus.program.bodies bus.now row proc → (does : Action) → ready.action ≡ does →
      map (move_of bus scene.rows) (candidates_by scene at row index does) ≡ moves_by bus proc (offer_at proc ready.offer) (Some does)
  moved-by at index row proc ready e f row_is (action.Own own) d =
      found-by (move_of bus scene.rows) (candidate.Own at index) proc (offer_at proc ready.offer) (own_effect bus proc own) (finding_of scene row own)
      (λ found. move_by-is at index proc ready e f (action.Own own) d) (happens-is bus scene is row proc row_is.inbox row_is.body own)
  moved-by at index row proc ready e f row_is (action.Send terms) d =
      let partners_now = partners row.number terms 0 scene.rows in
      map-twice (move_of bus scene.rows) (candidate.Handshake at index) partners_now
      ∙ ap (λ (p : Proc). map (shaken bus.procs scene.rows p (offer_at p (ready_at scene.rows at index).offer) (sent_in (ready_at scene.rows at index).action)) partners_now) e
      ∙ ap (λ (r : Ready). map (shaken bus.procs scene.rows proc (offer_at proc r.offer) (sent_in r.action)) partners_now) f
      ∙ ap (λ d. map (shaken bus.procs scene.rows proc (offer_at proc ready.offer) (sent_in d)) partners_now) d
      ∙ ap (λ n. map (shaken bus.procs scene.rows proc (offer_at proc ready.offer) terms) (partners n terms 0 scene.rows)) row_is.number
      ∙ shaken-all proc (offer_at proc ready.offer) terms
  moved-by at index row proc ready e f row_is (action.Receive patterns) d = refl

  -- the moves of the actions of one process
  moved-among : (at : ℕ) (row : Row) (proc : Proc) → slice_get scene.rows at ≡ Some row → slice_get bus.procs at ≡ Some proc → IsRowOf bus.program.bodies bus.now row proc → (index : ℕ) (some : List Ready) → StandAt row.ready index some →
      map (move_of bus scene.rows) (candidates_among scene at row index some) ≡ flat_map (λ (ready : Ready). moves_by bus proc (offer_at proc ready.offer) (Some ready.action)) some
  moved-among at row proc e f row_is index [] h = refl
  moved-among at row proc e f row_is index (ready ∷ others) h =
      map-append (move_of bus scene.rows) (candidates_by scene at row index ready.action) (candidates_among scene at row (index + 1) others)
      ∙ both-append _ _ _ _
      (moved-by at index row proc ready (get_or_from_slice_get bus.procs at proc no_proc f) (ready_at-is scene.rows at index row ready e h.0) row_is ready.action refl)
      (moved-among at row proc e f row_is (index + 1) others h.1)

  moved-of : (at : ℕ) (row : Row) (proc : Proc) → slice_get scene.rows at ≡ Some row → slice_get bus.procs at ≡ Some proc → IsRowOf bus.program.bodies bus.now row proc →
      map (move_of bus scene.rows) (candidates_of scene at row) ≡ moves_of bus proc
  unfolding moves_of
  moved-of at row proc e f row_is =
      moved-among at row proc e f row_is 0 row.ready (stand-whole row.ready)
      ∙ ap (flat_map (λ (ready : Ready). moves_by bus proc (offer_at proc ready.offer) (Some ready.action))) row_is.ready
      ∙ offered-readies (moves_by bus proc) (λ offered. refl) (atoms_of bus.program.bodies proc.body) bus.now (offers proc.term proc.store) 0 (offers proc.term proc.store) (stand-whole (offers proc.term proc.store))

  -- the moves of a part of the processes
  moved-from : (at : ℕ) (some : List Row) (them : List Proc) → StandAt scene.rows at some → StandAt bus.procs at them → AreRowsOf bus.program.bodies bus.now some them →
      map (move_of bus scene.rows) (candidates_from scene at some) ≡ flat_map (moves_of bus) them
  moved-from at [] [] e f h = refl
  moved-from at [] (proc ∷ them) e f h = absurd h
  moved-from at (row ∷ some) [] e f h = absurd h
  moved-from at (row ∷ some) (proc ∷ them) e f h =
      map-append (move_of bus scene.rows) (candidates_of scene at row) (candidates_from scene (at + 1) some)
      ∙ both-append _ _ _ _ (moved-of at row proc e.0 f.0 h.0) (moved-from (at + 1) some them e.1 f.1 h.1)

-- the first of a mapped list
pub first-map : {A B : Type 0} (f : A → B) (xs : List A) → option_map f (first xs) ≡ first (map f xs)
first-map f [] = refl
first-map f (x ∷ xs) = refl

-- one element of a filtered list, by the result of its test
filter-in : {A : Type 0} (p : A → Bool) (x : A) (xs : List A) (b : Bool) → b ≡ true → (if b then x ∷ xs else xs) ≡ x ∷ xs
filter-in p x xs true e = refl
filter-in p x xs false e = cc

filter-out : {A : Type 0} (p : A → Bool) (x : A) (xs : List A) (b : Bool) → b ≡ false → (if b then x ∷ xs else xs) ≡ xs
filter-out p x xs true e = cc
filter-out p x xs false e = refl

abbrev is_after : ℕ → Proc → Bool
is_after last proc = nat_lt last proc.number

abbrev is_up_to : ℕ → Proc → Bool
is_up_to last proc = nat_le proc.number last

kept : (p : Proc → Bool) (proc : Proc) (procs : List Proc) → p proc ≡ true → filter p (proc ∷ procs) ≡ proc ∷ filter p procs
kept p proc procs e = filter-in p proc (filter p procs) (p proc) e

dropped : (p : Proc → Bool) (proc : Proc) (procs : List Proc) → p proc ≡ false → filter p (proc ∷ procs) ≡ filter p procs
dropped p proc procs e = filter-out p proc (filter p procs) (p proc) e

module _ (bodies : List Body) (now : ℕ) where
  rows-drop : (k : ℕ) (rows : List Row) (procs : List Proc) → AreRowsOf bodies now rows procs → AreRowsOf bodies now (drop k rows) (drop k procs)
  rows-drop zero rows procs h = h
  rows-drop (suc k) [] [] h = h
  rows-drop (suc k) [] (proc ∷ procs) h = absurd h
  rows-drop (suc k) (row ∷ rows) [] h = absurd h
  rows-drop (suc k) (row ∷ rows) (proc ∷ procs) h = rows-drop k rows procs h.1

  rows-take : (k : ℕ) (rows : List Row) (procs : List Proc) → AreRowsOf bodies now rows procs → AreRowsOf bodies now (take k rows) (take k procs)
  rows-take zero rows procs h = tt
  rows-take (suc k) [] [] h = tt
  rows-take (suc k) [] (proc ∷ procs) h = absurd h
  rows-take (suc k) (row ∷ rows) [] h = absurd h
  rows-take (suc k) (row ∷ rows) (proc ∷ procs) h = (h.0, rows-take k rows procs h.1)

  -- if all numbers are above that of the last starter, all processes are after it
  all-after : (below last : ℕ) (rows : List Row) (procs : List Proc) → last ≤ below → AreRowsOf bodies now rows procs → ascend below rows ≡ true → filter (is_after last) procs ≡ procs
  all-after below last [] [] le h a = refl
  all-after below last [] (proc ∷ procs) le h a = absurd h
  all-after below last (row ∷ rows) [] le h a = absurd h
  all-after below last (row ∷ rows) (proc ∷ procs) le h a =
      let t = ascend-first below row rows a in
      let n = h.0.number in
      let above : last < row.number = omega (arith, t.0) in
      let here : is_after last proc ≡ true = lt-ltb last proc.number (omega (arith, n, above)) in
      kept (is_after last) proc procs here
      ∙ ap (λ ps. proc ∷ ps) (all-after row.number last rows procs (omega (arith, above)) h.1 t.1)

  none-up_to : (below last : ℕ) (rows : List Row) (procs : List Proc) → last ≤ below → AreRowsOf bodies now rows procs → ascend below rows ≡ true → filter (is_up_to last) procs ≡ []
  none-up_to below last [] [] le h a = refl
  none-up_to below last [] (proc ∷ procs) le h a = absurd h
  none-up_to below last (row ∷ rows) [] le h a = absurd h
  none-up_to below last (row ∷ rows) (proc ∷ procs) le h a =
      let t = ascend-first below row rows a in
      let n = h.0.number in
      let above : last < row.number = omega (arith, t.0) in
      let here : is_up_to last proc ≡ false = lt-leb proc.number last (omega (arith, n, above)) in
      dropped (is_up_to last) proc procs here
      ∙ none-up_to row.number last rows procs (omega (arith, above)) h.1 t.1

  after-by : (below last : ℕ) (row : Row) (rows : List Row) (proc : Proc) (procs : List Proc) → AreRowsOf bodies now (row ∷ rows) (proc ∷ procs) → ascend below (row ∷ rows) ≡ true →
      filter (is_after last) procs ≡ drop (up_to last rows) procs → filter (is_up_to last) procs ≡ take (up_to last rows) procs →
      (b : Bool) → nat_le row.number last ≡ b →
      (filter (is_after last) (proc ∷ procs) ≡ drop (if b then 1 + up_to last rows else 0) (proc ∷ procs)) × (filter (is_up_to last) (proc ∷ procs) ≡ take (if b then 1 + up_to last rows else 0) (proc ∷ procs))
  after-by below last row rows proc procs h a f g true b =
      let n = h.0.number in
      let small : row.number ≤ last = leb-true row.number last b in
      let here : is_after last proc ≡ false = le-ltb last proc.number (omega (arith, n, small)) in
      let there : is_up_to last proc ≡ true = le-leb proc.number last (omega (arith, n, small)) in
      let one : 1 + up_to last rows ≡ suc (up_to last rows) = omega arith in
      (rw one (dropped (is_after last) proc procs here ∙ f), rw one (kept (is_up_to last) proc procs there ∙ ap (λ ps. proc ∷ ps) g))
  after-by below last row rows proc procs h a f g false b =
      let n = h.0.number in
      let t = ascend-first below row rows a in
      let above : last < row.number = leb-false row.number last b in
      let here : is_after last proc ≡ true = lt-ltb last proc.number (omega (arith, n, above)) in
      let there : is_up_to last proc ≡ false = lt-leb proc.number last (omega (arith, n, above)) in (
        kept (is_after last) proc procs here ∙ ap (λ ps. proc ∷ ps) (all-after row.number last rows procs (omega (arith, above)) h.1 t.1),
        dropped (is_up_to last) proc procs there ∙ none-up_to row.number last rows procs (omega (arith, above)) h.1 t.1,
      )

  -- the processes up to the last starter come first, as their rows do
  turn-parts : (below last : ℕ) (rows : List Row) (procs : List Proc) → AreRowsOf bodies now rows procs → ascend below rows ≡ true →
      (filter (is_after last) procs ≡ drop (up_to last rows) procs) × (filter (is_up_to last) procs ≡ take (up_to last rows) procs)
  turn-parts below last [] [] h a = (refl, refl)
  turn-parts below last [] (proc ∷ procs) h a = absurd h
  turn-parts below last (row ∷ rows) [] h a = absurd h
  turn-parts below last (row ∷ rows) (proc ∷ procs) h a =
      let t = ascend-first below row rows a in
      let rest = turn-parts row.number last rows procs h.1 t.1 in
      after-by below last row rows proc procs h a rest.0 rest.1 (nat_le row.number last) refl

or_halt-map : (view : Candidate → Move) → view candidate.Halt ≡ Halt → (no_ticks : Bool) (candidates : List Candidate) → map view (candidates_or_halt no_ticks candidates) ≡ moves_or_halt no_ticks (map view candidates)
or_halt-map view e true [] = ap (λ move. move ∷ []) e
or_halt-map view e false [] = refl
or_halt-map view e no_ticks (found ∷ candidates) = refl

down-map : (view : Candidate → Move) (down : Bool) (candidates : List Candidate) → map view (if down then [] else candidates) ≡ (if down then [] else map view candidates)
down-map view true candidates = refl
down-map view false candidates = refl

module _ (bus : Bus) (scene : Scene) (marks : Marks) (is : IsSearchedFor bus scene marks) (a : ascend 0 scene.rows ≡ true) where
  -- The candidates in turn are the moves of the processes in turn.
  moves_in_turn : map (move_of bus scene.rows) (candidates_in_turn scene bus.last_starter) ≡ moves_of_all bus
  unfolding candidates_in_turn moves_of_all
  moves_in_turn =
      let scene_is = scene-is bus scene marks is in
      let at = up_to bus.last_starter scene.rows in
      let view = move_of bus scene.rows in
      let parts = turn-parts bus.program.bodies bus.now 0 bus.last_starter scene.rows bus.procs scene_is.rows_are a in
      let after = filter (is_after bus.last_starter) bus.procs in
      let others = filter (is_up_to bus.last_starter) bus.procs in
      map-append view (candidates_from scene at (drop at scene.rows)) (candidates_from scene 0 (take at scene.rows))
      ∙ both-append _ _ _ _
      (moved-from bus scene scene_is at (drop at scene.rows) (drop at bus.procs) (stand-drop at scene.rows) (stand-drop at bus.procs) (rows-drop bus.program.bodies bus.now at scene.rows bus.procs scene_is.rows_are) ∙ ap (flat_map (moves_of bus)) (sym parts.0))
      (moved-from bus scene scene_is 0 (take at scene.rows) (take at bus.procs) (stand-take at scene.rows) (stand-take at bus.procs) (rows-take bus.program.bodies bus.now at scene.rows bus.procs scene_is.rows_are) ∙ ap (flat_map (moves_of bus)) (sym parts.1))
      ∙ sym (flat_map-append (moves_of bus) after others)

  while_up-map : (some : List Row) (them : List Proc) → AreRowsOf scene.bodies bus.now some them → map (move_of bus scene.rows) (candidates_while_up scene marks some) ≡ moves_while_up bus them
  while_up-map [] [] h = refl
  while_up-map [] (proc ∷ them) h = absurd h
  while_up-map (row ∷ some) [] h = absurd h
  while_up-map (row ∷ some) (proc ∷ them) h =
      let view = move_of bus scene.rows in
      or_halt-map view refl marks.no_ticks (candidates_in_turn scene marks.last_starter)
      ∙ ap (λ no_ticks. moves_or_halt no_ticks (map view (candidates_in_turn scene marks.last_starter))) (sym is.no_ticks_is)
      ∙ ap (λ last. moves_or_halt bus.no_ticks (map view (candidates_in_turn scene last))) (sym is.last_is)
      ∙ ap (moves_or_halt bus.no_ticks) moves_in_turn

  -- All candidates are all moves of the bus, in order.
  pub moves_found : map (move_of bus scene.rows) (all_candidates scene marks) ≡ moves bus
  unfolding all_candidates moves
  moves_found =
      down-map (move_of bus scene.rows) marks.down (candidates_while_up scene marks scene.rows)
      ∙ ap (λ ms. if marks.down then [] else ms) (while_up-map scene.rows bus.procs is.rows_are)
      ∙ ap (λ down. if down then [] else moves_while_up bus bus.procs) (sym is.down_is)

  -- The first candidate is the first move.
  pub first_moves : option_map (move_of bus scene.rows) (first (all_candidates scene marks)) ≡ first (moves bus)
  first_moves = first-map (move_of bus scene.rows) (all_candidates scene marks) ∙ ap first moves_found
