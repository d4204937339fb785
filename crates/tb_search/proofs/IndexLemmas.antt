-- A process that an index doesn't name leads to no candidate: it receives no message, or begins nothing.
use Rattle.std.proofs.Common.{◌≡◌, ℕ, ◌+◌, ◌<◌, ◌==◌, ◌||◌, List, [], ◌∷◌, ◌++◌, map, length, refl, ap, subst, ◌∙◌, arith, Option, Some, None, Bool, true, false, not, is_some, option_map, option_to_list, if◌then◌else◌, inl, inr, ⊎_elim}
use Rattle.std.proofs.lemmas.Bool.{both_ways, and_parts, or_cases, or_left, or_right, eqb-true, cases_Bool}
use Rattle.std.proofs.lemmas.List.{length-append, get_or_append_left, get_or-append-add}
use Rattle.std.proofs.lemmas.List.Elements.{All-head, All-tail, All-get_or}
use Rattle.std.specs.List.{All}
use Rattle.tb_terms.specs.declared.term.Term.{Term}
use Rattle.tb_terms.specs.declared.pattern.Pattern.{Pattern}
use Rattle.tb_match.specs.declared.bind.Bind.{Bind}
use Rattle.tb_match.specs.Matches.{match_list}
use Rattle.tb_index.specs.Marks.{sent_mark, received_mark, meets, wide, open_head}
use Rattle.tb_index.specs.Indexes.{IndexState, sends, receives, is_receiver, is_awake, MayBegin}
use Rattle.tb_index.specs.declared.mark.Mark.{Mark}
use Rattle.tb_index.proofs.MarkLemmas.{matched-meets}
use Rattle.tb_search.specs.Candidates.{Row, Scene, no_row, row_at, received_if, reception, receptions, partner_in, partners, plain_if, finding_of, setting_in, candidates_by, candidates_among, candidates_of}
use Rattle.tb_search.specs.Indexed.{sent_by, received_by, sent_marks, received_marks, IsIndexed, SleepsAtRest, all_rest, own_rests, rests}
use Rattle.tb_notes.specs.Inboxes.{oldest_match}
use Rattle.tb_bus.specs.Exchanges.{Setting, exchange_for, setting_by}
use Rattle.tb_bus.specs.declared.action.Action.{Action}
use Rattle.tb_bus.specs.declared.action.Action.TheVariants as action
use Rattle.tb_bus.specs.declared.action.OwnAction.{OwnAction}
use Rattle.tb_bus.specs.declared.action.OwnAction.TheVariants as own
use Rattle.tb_search.specs.declared.candidate.Finding.{Finding}
use Rattle.tb_search.specs.declared.candidate.Finding.TheVariants as finding
use Rattle.tb_search.specs.declared.candidate.Candidate.{Candidate}
use Rattle.tb_search.specs.declared.candidate.Candidate.TheVariants as candidate
use Rattle.tb_search.specs.declared.candidate.Received.{Received}
use Rattle.tb_search.specs.declared.living.Ready.{Ready}
use Rattle.tb_search.proofs.PartLemmas.{both-append}
use Rattle.tb_search.proofs.RowLemmas.{partner_at}

pub all-left : {A : Type 0} (P : A → Type 0) (xs ys : List A) → All P (xs ++ ys) → All P xs
all-left P xs ys h k d l =
    let many = length-append xs ys in
    subst P (get_or_append_left xs ys d k l) (h k d (omega (arith, many, l)))

pub all-right : {A : Type 0} (P : A → Type 0) (xs ys : List A) → All P (xs ++ ys) → All P ys
all-right P xs ys h k d l =
    let many = length-append xs ys in
    subst P (get_or-append-add xs ys k d) (h (length xs + k) d (omega (arith, many, l)))

mark-of : (count head other_count other_head : ℕ) → count ≡ other_count → head ≡ other_head → ◌≡◌ {A = Mark} (record { count = count; head = head }) (record { count = other_count; head = other_head })
mark-of count head other_count other_head e f =
    ap (λ (n : ℕ). record { count = n; head = head }) e ∙ ap (λ (n : ℕ). record { count = other_count; head = n }) f

-- a process that receives under a mark receives each message whose mark it meets
meeting : (index : IndexState) (received sent : Mark) (proc : ℕ) → meets received sent ≡ true → receives index received proc ≡ true → is_receiver index sent proc ≡ true
meeting index received sent proc m h =
    let t = and_parts (received.count == sent.count) ((received.head == open_head) || (received.head == sent.head)) m in
    let many : received.count ≡ sent.count = eqb-true received.count sent.count t.0 in
    ⊎_elim
    (λ (e : (received.head == open_head) ≡ true).
    let same : received ≡ wide sent = mark-of received.count received.head sent.count open_head many (eqb-true received.head open_head e) in
    or_right (receives index sent proc) (receives index (wide sent) proc) (subst (λ mark. receives index mark proc ≡ true) same h))
    (λ (e : (received.head == sent.head) ≡ true).
    let same : received ≡ sent = mark-of received.count received.head sent.count sent.head many (eqb-true received.head sent.head e) in
    or_left (receives index sent proc) (receives index (wide sent) proc) (subst (λ mark. receives index mark proc ≡ true) same h))
    (or_cases (received.head == open_head) (received.head == sent.head) t.1)

module _ (index : IndexState) (terms : List Term) where
  module _ (proc : ℕ) (deaf : is_receiver index (sent_mark terms) proc ≡ false) where
    matched-deaf : (at : ℕ) (patterns : List Pattern) (binds : Option (List Bind)) → match_list patterns terms ≡ binds → receives index (received_mark patterns) proc ≡ true → received_if at binds ≡ []
    matched-deaf at patterns None e h = refl
    matched-deaf at patterns (Some binds) e h =
        absurd (both_ways (is_receiver index (sent_mark terms) proc) deaf (meeting index (received_mark patterns) (sent_mark terms) proc (matched-meets patterns terms binds e) h))

    reception-deaf : (at : ℕ) (does : Action) → All (λ (mark : Mark). receives index mark proc ≡ true) (received_by does) → reception terms at does ≡ []
    reception-deaf at (action.Own own) h = refl
    reception-deaf at (action.Send other) h = refl
    reception-deaf at (action.Receive patterns) h =
        matched-deaf at patterns (match_list patterns terms) refl (All-head (λ (mark : Mark). receives index mark proc ≡ true) (received_mark patterns) [] h)

    receptions-deaf : (at : ℕ) (some : List Ready) → All (λ (mark : Mark). receives index mark proc ≡ true) (received_marks some) → receptions terms at some ≡ []
    receptions-deaf at [] h = refl
    receptions-deaf at (ready ∷ others) h =
        both-append (reception terms at ready.action) [] (receptions terms (at + 1) others) []
        (reception-deaf at ready.action (all-left (λ (mark : Mark). receives index mark proc ≡ true) (received_by ready.action) (received_marks others) h))
        (receptions-deaf (at + 1) others (all-right (λ (mark : Mark). receives index mark proc ≡ true) (received_by ready.action) (received_marks others) h))

  partner-none : (at : ℕ) (b : Bool) (found : List Received) → found ≡ [] → (if b then [] else map (partner_at at) found) ≡ []
  partner-none at true found e = refl
  partner-none at false found e = ap (map (partner_at at)) e

  -- a process that isn't named as a receiver doesn't receive the message
  pub partner-deaf : (number at : ℕ) (row : Row) → IsIndexed index row → is_receiver index (sent_mark terms) row.number ≡ false → partner_in number terms at row ≡ []
  partner-deaf number at row h deaf =
      partner-none at (row.number == number) (receptions terms 0 row.ready) (receptions-deaf row.number deaf 0 row.ready h.received)

  partners-deaf : (number at : ℕ) (rows : List Row) → All (IsIndexed index) rows → ((proc : ℕ) → is_receiver index (sent_mark terms) proc ≡ false) → partners number terms at rows ≡ []
  partners-deaf number at [] h deaf = refl
  partners-deaf number at (row ∷ rows) h deaf =
      both-append (partner_in number terms at row) [] (partners number terms (at + 1) rows) []
      (partner-deaf number at row (All-head (IsIndexed index) row rows h) (deaf row.number))
      (partners-deaf number (at + 1) rows (All-tail (IsIndexed index) row rows h) deaf)

-- without a finding, there is no candidate
led-nowhere : {A : Type 0} (f : Finding → Candidate) (g : A → Finding) (found : Option A) → not (is_some found) ≡ true → map f (option_to_list (option_map g found)) ≡ []
led-nowhere f g None e = refl
led-nowhere f g (Some x) e = cc

led-unless : (f : Finding → Candidate) (there : Bool) → there ≡ true → map f (option_to_list (plain_if (not there))) ≡ []
led-unless f true e = refl
led-unless f false e = cc

-- an action that rests has no candidate
own-rest : (scene : Scene) (row : Row) (at place : ℕ) (does : OwnAction) → own_rests (setting_in scene row) row.inbox does ≡ true → map (candidate.Own at place) (option_to_list (finding_of scene row does)) ≡ []
own-rest scene row at place own.Tau c = cc
own-rest scene row at place (own.Set values binds) c = cc
own-rest scene row at place (own.Print text) c = cc
own-rest scene row at place (own.Notify terms) c = cc
own-rest scene row at place (own.TakeNote patterns) c = led-nowhere (candidate.Own at place) finding.TakeNote (oldest_match patterns row.inbox) c
own-rest scene row at place (own.NoNote patterns) c = led-unless (candidate.Own at place) (is_some (oldest_match patterns row.inbox)) c
own-rest scene row at place (own.Subscribe patterns) c = cc
own-rest scene row at place (own.Unsubscribe patterns) c = cc
own-rest scene row at place (own.Create process actuals slot) c = cc
own-rest scene row at place (own.Speak does) c = led-nowhere (candidate.Own at place) finding.Speak (exchange_for (setting_in scene row) does) c
own-rest scene row at place (own.Shutdown reason) c = cc

module _ (index : IndexState) (scene : Scene) (each : All (IsIndexed index) scene.rows) where
  module _ (row : Row) (unnamed : MayBegin index row.number → ⊥) where
    unheard : (terms : List Term) → sends index (sent_mark terms) row.number ≡ true → (proc : ℕ) → is_receiver index (sent_mark terms) proc ≡ false
    unheard terms h proc = ⊎_elim
        (λ (e : is_receiver index (sent_mark terms) proc ≡ true). absurd (unnamed (inr (sent_mark terms, proc, h, e))))
        (λ (e : is_receiver index (sent_mark terms) proc ≡ false). e)
        (cases_Bool (is_receiver index (sent_mark terms) proc))

    by-rest : (at place : ℕ) (does : Action) → rests (setting_in scene row) row.inbox does ≡ true → All (λ (mark : Mark). sends index mark row.number ≡ true) (sent_by does) → candidates_by scene at row place does ≡ []
    by-rest at place (action.Own own) c h = own-rest scene row at place own c
    by-rest at place (action.Send terms) c h =
        ap (map (candidate.Handshake at place))
        (partners-deaf index terms row.number 0 scene.rows each (unheard terms (All-head (λ (mark : Mark). sends index mark row.number ≡ true) (sent_mark terms) [] h)))
    by-rest at place (action.Receive patterns) c h = refl

    among-rest : (at place : ℕ) (some : List Ready) → all_rest (setting_in scene row) row.inbox some ≡ true → All (λ (mark : Mark). sends index mark row.number ≡ true) (sent_marks some) → candidates_among scene at row place some ≡ []
    among-rest at place [] c h = refl
    among-rest at place (ready ∷ others) c h =
        let t = and_parts (rests (setting_in scene row) row.inbox ready.action) (all_rest (setting_in scene row) row.inbox others) c in
        both-append (candidates_by scene at row place ready.action) [] (candidates_among scene at row (place + 1) others) []
        (by-rest at place ready.action t.0 (all-left (λ (mark : Mark). sends index mark row.number ≡ true) (sent_by ready.action) (sent_marks others) h))
        (among-rest at (place + 1) others t.1 (all-right (λ (mark : Mark). sends index mark row.number ≡ true) (sent_by ready.action) (sent_marks others) h))

    -- a process that isn't named as a starter has no candidate
    pub of-asleep : (at : ℕ) → IsIndexed index row → SleepsAtRest (setting_by scene.bodies scene.kinds scene.bench) index row → candidates_of scene at row ≡ []
    of-asleep at h sleeps =
        let asleep : is_awake index row.number ≡ false = ⊎_elim
        (λ (e : is_awake index row.number ≡ true). absurd (unnamed (inl e)))
        (λ (e : is_awake index row.number ≡ false). e)
        (cases_Bool (is_awake index row.number)) in
        among-rest at 0 row.ready (sleeps asleep) h.sent

-- the claim about sleeping processes, for the row at a place
pub asleep-at : (settings : ℕ → Setting) (index : IndexState) (rows : List Row) (place : ℕ) → All (SleepsAtRest settings index) rows → place < length rows → SleepsAtRest settings index (row_at rows place)
asleep-at settings index rows place h within = All-get_or (SleepsAtRest settings index) rows place no_row within h

-- the claim about the marks, for the row at a place
pub indexed-at : (index : IndexState) (rows : List Row) (place : ℕ) → All (IsIndexed index) rows → place < length rows → IsIndexed index (row_at rows place)
indexed-at index rows place h within = All-get_or (IsIndexed index) rows place no_row within h
