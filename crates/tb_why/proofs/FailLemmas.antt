-- If an offer has a reason, the condition that the reason names fails.
use Rattle.std.proofs.Common.{◌≡◌, ◌⊎◌, ◌==◌, ◌&&◌, ◌||◌, ℕ, Bool, true, false, not, nat_le, nat_lt, List, [], ◌∷◌, map, filter, length, sum, slice_get, Option, Some, None, is_some, option_map, option_and_then, Contains, if◌then◌else◌, refl, ap, sym, ◌∙◌, subst, inl, inr, arith}
use Rattle.std.specs.List.{list_any}
use Rattle.std.proofs.lemmas.List.{length-map}
use Rattle.std.proofs.lemmas.Option.{MatchOption-at_some}
use Rattle.tb_terms.specs.declared.term.Term.{Term}
use Rattle.tb_terms.specs.declared.expr.Expr.{Expr}
use Rattle.tb_terms.specs.declared.pattern.Pattern.{Pattern}
use Rattle.tb_terms.specs.Same.{is_same_term}
use Rattle.tb_terms.specs.Sizes.{is_within_limits, most_term_size, term_size}
use Rattle.tb_func.specs.Printing.{printf_of}
use Rattle.tb_func.specs.Arguments.{of_both}
use Rattle.tb_func.specs.Values.{all_of, value_of}
use Rattle.tb_func.specs.declared.slot.Slot.{Slot}
use Rattle.tb_match.specs.Matches.{match_list}
use Rattle.tb_match.specs.declared.bind.Bind.{Bind}
use Rattle.tb_body.specs.declared.act.Act.{Act}
use Rattle.tb_body.specs.declared.act.Act.TheVariants.{Delta, Tau, SndMsg, RecMsg, SndNote, RecNote, NoNote, Subscribe, Unsubscribe, Create, Set, Printf, Execute, RecConnect, RecDisconnectAny, RecDisconnect, SndEval, RecValue, SndDo, RecEvent, SndAckEvent, SndTerminate, Shutdown}
use Rattle.tb_body.specs.declared.atom.Atom.{Atom}
use Rattle.tb_body.specs.declared.body.Body.{Body}
use Rattle.tb_body.specs.declared.program.Tool.{Tool as ToolKind}
use Rattle.tb_process_steps.specs.Atoms.{limited_together, matched_exprs, patterns_of, sent_exprs, values_together}
use Rattle.tb_process_steps.specs.Binds.{has_slot_sort}
use Rattle.tb_process_steps.specs.Offers.{Offered, offers}
use Rattle.tb_notes.specs.Inboxes.{oldest_match}
use Rattle.tb_notes.specs.declared.queue.Found.{Found}
use Rattle.tb_tools.specs.declared.stage.Eval.{Eval}
use Rattle.tb_tools.specs.declared.stage.Eval.TheVariants as eval
use Rattle.tb_tools.specs.declared.stage.Stage.{Stage}
use Rattle.tb_tools.specs.declared.stage.Stage.TheVariants as stage
use Rattle.tb_tools.specs.Acts.{answer_at, answer_by, answer_of, can_eval, can_leave, is_closed, is_live_at, is_taken_at}
use Rattle.tb_tools.specs.Finding.{find_tool, first_at, free_lane, has_tool, oldest_event, oldest_received}
use Rattle.tb_tools.specs.First.{HasSmallest, IsFirstLane, NoLane, NoToolAt}
use Rattle.tb_tools.specs.Inputs.{has_asked, is_asked}
use Rattle.tb_tools.specs.Lanes.{BenchState, Tool, is_same_stage, of_tool, term_of, tool_at, tool_term}
use Rattle.tb_tools.proofs.Lowest.{first_at-smallest, first_lane-lowest}
use Rattle.tb_bus.specs.Buses.{Bus, Proc, atoms_of}
use Rattle.tb_bus.specs.Effects.{most_alive, number_term, setting_of, takes_note}
use Rattle.tb_bus.specs.Exchanges.{Setting, behind, command_of, name_of, term_on, value_on}
use Rattle.tb_bus.specs.Slots.{fits_formals, fits_slot}
use Rattle.tb_bus.specs.declared.exchange.Exchange.{Exchange}
use Rattle.tb_bus.proofs.OrderLemmas.{contains-cases, contains-further}
use Rattle.tb_why.specs.Failing.{FailsBy, HasPatterns, HasValues, MaySpeakOn, NobodyGivesNow, NobodyTakesNow, SpeaksOn, Takes, TakesAt, act_by, asks, first_of_kind_at, is_ready_by, may_on, speaks}
use Rattle.tb_why.specs.Formats.{format_fault}
use Rattle.tb_why.specs.Reasons.{create_reason, created_reason, end_reason, first_later, first_offer, full_queue, full_reason, gives_later, has_receiver, has_sender, if_so, matches, partner_or, partner_reason, print_reason, queue_of, reason_by, receiver_reason, received_now, receives, scene_of, sender_reason, sends, sent_now, set_reason, sorts_in, takes_later, waits_reason, with_patterns, with_terms}
use Rattle.tb_why.specs.Standing.{offering_of, standing_of, standings}
use Rattle.tb_why.specs.Tools.{answer_reason, at_stage, command_reason, event_reason, execute_reason, found_reason, idle_reason, kind_reason, lane_named, lane_reason, leaving_reason, live_reason, missing, open_reason, received_reason, stage_of, term_reason, tool_reason, unless, value_reason}
use Rattle.tb_why.specs.declared.reason.Partner.{Partner}
use Rattle.tb_why.specs.declared.reason.Reason.{Reason}
use Rattle.tb_why.specs.declared.reason.Reason.TheVariants as reason
use Rattle.tb_why.specs.declared.standing.Offering.{Offering}
use Rattle.tb_why.specs.declared.standing.Standing.{Standing}
use Rattle.tb_why.proofs.FaultLemmas.{faults-so}

-- Tests, options and lists.

is-none : {A : Type 0} (o : Option A) → is_some o ≡ false → o ≡ None
is-none None e = refl
is-none (Some x) e = absurd (let f : true ≡ false = e in cc)

map-none : {A B : Type 0} (f : A → B) (o : Option A) → is_some (option_map f o) ≡ false → o ≡ None
map-none f None e = refl
map-none f (Some x) e = absurd (let f : true ≡ false = e in cc)

both-false : (a b : Bool) → (a || b) ≡ false → (a ≡ false) × (b ≡ false)
both-false true b e = absurd (let f : true ≡ false = e in cc)
both-false false b e = (refl, e)

if-none : {A : Type 0} (b : Bool) (x : A) (rest : Option A) → (if b then Some x else rest) ≡ None → (b ≡ false) × (rest ≡ None)
if-none true x rest e = cc
if-none false x rest e = (refl, e)

if-some : {A : Type 0} (b : Bool) (x y : A) → (if b then Some x else None) ≡ Some y → x ≡ y
if-some true x y e = cc
if-some false x y e = cc

contains-first : {A : Type 0} (x : A) (xs : List A) → Contains (x ∷ xs) x
contains-first x xs = (0, omega arith, refl)

-- Values.

-- there are as many values as expressions: not none for at least one expression, and not two for one expression
not-empty : (store : List Slot) (first : Expr) (exprs : List Expr) → values_together store (first ∷ exprs) ≡ Some [] → ⊥
not-empty store first exprs = by (value_of store first) (all_of (map (value_of store) exprs))
  where
    by : (value : Option Term) (values : Option (List Term)) → option_and_then limited_together (of_both (λ (x : Term) (xs : List Term). Some (x ∷ xs)) value values) ≡ Some [] → ⊥
    by None values e = cc
    by (Some v) None e = cc
    by (Some v) (Some vs) e = let same : v ∷ vs ≡ [] = if-some (nat_le (sum (map term_size (v ∷ vs))) most_term_size) (v ∷ vs) [] e in cc

not-two : (store : List Slot) (expr : Expr) (v w : Term) (vs : List Term) → values_together store (expr ∷ []) ≡ Some (v ∷ w ∷ vs) → ⊥
not-two store expr v w vs = by (value_of store expr)
  where
    by : (value : Option Term) → option_and_then limited_together (of_both (λ (x : Term) (xs : List Term). Some (x ∷ xs)) value (Some [])) ≡ Some (v ∷ w ∷ vs) → ⊥
    by None e = cc
    by (Some u) e = let same : u ∷ [] ≡ v ∷ w ∷ vs = if-some (nat_le (sum (map term_size (u ∷ []))) most_term_size) (u ∷ []) (v ∷ w ∷ vs) e in cc

-- the slot of a body takes what has its sort
slot-sort : (body : Option Body) (slot : ℕ) (value : Term) → fits_slot body slot value ≡ has_slot_sort (sorts_in body slot) value
slot-sort None slot value = refl
slot-sort (Some body) slot value = refl

-- Other processes: one passes a test now, or later.

partner-none : (other : Standing) (found : Option ℕ) (later : Option Partner) → partner_or other found later ≡ None → (found ≡ None) × (later ≡ None)
partner-none other None later e = (refl, e)
partner-none other (Some atom) later e = cc

-- a test that no offer passes
abbrev never : List Atom → Offering → Bool
never atoms offer = false

never-offer : (atoms : List Atom) (offers : List Offering) → first_offer (never atoms) offers ≡ None
never-offer atoms [] = refl
never-offer atoms (offer ∷ offers) = never-offer atoms offers

never-later : (bodies : List Body) (number : ℕ) (others : List Standing) → first_later bodies number never others ≡ None
never-later bodies number [] = refl
never-later bodies number (other ∷ others) =
    by (other.number == number) (first_offer (never (atoms_of bodies other.body)) other.offers) (first_later bodies number never others) (never-offer (atoms_of bodies other.body) other.offers) (never-later bodies number others)
  where
    by : (same : Bool) (found : Option ℕ) (rest : Option Partner) → found ≡ None → rest ≡ None → partner_or other (if same then None else found) rest ≡ None
    by true found rest f r = r
    by false found rest f r = subst (λ (o : Option ℕ). partner_or other o rest ≡ None) (sym f) r

module _ (bus : Bus) (number : ℕ) (now later : List Atom → Offering → Bool) where
  abbrev bodies : List Body
  bodies = bus.program.bodies

  abbrev seen : List Atom → Offered → Offering
  seen atoms offered = offering_of atoms bus.now offered

  abbrev is_apart : Proc → Bool
  is_apart other = not (other.number == number)

  abbrev now_in : Standing → Bool
  now_in other = not (other.number == number) && list_any (now (atoms_of bodies other.body)) other.offers

  -- none of the offers passes
  abbrev Neither : List Atom → Offered → Type 0
  Neither atoms offered = (now atoms (seen atoms offered) ≡ false) × (later atoms (seen atoms offered) ≡ false)

  none-offers : (atoms : List Atom) (os : List Offered) → list_any (now atoms) (map (seen atoms) os) ≡ false → first_offer (later atoms) (map (seen atoms) os) ≡ None → (o : Offered) → Contains os o → Neither atoms o
  none-offers atoms [] n l o c = let h = c.1 in absurd (omega arith)
  none-offers atoms (x ∷ os) n l o c =
      let ns = both-false (now atoms (seen atoms x)) (list_any (now atoms) (map (seen atoms) os)) n in
      let ls = if-none (later atoms (seen atoms x)) x.atom (first_offer (later atoms) (map (seen atoms) os)) l in
      by (ns.0, ls.0) (none-offers atoms os ns.1 ls.1 o) (contains-cases x o os c)
    where
      by : Neither atoms x → (Contains os o → Neither atoms o) → (x ≡ o) ⊎ Contains os o → Neither atoms o
      by here more (inl e) = subst (Neither atoms) e here
      by here more (inr d) = more d

  abbrev NoneOf : Proc → Type 0
  NoneOf other = (o : Offered) → Contains (offers other.term other.store) o → Neither (atoms_of bodies other.body) o

  none-step : (proc other : Proc) (procs : List Proc) (stands : Standing) (same any more_now : Bool) (found : Option ℕ) (more_later : Option Partner) →
      (any ≡ false → found ≡ None → NoneOf proc) → (more_now ≡ false → more_later ≡ None → Contains procs other → NoneOf other) →
      ((not same && any) || more_now) ≡ false → partner_or stands (if same then None else found) more_later ≡ None → Contains (if not same then proc ∷ procs else procs) other → NoneOf other
  none-step proc other procs stands true any more_now found more_later one more n l c = more n l c
  none-step proc other procs stands false any more_now found more_later one more n l c =
      let ns = both-false any more_now n in
      let ls = partner-none stands found more_later l in
      by (one ns.0 ls.0) (more ns.1 ls.1) (contains-cases proc other procs c)
    where
      by : NoneOf proc → (Contains procs other → NoneOf other) → (proc ≡ other) ⊎ Contains procs other → NoneOf other
      by here further (inl e) = subst NoneOf e here
      by here further (inr d) = further d

  none-procs : (procs : List Proc) → list_any now_in (map (standing_of bodies bus.now) procs) ≡ false → first_later bodies number later (map (standing_of bodies bus.now) procs) ≡ None →
      (other : Proc) → Contains (filter is_apart procs) other → NoneOf other
  none-procs [] n l other c = let h = c.1 in absurd (omega arith)
  none-procs (proc ∷ procs) n l other c =
      let stands : Standing = standing_of bodies bus.now proc in
      none-step proc other (filter is_apart procs) stands (proc.number == number) (list_any (now (atoms_of bodies proc.body)) stands.offers) (list_any now_in (map (standing_of bodies bus.now) procs))
      (first_offer (later (atoms_of bodies proc.body)) stands.offers) (first_later bodies number later (map (standing_of bodies bus.now) procs))
      (none-offers (atoms_of bodies proc.body) (offers proc.term proc.store)) (λ n l. none-procs procs n l other) n l c

  -- the one that passes later
  abbrev Later : List Atom → List Offered → ℕ → Type 0
  Later atoms os atom = (o : Offered) × Contains os o × (o.atom ≡ atom) × (later atoms (seen atoms o) ≡ true)

  found-offers : (atoms : List Atom) (os : List Offered) (atom : ℕ) → first_offer (later atoms) (map (seen atoms) os) ≡ Some atom → Later atoms os atom
  found-offers atoms [] atom e = cc
  found-offers atoms (x ∷ os) atom e = by (later atoms (seen atoms x)) (first_offer (later atoms) (map (seen atoms) os)) refl (found-offers atoms os atom) e
    where
      by : (b : Bool) (rest : Option ℕ) → later atoms (seen atoms x) ≡ b → (rest ≡ Some atom → Later atoms os atom) → (if b then Some x.atom else rest) ≡ Some atom → Later atoms (x ∷ os) atom
      by true rest is more e = (x, contains-first x os, let same : x.atom ≡ atom = cc in same, is)
      by false rest is more e = let h = more e in (h.0, contains-further x h.0 os h.1, h.2, h.3)

  -- in one of these processes
  abbrev Partners : List Proc → Partner → Type 0
  Partners procs partner =
      (other : Proc) × (o : Offered) × Contains procs other × Contains (offers other.term other.store) o × (other.number ≡ partner.process) × (other.body ≡ partner.body) × (o.atom ≡ partner.atom)
      × (later (atoms_of bodies other.body) (seen (atoms_of bodies other.body) o) ≡ true)

  found-here : (proc : Proc) (procs : List Proc) (partner : Partner) (found : Option ℕ) (more_later : Option Partner) →
      ((atom : ℕ) → found ≡ Some atom → Later (atoms_of bodies proc.body) (offers proc.term proc.store) atom) → (more_later ≡ Some partner → Partners procs partner) →
      partner_or (standing_of bodies bus.now proc) found more_later ≡ Some partner → Partners (proc ∷ procs) partner
  found-here proc procs partner None more_later one more e = let h = more e in (h.0, h.1, contains-further proc h.0 procs h.2, h.3, h.4, h.5, h.6, h.7)
  found-here proc procs partner (Some atom) more_later one more e =
      let made : Partner = record { process = proc.number; body = proc.body; atom = atom } in
      let same : made ≡ partner = cc in
      let it = one atom refl in
      (proc, it.0, contains-first proc procs, it.1, ap (λ (p : Partner). p.process) same, ap (λ (p : Partner). p.body) same, it.2 ∙ ap (λ (p : Partner). p.atom) same, it.3)

  found-step : (proc : Proc) (procs : List Proc) (partner : Partner) (same : Bool) (found : Option ℕ) (more_later : Option Partner) →
      ((atom : ℕ) → found ≡ Some atom → Later (atoms_of bodies proc.body) (offers proc.term proc.store) atom) → (more_later ≡ Some partner → Partners procs partner) →
      partner_or (standing_of bodies bus.now proc) (if same then None else found) more_later ≡ Some partner → Partners (if not same then proc ∷ procs else procs) partner
  found-step proc procs partner true found more_later one more e = more e
  found-step proc procs partner false found more_later one more e = found-here proc procs partner found more_later one more e

  found-procs : (procs : List Proc) (partner : Partner) → first_later bodies number later (map (standing_of bodies bus.now) procs) ≡ Some partner → Partners (filter is_apart procs) partner
  found-procs [] partner e = cc
  found-procs (proc ∷ procs) partner e =
      found-step proc (filter is_apart procs) partner (proc.number == number) (first_offer (later (atoms_of bodies proc.body)) (map (seen (atoms_of bodies proc.body)) (offers proc.term proc.store)))
      (first_later bodies number later (map (standing_of bodies bus.now) procs)) (found-offers (atoms_of bodies proc.body) (offers proc.term proc.store)) (found-procs procs partner) e

-- none passes now
none-now : (bus : Bus) (number : ℕ) (now : List Atom → Offering → Bool) → list_any (now_in bus number now never) (standings bus) ≡ false → (other : Proc) → Contains (filter (is_apart bus number now never) bus.procs) other →
    (o : Offered) → Contains (offers other.term other.store) o → now (atoms_of bus.program.bodies other.body) (offering_of (atoms_of bus.program.bodies other.body) bus.now o) ≡ false
none-now bus number now n other c o d = let none = none-procs bus number now never bus.procs n (never-later bus.program.bodies number (standings bus)) other c o d in none.0

-- what an offer that matches neither now nor later receives, and what it sends, doesn't match
taken-none : (ready takes : Bool) (found : Option (List Pattern)) (terms : List Term) (patterns : List Pattern) → takes ≡ true → found ≡ Some patterns →
    matches (if_so (ready && takes) found) (Some terms) ≡ false → matches (if_so (not ready && takes) found) (Some terms) ≡ false → match_list patterns terms ≡ None
taken-none ready false found terms patterns is has n l = absurd (let f : false ≡ true = is in cc)
taken-none ready true None terms patterns is has n l = cc
taken-none true true (Some ps) terms patterns is has n l = let same : ps ≡ patterns = cc in subst (λ (qs : List Pattern). match_list qs terms ≡ None) same (is-none (match_list ps terms) n)
taken-none false true (Some ps) terms patterns is has n l = let same : ps ≡ patterns = cc in subst (λ (qs : List Pattern). match_list qs terms ≡ None) same (is-none (match_list ps terms) l)

given-none : (ready gives : Bool) (found : Option (List Term)) (patterns : List Pattern) (terms : List Term) → gives ≡ true → found ≡ Some terms →
    matches (Some patterns) (if_so (ready && gives) found) ≡ false → matches (Some patterns) (if_so (not ready && gives) found) ≡ false → match_list patterns terms ≡ None
given-none ready false found patterns terms is has n l = absurd (let f : false ≡ true = is in cc)
given-none ready true None patterns terms is has n l = cc
given-none true true (Some ts) patterns terms is has n l = let same : ts ≡ terms = cc in subst (λ (us : List Term). match_list patterns us ≡ None) same (is-none (match_list patterns ts) n)
given-none false true (Some ts) patterns terms is has n l = let same : ts ≡ terms = cc in subst (λ (us : List Term). match_list patterns us ≡ None) same (is-none (match_list patterns ts) l)

-- what matches later: the times don't hold
taken-later : (ready takes : Bool) (found : Option (List Pattern)) (terms : List Term) → matches (if_so (not ready && takes) found) (Some terms) ≡ true →
    (ready ≡ false) × (takes ≡ true) × ((patterns : List Pattern) × (found ≡ Some patterns) × (is_some (match_list patterns terms) ≡ true))
taken-later true takes found terms e = absurd (let f : false ≡ true = e in cc)
taken-later false false found terms e = absurd (let f : false ≡ true = e in cc)
taken-later false true None terms e = absurd (let f : false ≡ true = e in cc)
taken-later false true (Some patterns) terms e = (refl, refl, (patterns, refl, e))

given-later : (ready gives : Bool) (found : Option (List Term)) (patterns : List Pattern) → matches (Some patterns) (if_so (not ready && gives) found) ≡ true →
    (ready ≡ false) × (gives ≡ true) × ((terms : List Term) × (found ≡ Some terms) × (is_some (match_list patterns terms) ≡ true))
given-later true gives found patterns e = absurd (let f : false ≡ true = e in cc)
given-later false false found patterns e = absurd (let f : false ≡ true = e in cc)
given-later false true None patterns e = absurd (let f : false ≡ true = e in cc)
given-later false true (Some terms) patterns e = (refl, refl, (terms, refl, e))

is-receive : (act : Act) → receives act ≡ true → (exprs : List Expr) × (act ≡ RecMsg exprs)
is-receive (RecMsg exprs) e = (exprs, refl)
is-receive act e = absurd (let f : false ≡ true = e in cc)

is-send : (act : Act) → sends act ≡ true → (exprs : List Expr) × (act ≡ SndMsg exprs)
is-send (SndMsg exprs) e = (exprs, refl)
is-send act e = absurd (let f : false ≡ true = e in cc)

-- if a search finds a process without capacity for the note, the process is one of these and doesn't take the note
full-found : (terms : List Term) (procs : List Proc) (number : ℕ) → full_queue terms (map queue_of procs) ≡ Some number → (other : Proc) × Contains procs other × (other.number ≡ number) × (takes_note terms other.inbox ≡ false)
full-found terms [] number e = cc
full-found terms (proc ∷ procs) number e = by (takes_note terms proc.inbox) (full_queue terms (map queue_of procs)) refl (full-found terms procs number) e
  where
    by : (b : Bool) (rest : Option ℕ) → takes_note terms proc.inbox ≡ b → (rest ≡ Some number → (other : Proc) × Contains procs other × (other.number ≡ number) × (takes_note terms other.inbox ≡ false)) →
        (if b then rest else Some proc.number) ≡ Some number → (other : Proc) × Contains (proc ∷ procs) other × (other.number ≡ number) × (takes_note terms other.inbox ≡ false)
    by true rest is more e = let h = more e in (h.0, contains-further proc h.0 procs h.1, h.2, h.3)
    by false rest is more e = (proc, contains-first proc procs, let same : proc.number ≡ number = cc in same, is)

-- Tools.

of-tool : (test : Tool → Bool) (found : Option Tool) → of_tool test found ≡ true → (tool : Tool) × (found ≡ Some tool)
of-tool test None e = absurd (let f : false ≡ true = e in cc)
of-tool test (Some tool) e = (tool, refl)

-- if a tool is found on a lane, the lane has a tool
found-stands : (named : Term) (bench : BenchState) (lane : ℕ) → find_tool named bench ≡ Some lane → (tool : Tool) × (tool_at lane bench ≡ Some tool)
found-stands named bench lane e =
    let it = MatchOption-at_some (NoLane (has_tool named) bench) (IsFirstLane (has_tool named) bench) lane e (first_lane-lowest (has_tool named) bench) in
    of-tool (λ (tool : Tool). is_same_term named (term_of tool)) (tool_at lane bench) it.1

first-stands : (name : List ℕ) (at : Stage) (bench : BenchState) (lane : ℕ) → first_at name at bench ≡ Some lane → (tool : Tool) × (tool_at lane bench ≡ Some tool)
first-stands name at bench lane e =
    let it = MatchOption-at_some (NoToolAt name at bench) (HasSmallest name at bench) lane e (first_at-smallest name at bench) in
    (it.0, it.1.1)

-- an evaluation is open, and no answer has come
asked-eval : (e : Eval) → is_closed e ≡ false → answer_of e ≡ None → is_asked e ≡ true
asked-eval eval.Closed c a = absurd (let f : true ≡ false = c in cc)
asked-eval eval.Asked c a = refl
asked-eval (eval.Answered value) c a = cc

asked-by : (found : Option Tool) (test : Tool → Bool) → of_tool test found ≡ true → of_tool (λ tool. is_closed tool.eval) found ≡ false → answer_by found ≡ None → has_asked found ≡ true
asked-by None test s c a = absurd (let f : false ≡ true = s in cc)
asked-by (Some tool) test s c a = asked-eval tool.eval c a

-- no evaluation is open, because the tool wasn't asked and hasn't answered
closed-eval : (e : Eval) → is_asked e ≡ false → answer_of e ≡ None → is_closed e ≡ true
closed-eval eval.Closed h a = refl
closed-eval eval.Asked h a = absurd (let f : true ≡ false = h in cc)
closed-eval (eval.Answered value) h a = cc

closed-by : (found : Option Tool) (tool : Tool) → found ≡ Some tool → has_asked found ≡ false → answer_by found ≡ None → of_tool (λ tool. is_closed tool.eval) found ≡ true
closed-by None tool s h a = cc
closed-by (Some other) tool s h a = closed-eval other.eval h a

-- What a reason says, by the atom.

module _ (bus : Bus) (proc : Proc) (offered : Offered) where
  abbrev store : List Slot
  store = offered.store

  abbrev bench : BenchState
  bench = bus.bench

  abbrev setting : Setting
  setting = setting_of bus proc

  abbrev pub Explains : Act → Option Reason → Type 0
  Explains act found = (r : Reason) → found ≡ Some r → FailsBy bus proc offered act r

  none-so : (act : Act) → Explains act None
  none-so act r e = cc

  some-so : (act : Act) (q : Reason) → FailsBy bus proc offered act q → Explains act (Some q)
  some-so act q h r e = let same : q ≡ r = cc in subst (FailsBy bus proc offered act) same h

  unless-so : (act : Act) (b : Bool) (q : Reason) → (b ≡ false → FailsBy bus proc offered act q) → Explains act (unless b q)
  unless-so act true q h r e = cc
  unless-so act false q h r e = some-so act q (h refl) r e

  terms-so : (act : Act) (by : List Term → Option Reason) (found : Option (List Term)) → values_together store (sent_exprs act) ≡ found → ((terms : List Term) → HasValues store act terms → Explains act (by terms)) →
      Explains act (with_terms by found)
  terms-so act by None e h = some-so act reason.NoValue e
  terms-so act by (Some terms) e h = h terms e

  patterns-so : (act : Act) (by : List Pattern → Option Reason) (found : Option (List Pattern)) → patterns_of store (matched_exprs act) ≡ found → ((patterns : List Pattern) → HasPatterns store act patterns → Explains act (by patterns)) →
      Explains act (with_patterns by found)
  patterns-so act by None e h = some-so act reason.NoPattern e
  patterns-so act by (Some patterns) e h = h patterns e

  -- values
  set-so : (slot : ℕ) (expr : Expr) (terms : List Term) → HasValues store (Set slot expr) terms → Explains (Set slot expr) (set_reason (sorts_in (slice_get bus.program.bodies proc.body) slot) terms)
  set-so slot expr [] has = absurd (not-empty store expr [] has)
  set-so slot expr (v ∷ []) has =
      unless-so (Set slot expr) (has_slot_sort (sorts_in (slice_get bus.program.bodies proc.body) slot) v) reason.WrongSort
      (λ fails. (slot, expr, v, refl, has, slot-sort (slice_get bus.program.bodies proc.body) slot v ∙ fails))
  set-so slot expr (v ∷ w ∷ vs) has = absurd (not-two store expr v w vs has)

  end-so : (expr : Expr) (terms : List Term) → HasValues store (Shutdown expr) terms → Explains (Shutdown expr) (end_reason terms)
  end-so expr [] has = absurd (not-empty store expr [] has)
  end-so expr (v ∷ []) has = none-so (Shutdown expr)
  end-so expr (v ∷ w ∷ vs) has = absurd (not-two store expr v w vs has)

  print-so : (exprs : List Expr) (terms : List Term) → HasValues store (Printf exprs) terms → Explains (Printf exprs) (print_reason terms)
  print-so exprs terms has = unless-so (Printf exprs) (is_some (printf_of terms)) (reason.NoText (format_fault terms)) (λ fails. (exprs, terms, refl, has, is-none (printf_of terms) fails, faults-so terms))

  -- messages
  abbrev takes_now : List Term → List Atom → Offering → Bool
  takes_now terms atoms offer = matches (received_now atoms offer) (Some terms)

  abbrev gives_now : List Pattern → List Atom → Offering → Bool
  gives_now patterns atoms offer = matches (Some patterns) (sent_now atoms offer)

  abbrev patterns_at : Proc → Offered → Option (List Pattern)
  patterns_at other offer = patterns_of offer.store (matched_exprs (act_by bus other offer))

  abbrev values_at : Proc → Offered → Option (List Term)
  values_at other offer = values_together offer.store (sent_exprs (act_by bus other offer))

  none-takes : (terms : List Term) → has_receiver bus.program.bodies proc.number (Some terms) (standings bus) ≡ false → NobodyTakesNow bus proc terms
  none-takes terms fails other offer patterns is ready took =
      let takes = receives (act_by bus other offer) in
      let found = patterns_at other offer in
      let none = none-now bus proc.number (takes_now terms) fails other is.0 offer is.1 in
      taken-none true takes found terms patterns (ap receives took.1) took.2 (subst (λ (b : Bool). matches (if_so (b && takes) found) (Some terms) ≡ false) ready none) refl

  taken-so : (exprs : List Expr) (terms : List Term) → HasValues store (SndMsg exprs) terms → has_receiver bus.program.bodies proc.number (Some terms) (standings bus) ≡ false →
      (found : Option Partner) → first_later bus.program.bodies proc.number (takes_later terms) (standings bus) ≡ found → FailsBy bus proc offered (SndMsg exprs) (partner_reason found reason.NobodyReceives)
  taken-so exprs terms has fails None e = (
    terms,
    (exprs, refl, has),
    λ other offer patterns is took.
        let none = none-procs bus proc.number (takes_now terms) (takes_later terms) bus.procs fails e other is.0 offer is.1 in
        taken-none (is_ready_by bus other offer) (receives (act_by bus other offer)) (patterns_at other offer) terms patterns (ap receives took.1) took.2 none.0 none.1,
  )
  taken-so exprs terms has fails (Some partner) e =
      let it = found-procs bus proc.number (takes_now terms) (takes_later terms) bus.procs partner e in
      let late = taken-later (is_ready_by bus it.0 it.1) (receives (act_by bus it.0 it.1)) (patterns_at it.0 it.1) terms it.7 in
      let its = is-receive (act_by bus it.0 it.1) late.1 in
      inl (terms, (exprs, refl, has), (it.0, it.1, late.2.0, ((it.2, it.3), it.4, it.5, it.6, late.0), (its.0, its.1, late.2.1), late.2.2), none-takes terms fails)

  send-so : (exprs : List Expr) (terms : List Term) → HasValues store (SndMsg exprs) terms → Explains (SndMsg exprs) (receiver_reason bus.program.bodies proc.number (standings bus) terms)
  send-so exprs terms has =
      let found = first_later bus.program.bodies proc.number (takes_later terms) (standings bus) in
      unless-so (SndMsg exprs) (has_receiver bus.program.bodies proc.number (Some terms) (standings bus)) (partner_reason found reason.NobodyReceives) (λ fails. taken-so exprs terms has fails found refl)

  none-gives : (patterns : List Pattern) → has_sender bus.program.bodies proc.number (Some patterns) (standings bus) ≡ false → NobodyGivesNow bus proc patterns
  none-gives patterns fails other offer terms is ready gave =
      let gives = sends (act_by bus other offer) in
      let found = values_at other offer in
      let none = none-now bus proc.number (gives_now patterns) fails other is.0 offer is.1 in
      given-none true gives found patterns terms (ap sends gave.1) gave.2 (subst (λ (b : Bool). matches (Some patterns) (if_so (b && gives) found) ≡ false) ready none) refl

  given-so : (exprs : List Expr) (patterns : List Pattern) → HasPatterns store (RecMsg exprs) patterns → has_sender bus.program.bodies proc.number (Some patterns) (standings bus) ≡ false →
      (found : Option Partner) → first_later bus.program.bodies proc.number (gives_later patterns) (standings bus) ≡ found → FailsBy bus proc offered (RecMsg exprs) (partner_reason found reason.NobodySends)
  given-so exprs patterns has fails None e = (
    patterns,
    (exprs, refl, has),
    λ other offer terms is gave.
        let none = none-procs bus proc.number (gives_now patterns) (gives_later patterns) bus.procs fails e other is.0 offer is.1 in
        given-none (is_ready_by bus other offer) (sends (act_by bus other offer)) (values_at other offer) patterns terms (ap sends gave.1) gave.2 none.0 none.1,
  )
  given-so exprs patterns has fails (Some partner) e =
      let it = found-procs bus proc.number (gives_now patterns) (gives_later patterns) bus.procs partner e in
      let late = given-later (is_ready_by bus it.0 it.1) (sends (act_by bus it.0 it.1)) (values_at it.0 it.1) patterns it.7 in
      let its = is-send (act_by bus it.0 it.1) late.1 in
      inr (patterns, (exprs, refl, has), (it.0, it.1, late.2.0, ((it.2, it.3), it.4, it.5, it.6, late.0), (its.0, its.1, late.2.1), late.2.2), none-gives patterns fails)

  receive-so : (exprs : List Expr) (patterns : List Pattern) → HasPatterns store (RecMsg exprs) patterns → Explains (RecMsg exprs) (sender_reason bus.program.bodies proc.number (standings bus) patterns)
  receive-so exprs patterns has =
      let found = first_later bus.program.bodies proc.number (gives_later patterns) (standings bus) in
      unless-so (RecMsg exprs) (has_sender bus.program.bodies proc.number (Some patterns) (standings bus)) (partner_reason found reason.NobodySends) (λ fails. given-so exprs patterns has fails found refl)

  -- notes
  full-so : (exprs : List Expr) (terms : List Term) → HasValues store (SndNote exprs) terms → (found : Option ℕ) → full_queue terms (map queue_of bus.procs) ≡ found → Explains (SndNote exprs) (full_reason found)
  full-so exprs terms has None e = none-so (SndNote exprs)
  full-so exprs terms has (Some number) e =
      let it = full-found terms bus.procs number e in
      some-so (SndNote exprs) (reason.QueueFull number) (exprs, terms, it.0, refl, has, it.1, it.2, it.3)

  waits-so : (exprs : List Expr) (patterns : List Pattern) → HasPatterns store (NoNote exprs) patterns → (found : Option Found) → oldest_match patterns proc.inbox ≡ found → Explains (NoNote exprs) (waits_reason found)
  waits-so exprs patterns has None e = none-so (NoNote exprs)
  waits-so exprs patterns has (Some found) e = some-so (NoNote exprs) (reason.NoteWaits found.place) (exprs, patterns, found, refl, has, e, refl)

  -- processes
  created-so : (process : ℕ) (exprs : List Expr) (slot : ℕ) (terms : List Term) → HasValues store (Create process exprs slot) terms → (fits : Bool) → fits_formals (slice_get bus.program.bodies process) terms ≡ fits →
      Explains (Create process exprs slot) (if fits then unless (fits_slot (slice_get bus.program.bodies proc.body) slot (number_term bus.next_number)) reason.NoNumber else Some reason.WrongActuals)
  created-so process exprs slot terms has true e =
      unless-so (Create process exprs slot) (fits_slot (slice_get bus.program.bodies proc.body) slot (number_term bus.next_number)) reason.NoNumber (λ fails. (process, exprs, slot, refl, fails))
  created-so process exprs slot terms has false e = some-so (Create process exprs slot) reason.WrongActuals (process, exprs, slot, terms, refl, has, e)

  few-so : (process : ℕ) (exprs : List Expr) (slot : ℕ) (terms : List Term) → HasValues store (Create process exprs slot) terms → (few : Bool) → nat_lt (length (standings bus)) most_alive ≡ few →
      Explains (Create process exprs slot) (if few then created_reason (scene_of bus) proc.body process slot terms else Some reason.TooMany)
  few-so process exprs slot terms has true e = created-so process exprs slot terms has (fits_formals (slice_get bus.program.bodies process) terms) refl
  few-so process exprs slot terms has false e =
      some-so (Create process exprs slot) reason.TooMany (process, exprs, slot, refl, ap (λ (n : ℕ). nat_lt n most_alive) (sym (length-map bus.procs (standing_of bus.program.bodies bus.now))) ∙ e)

  -- tools that a slot takes
  fits-so : (act : Act) (slot : ℕ) (term : Term) → Takes bus act slot term → (within : Bool) → is_within_limits term ≡ within →
      Explains act (if within then unless (fits_slot (slice_get bus.program.bodies proc.body) slot term) reason.WrongTool else Some reason.ToolTooLarge)
  fits-so act slot term takes true e = unless-so act (fits_slot (slice_get bus.program.bodies proc.body) slot term) reason.WrongTool (λ fails. (slot, term, takes, fails))
  fits-so act slot term takes false e = some-so act reason.ToolTooLarge (slot, term, takes, e)

  lane-so : (tool slot : ℕ) (name : List ℕ) → name_of (slice_get bus.program.tools tool) ≡ name → (lane : Option ℕ) → free_lane bus.bench ≡ lane → Explains (Execute tool slot) (lane_reason setting slot name lane)
  lane-so tool slot name its None e = some-so (Execute tool slot) reason.NoLane (tool, slot, refl, e)
  lane-so tool slot name its (Some lane) e =
      let term = tool_term name bus.bench.next_tool in
      fits-so (Execute tool slot) slot term (inl (tool, lane, refl, e, ap (λ (n : List ℕ). tool_term n bus.bench.next_tool) (sym its))) (is_within_limits term) refl

  command-so : (tool slot : ℕ) (name : List ℕ) → name_of (slice_get bus.program.tools tool) ≡ name → (command : Option (List ℕ)) → command_of (slice_get bus.program.tools tool) ≡ command → Explains (Execute tool slot) (command_reason setting slot name command)
  command-so tool slot name its None e = some-so (Execute tool slot) reason.NoCommand (tool, slot, refl, e)
  command-so tool slot name its (Some command) e = lane-so tool slot name its (free_lane bus.bench) refl

  execute-so : (tool slot : ℕ) (kind : Option ToolKind) → slice_get bus.program.tools tool ≡ kind → Explains (Execute tool slot) (execute_reason setting slot kind)
  execute-so tool slot None e = some-so (Execute tool slot) reason.NoCommand (tool, slot, refl, ap command_of e)
  execute-so tool slot (Some kind) e = command-so tool slot kind.name (ap name_of e) kind.command (ap command_of e)

  term-so : (act : Act) (at : Stage) (tool slot lane : ℕ) → TakesAt act at tool slot → first_of_kind_at bus at tool ≡ Some lane → (there : Tool) → tool_at lane bus.bench ≡ Some there → (term : Option Term) → term_on lane bus.bench ≡ term →
      Explains act (term_reason setting slot term)
  term-so act at tool slot lane takes first there stands None e = let same : Some (term_of there) ≡ None = sym (ap (option_map term_of) stands) ∙ e in cc
  term-so act at tool slot lane takes first there stands (Some term) e = fits-so act slot term (inr (at, tool, lane, takes, first, e)) (is_within_limits term) refl

  found-so : (act : Act) (at : Stage) (tool slot : ℕ) → TakesAt act at tool slot → (name : List ℕ) → first_of_kind_at bus at tool ≡ first_at name at bus.bench → (lane : Option ℕ) → first_at name at bus.bench ≡ lane →
      Explains act (found_reason setting at slot lane)
  found-so act at tool slot takes name its None e = some-so act (reason.NoneAt at) (tool, slot, takes, its ∙ e)
  found-so act at tool slot takes name its (Some lane) e =
      let stands = first-stands name at bus.bench lane e in
      term-so act at tool slot lane takes (its ∙ e) stands.0 stands.1 (term_on lane bus.bench) refl

  kind-so : (act : Act) (at : Stage) (tool slot : ℕ) → TakesAt act at tool slot → (kind : Option ToolKind) → slice_get bus.program.tools tool ≡ kind → Explains act (kind_reason setting at slot kind)
  kind-so act at tool slot takes None e = some-so act (reason.NoneAt at) (tool, slot, takes, ap (λ (k : Option ToolKind). option_and_then (λ (kind : ToolKind). first_at kind.name at bus.bench) k) e)
  kind-so act at tool slot takes (Some kind) e =
      found-so act at tool slot takes kind.name (ap (λ (k : Option ToolKind). option_and_then (λ (kind : ToolKind). first_at kind.name at bus.bench) k) e) (first_at kind.name at bus.bench) refl

  -- tools that stand on a lane
  named-so : (act : Act) (on_lane : ℕ → Option Reason) (tool : Term) (terms : List Term) → speaks act ≡ true → HasValues store act (tool ∷ terms) → ((lane : ℕ) → SpeaksOn bus.bench store act lane → Explains act (on_lane lane)) →
      (lane : Option ℕ) → find_tool tool bus.bench ≡ lane → Explains act (tool_reason on_lane lane)
  named-so act on_lane tool terms told has h None e = some-so act reason.NoTool (tool, terms, told, has, e)
  named-so act on_lane tool terms told has h (Some lane) e = h lane (tool, terms, told, has, e)

  tool-so : (act : Act) (on_lane : ℕ → Option Reason) (terms : List Term) → speaks act ≡ true → (HasValues store act [] → ⊥) → HasValues store act terms →
      ((lane : ℕ) → SpeaksOn bus.bench store act lane → Explains act (on_lane lane)) → Explains act (tool_reason on_lane (lane_named bus.bench terms))
  tool-so act on_lane [] told some has h = absurd (some has)
  tool-so act on_lane (tool ∷ terms) told some has h = named-so act on_lane tool terms told has h (find_tool tool bus.bench) refl

  stage-so : (act : Act) (lane : ℕ) → SpeaksOn bus.bench store act lane → may_on act lane bus.bench ≡ false → FailsBy bus proc offered act (at_stage bus.bench lane)
  stage-so act lane on fails =
      let stands = found-stands on.0 bus.bench lane on.4 in
      (on, (stands.0, stands.1, sym (ap stage_of stands.1)), fails)

  staged-so : (act : Act) (lane : ℕ) → SpeaksOn bus.bench store act lane → (may : Bool) → may_on act lane bus.bench ≡ may → (found : Option Reason) → (may ≡ true → Explains act found) →
      Explains act (if may then found else Some (at_stage bus.bench lane))
  staged-so act lane on true e found h = h refl
  staged-so act lane on false e found h = some-so act (at_stage bus.bench lane) (stage-so act lane on e)

  -- an evaluation is open
  open-so : (act : Act) (lane : ℕ) → MaySpeakOn bus.bench store act lane → asks act ≡ true → is_live_at lane bus.bench ≡ true → of_tool (λ tool. is_closed tool.eval) (tool_at lane bus.bench) ≡ false →
      (answer : Option Term) → answer_at lane bus.bench ≡ answer → FailsBy bus proc offered act (if is_some answer then reason.AnswerWaits lane else reason.EvalOpen lane)
  open-so act lane on asking live unclosed None e = (on, asking, asked-by (tool_at lane bus.bench) (λ (tool : Tool). is_same_stage tool.stage stage.Live) live unclosed e)
  open-so act lane on asking live unclosed (Some value) e = (on, asking, (value, e))

  idle-so : (act : Act) (lane : ℕ) → SpeaksOn bus.bench store act lane → asks act ≡ true → may_on act lane bus.bench ≡ is_live_at lane bus.bench → Explains act (idle_reason bus.bench lane)
  idle-so act lane on asking may =
      staged-so act lane on (is_live_at lane bus.bench) may (unless (can_eval lane bus.bench) (open_reason bus.bench lane))
      (λ live. unless-so act (can_eval lane bus.bench) (open_reason bus.bench lane)
      (λ fails. open-so act lane (on, may ∙ live) asking live (subst (λ (b : Bool). (b && of_tool (λ tool. is_closed tool.eval) (tool_at lane bus.bench)) ≡ false) live fails) (answer_at lane bus.bench) refl))

  -- nothing has come
  missing-so : (act : Act) (lane : ℕ) (q : Reason) → (can_leave lane bus.bench ≡ true → FailsBy bus proc offered act (reason.Ended lane)) → (can_leave lane bus.bench ≡ false → FailsBy bus proc offered act q) → (leaving : Bool) → can_leave lane bus.bench ≡ leaving →
      FailsBy bus proc offered act (if leaving then reason.Ended lane else q)
  missing-so act lane q ended other true e = ended e
  missing-so act lane q ended other false e = other e

  asked-so : (tool expr : Expr) (lane : ℕ) → MaySpeakOn bus.bench store (RecValue tool expr) lane → answer_at lane bus.bench ≡ None → can_leave lane bus.bench ≡ false → (asked : Bool) → has_asked (tool_at lane bus.bench) ≡ asked →
      FailsBy bus proc offered (RecValue tool expr) (if asked then reason.NotAnswered lane else reason.NotAsked lane)
  asked-so tool expr lane on none stays true e = (on, (tool, expr, refl), stays, e)
  asked-so tool expr lane on none stays false e =
      let stands = found-stands on.0.0 bus.bench lane on.0.4 in
      (on, (tool, expr, refl), stays, closed-by (tool_at lane bus.bench) stands.0 stands.1 e none)

  abbrev value_one : List Pattern → ℕ → Term → Option Exchange
  value_one patterns lane value = option_map (λ binds. record { lane = lane; event = 0; binds = binds }) (match_list patterns (value ∷ []))

  answer-so : (tool expr : Expr) (patterns : List Pattern) (lane : ℕ) → HasPatterns store (RecValue tool expr) patterns → MaySpeakOn bus.bench store (RecValue tool expr) lane → (answer : Option Term) → answer_at lane bus.bench ≡ answer →
      Explains (RecValue tool expr) (answer_reason bus.bench patterns lane answer)
  answer-so tool expr patterns lane has on None e =
      let act = RecValue tool expr in
      let asked = has_asked (tool_at lane bus.bench) in
      let q = if asked then reason.NotAnswered lane else reason.NotAsked lane in
      some-so act (missing bus.bench lane q)
      (missing-so act lane q (λ leaving. (on, leaving, inl (tool, expr, refl, e))) (λ stays. asked-so tool expr lane on e stays asked refl) (can_leave lane bus.bench) refl)
  answer-so tool expr patterns lane has on (Some value) e =
      unless-so (RecValue tool expr) (is_some (value_on patterns bus.bench lane)) (reason.AnswerDiffers lane)
      (λ fails.
      let bound : is_some (value_one patterns lane value) ≡ false = ap (λ (o : Option Term). is_some (option_and_then (value_one patterns lane) o)) (sym e) ∙ fails in
      let differs = map-none (λ (binds : List Bind). let x : Exchange = record { lane = lane; event = 0; binds = binds } in x) (match_list patterns (value ∷ [])) bound in
      (on, (tool, expr, refl), (patterns, value, has, e, differs)))

  value-so : (tool expr : Expr) (patterns : List Pattern) (lane : ℕ) → HasPatterns store (RecValue tool expr) patterns → SpeaksOn bus.bench store (RecValue tool expr) lane → Explains (RecValue tool expr) (value_reason bus.bench patterns lane)
  value-so tool expr patterns lane has on =
      staged-so (RecValue tool expr) lane on (is_taken_at lane bus.bench) refl (answer_reason bus.bench patterns lane (answer_at lane bus.bench)) (λ may. answer-so tool expr patterns lane has (on, may) (answer_at lane bus.bench) refl)

  event-so : (tool : Expr) (exprs : List Expr) (patterns : List Pattern) (lane : ℕ) → HasPatterns store (RecEvent tool exprs) patterns → SpeaksOn bus.bench store (RecEvent tool exprs) lane →
      Explains (RecEvent tool exprs) (event_reason bus.bench patterns lane)
  event-so tool exprs patterns lane has on =
      let act = RecEvent tool exprs in
      let q = missing bus.bench lane (reason.NoEvent lane) in
      staged-so act lane on (is_taken_at lane bus.bench) refl (unless (is_some (oldest_event patterns lane bus.bench)) q)
      (λ may. unless-so act (is_some (oldest_event patterns lane bus.bench)) q
      (λ fails.
      let none = is-none (oldest_event patterns lane bus.bench) fails in
      missing-so act lane (reason.NoEvent lane) (λ leaving. ((on, may), leaving, inr (tool, exprs, patterns, refl, has, none))) (λ stays. ((on, may), (tool, exprs, refl), stays, (patterns, has, none))) (can_leave lane bus.bench) refl))

  received-so : (tool : Expr) (exprs : List Expr) (terms : List Term) (lane : ℕ) → HasValues store (SndAckEvent tool exprs) terms → SpeaksOn bus.bench store (SndAckEvent tool exprs) lane →
      Explains (SndAckEvent tool exprs) (received_reason bus.bench terms lane)
  received-so tool exprs terms lane has on =
      let act = SndAckEvent tool exprs in
      let found = oldest_received (behind terms) lane bus.bench in
      staged-so act lane on (is_live_at lane bus.bench) refl (unless (is_some found) (reason.NotReceived lane))
      (λ may. unless-so act (is_some found) (reason.NotReceived lane) (λ fails. ((on, may), (tool, exprs, refl), (terms, has, is-none found fails))))

  -- by the atom
  abbrev pub offer_with : Bool → Act → Offering
  offer_with ready act = record { atom = offered.atom; age = offered.age; ready = ready; sent = values_together offered.store (sent_exprs act); patterns = patterns_of offered.store (matched_exprs act) }

  pub act-so : (ready : Bool) (act : Act) → Explains act (reason_by (scene_of bus) proc.number proc.body proc.inbox (offer_with ready act) act)
  act-so ready Delta = some-so Delta reason.Never refl
  act-so ready Tau = none-so Tau
  act-so ready (Set slot expr) = terms-so (Set slot expr) (set_reason (sorts_in (slice_get bus.program.bodies proc.body) slot)) (values_together store (expr ∷ [])) refl (set-so slot expr)
  act-so ready (Printf exprs) = terms-so (Printf exprs) print_reason (values_together store exprs) refl (print-so exprs)
  act-so ready (SndMsg exprs) = terms-so (SndMsg exprs) (receiver_reason bus.program.bodies proc.number (standings bus)) (values_together store exprs) refl (send-so exprs)
  act-so ready (RecMsg exprs) = patterns-so (RecMsg exprs) (sender_reason bus.program.bodies proc.number (standings bus)) (patterns_of store exprs) refl (receive-so exprs)
  act-so ready (SndNote exprs) =
      terms-so (SndNote exprs) (λ terms. full_reason (full_queue terms (map queue_of bus.procs))) (values_together store exprs) refl (λ terms has. full-so exprs terms has (full_queue terms (map queue_of bus.procs)) refl)
  act-so ready (RecNote exprs) =
      patterns-so (RecNote exprs) (λ patterns. unless (is_some (oldest_match patterns proc.inbox)) reason.NoNote) (patterns_of store exprs) refl
      (λ patterns has. unless-so (RecNote exprs) (is_some (oldest_match patterns proc.inbox)) reason.NoNote (λ fails. (exprs, patterns, refl, has, is-none (oldest_match patterns proc.inbox) fails)))
  act-so ready (NoNote exprs) =
      patterns-so (NoNote exprs) (λ patterns. waits_reason (oldest_match patterns proc.inbox)) (patterns_of store exprs) refl (λ patterns has. waits-so exprs patterns has (oldest_match patterns proc.inbox) refl)
  act-so ready (Subscribe exprs) = patterns-so (Subscribe exprs) (λ patterns. None) (patterns_of store exprs) refl (λ patterns has. none-so (Subscribe exprs))
  act-so ready (Unsubscribe exprs) = patterns-so (Unsubscribe exprs) (λ patterns. None) (patterns_of store exprs) refl (λ patterns has. none-so (Unsubscribe exprs))
  act-so ready (Create process exprs slot) =
      terms-so (Create process exprs slot) (create_reason (scene_of bus) proc.body process slot) (values_together store exprs) refl
      (λ terms has. few-so process exprs slot terms has (nat_lt (length (standings bus)) most_alive) refl)
  act-so ready (Execute tool slot) = execute-so tool slot (slice_get bus.program.tools tool) refl
  act-so ready (RecConnect tool slot) = kind-so (RecConnect tool slot) stage.Waiting tool slot refl (slice_get bus.program.tools tool) refl
  act-so ready (RecDisconnectAny tool slot) = kind-so (RecDisconnectAny tool slot) stage.Leaving tool slot refl (slice_get bus.program.tools tool) refl
  act-so ready (RecDisconnect tool) =
      let act = RecDisconnect tool in
      terms-so act (λ terms. tool_reason (leaving_reason bus.bench) (lane_named bus.bench terms)) (values_together store (tool ∷ [])) refl
      (λ terms has. tool-so act (leaving_reason bus.bench) terms refl (not-empty store tool []) has
      (λ lane on. unless-so act (can_leave lane bus.bench) (at_stage bus.bench lane) (λ fails. stage-so act lane on fails)))
  act-so ready (SndEval tool expr) =
      let act = SndEval tool expr in
      terms-so act (λ terms. tool_reason (idle_reason bus.bench) (lane_named bus.bench terms)) (values_together store (tool ∷ expr ∷ [])) refl
      (λ terms has. tool-so act (idle_reason bus.bench) terms refl (not-empty store tool (expr ∷ [])) has (λ lane on. idle-so act lane on refl refl))
  act-so ready (SndDo tool expr) =
      let act = SndDo tool expr in
      terms-so act (λ terms. tool_reason (idle_reason bus.bench) (lane_named bus.bench terms)) (values_together store (tool ∷ expr ∷ [])) refl
      (λ terms has. tool-so act (idle_reason bus.bench) terms refl (not-empty store tool (expr ∷ [])) has (λ lane on. idle-so act lane on refl refl))
  act-so ready (RecValue tool expr) =
      let act = RecValue tool expr in
      let found = patterns_of store (expr ∷ []) in
      terms-so act (λ terms. with_patterns (λ patterns. tool_reason (value_reason bus.bench patterns) (lane_named bus.bench terms)) found) (values_together store (tool ∷ [])) refl
      (λ terms has. patterns-so act (λ patterns. tool_reason (value_reason bus.bench patterns) (lane_named bus.bench terms)) found refl
      (λ patterns those. tool-so act (value_reason bus.bench patterns) terms refl (not-empty store tool []) has (λ lane on. value-so tool expr patterns lane those on)))
  act-so ready (RecEvent tool exprs) =
      let act = RecEvent tool exprs in
      let found = patterns_of store exprs in
      terms-so act (λ terms. with_patterns (λ patterns. tool_reason (event_reason bus.bench patterns) (lane_named bus.bench terms)) found) (values_together store (tool ∷ [])) refl
      (λ terms has. patterns-so act (λ patterns. tool_reason (event_reason bus.bench patterns) (lane_named bus.bench terms)) found refl
      (λ patterns those. tool-so act (event_reason bus.bench patterns) terms refl (not-empty store tool []) has (λ lane on. event-so tool exprs patterns lane those on)))
  act-so ready (SndAckEvent tool exprs) =
      let act = SndAckEvent tool exprs in
      terms-so act (λ terms. tool_reason (received_reason bus.bench terms) (lane_named bus.bench terms)) (values_together store (tool ∷ exprs)) refl
      (λ terms has. tool-so act (received_reason bus.bench terms) terms refl (not-empty store tool exprs) has (λ lane on. received-so tool exprs terms lane has on))
  act-so ready (SndTerminate tool expr) =
      let act = SndTerminate tool expr in
      terms-so act (λ terms. tool_reason (live_reason bus.bench) (lane_named bus.bench terms)) (values_together store (tool ∷ expr ∷ [])) refl
      (λ terms has. tool-so act (live_reason bus.bench) terms refl (not-empty store tool (expr ∷ [])) has
      (λ lane on. unless-so act (is_live_at lane bus.bench) (at_stage bus.bench lane) (λ fails. stage-so act lane on fails)))
  act-so ready (Shutdown expr) = terms-so (Shutdown expr) end_reason (values_together store (expr ∷ [])) refl (end-so expr)
