-- What waits on a bus stays in shape, and each entry is in shape.
use Rattle.std.proofs.Common.{◌≡◌, ℕ, ◌+◌, ◌==◌, ◌≤◌, Bool, true, false, ◌&&◌, List, [], ◌∷◌, map, length, slice_get, slice_index_or, Option, Some, None, if◌then◌else◌, refl, ap, sym, subst, arith}
use Rattle.std.specs.List.{All, list_all}
use Rattle.std.proofs.lemmas.Bool.{and_parts, le-leb}
use Rattle.std.proofs.lemmas.List.Elements.{All-nil, All-cons, All-head, All-tail, All-append, All-push, All-map, All-weaker, All-contains}
use Rattle.tb_terms.specs.declared.term.Term.{Term}
use Rattle.tb_terms.specs.declared.sort.Sort.{Sort}
use Rattle.tb_terms.specs.declared.pattern.Pattern.{Pattern}
use Rattle.tb_terms.specs.Sizes.{is_within_limits, IsWithinLimits}
use Rattle.tb_terms.proofs.LimitLemmas.{within-limits}
use Rattle.tb_func.specs.declared.slot.Slot.{Slot}
use Rattle.tb_func.specs.Stores.{fresh_slot, with_value}
use Rattle.tb_match.specs.declared.bind.Bind.{Bind}
use Rattle.tb_match.specs.Matches.{match_list}
use Rattle.tb_body.specs.declared.body.Body.{Body}
use Rattle.tb_body.specs.declared.program.Root.{Root}
use Rattle.tb_body.specs.declared.program.Tool.{Tool as ToolKind}
use Rattle.tb_body.specs.Programs.{have_sorts, starts, is_root_in_range, is_program_in_range}
use Rattle.tb_notes.specs.Inboxes.{Held, nothing, subscribed, unsubscribed, wants, with_note, without_note}
use Rattle.tb_process_steps.specs.Processes.{Process, fresh}
use Rattle.tb_process_steps.specs.Binds.{with_binds}
use Rattle.tb_process_steps.specs.Offers.{Offered}
use Rattle.tb_log.specs.declared.entry.Input.{Input}
use Rattle.tb_log.specs.declared.entry.Input.TheVariants.{Tick, NoTicks, Line, Gone, Cut}
use Rattle.tb_log.specs.declared.entry.Reply.TheVariants.{Dropped}
use Rattle.tb_log.specs.declared.entry.Why.TheVariants.{Down}
use Rattle.tb_log.specs.declared.entry.Entry.{Entry}
use Rattle.tb_log.specs.declared.entry.Entry.TheVariants.{Did, Quiet, Fed, Gave}
use Rattle.tb_log.specs.declared.entry.Label.{Label}
use Rattle.tb_log.specs.Limits.{terms_size}
use Rattle.tb_log.specs.Shapes.{IsLabelInShape, IsInputInShape, InShape}
use Rattle.tb_bus.specs.declared.origin.Origin.{Origin}
use Rattle.tb_bus.specs.declared.action.Action.{Action}
use Rattle.tb_bus.specs.declared.action.Action.TheVariants as action
use Rattle.tb_bus.specs.Buses.{Bus, Proc, start, opened, opened_one, opening_store, with_values, proc_left, created}
use Rattle.tb_bus.specs.Effects.{Change, Nothing, PutsNote, TakesNote, Subscribes, Unsubscribes, Creates, SetsBench, GoesDown, Effect, effect_of, given, with_inbox, went_down, changed}
use Rattle.tb_bus.specs.Steps.{Move, Own, Handshake, Finish, Halt, Step, advance, place_of, label_of, finish_reason, halt_reason, apply}
use Rattle.tb_bus.specs.Traces.{Answer, aged_proc, declares, took, IsLegal, IsTrace, after, replay}
use Rattle.tb_bus.specs.Reached.{Reaches}
use Rattle.tb_bus.specs.Waiting.{IsShallow, IsShallowStore, IsNote, IsProcInShape, IsBusInShape}
use Rattle.tb_bus.proofs.LevelLemmas.{AreShallowBinds, initial-shallow, shallow-with_value, shallow-with_binds, offer-shallow, match-shallow}
use Rattle.tb_bus.proofs.SentLemmas.{IsActionInShape, action-in-shape}
use Rattle.tb_bus.proofs.LaneShapes.{all-remove, gone_down-in, handed_out-in, next_out-in, gone-in, cut-in, put_line-in, opening-in}
use Rattle.tb_bus.proofs.OrderLemmas.{All-flat_map, All-one}
use Rattle.tb_bus.proofs.EffectShapes.{one-part, finish-within, halt-within, all-levels, IsChangeInShape, effect-in-shape}
use Rattle.tb_bus.proofs.ReachedLemmas.{IsReadyFor, IsMoveOf, step-made}

-- processes

abbrev pub AreInShape : List Proc → Type 0
AreInShape procs = All IsProcInShape procs

with_inbox-by : (b : Bool) (proc : Proc) (inbox : Held) → All IsNote inbox.notes → IsProcInShape proc → IsProcInShape (if b then record proc { inbox = inbox } else proc)
with_inbox-by true proc inbox k h = record { store = h.store; notes = k }
with_inbox-by false proc inbox k h = h

given-in : (terms : List Term) (proc : Proc) → IsNote terms → IsProcInShape proc → IsProcInShape (given terms proc)
given-in terms proc k h = with_inbox-by (wants proc.inbox terms) proc (with_note terms proc.inbox) (All-push IsNote proc.inbox.notes terms h.notes k) h

with_inbox-in : (number : ℕ) (change : Held → Held) → ((held : Held) → All IsNote held.notes → All IsNote (change held).notes) → (procs : List Proc) → AreInShape procs → AreInShape (map (with_inbox number change) procs)
with_inbox-in number change k procs h =
    All-map IsProcInShape (with_inbox number change) procs
    (All-weaker IsProcInShape (λ proc. IsProcInShape (with_inbox number change proc)) (λ proc p. with_inbox-by (proc.number == number) proc (change proc.inbox) (k proc.inbox p.notes) p) procs h)

fresh-in : (sorts : List Sort) → IsShallowStore (map fresh_slot sorts)
fresh-in sorts = All-map (λ (slot : Slot). IsShallow slot.value) fresh_slot sorts (λ k d l. initial-shallow (slice_index_or sorts k d))

with_values-in : (store : List Slot) (slot : ℕ) (terms : List Term) → IsShallowStore store → All IsShallow terms → IsShallowStore (with_values store slot terms)
with_values-in store slot [] h k = h
with_values-in store slot (term ∷ terms) h k =
    with_values-in (with_value store slot term) (slot + 1) terms (shallow-with_value store slot term h (All-head IsShallow term terms k)) (All-tail IsShallow term terms k)

opened_one-in : (number process : ℕ) (actuals : List Term) (body : Option Body) → All IsShallow actuals → AreInShape (opened_one number process actuals body)
opened_one-in number process actuals None h = All-nil IsProcInShape
opened_one-in number process actuals (Some body) h =
    All-one IsProcInShape (record { number = number; body = process; term = fresh body.tree; store = opening_store body actuals; inbox = nothing })
    (record { store = with_values-in (map fresh_slot body.sorts) 0 actuals (fresh-in body.sorts) h; notes = All-nil IsNote })

-- changes

went_down-in : (reason : Term) (bus : Bus) → IsWithinLimits reason → IsBusInShape bus → IsBusInShape (went_down reason bus)
went_down-in reason bus k h = record { procs = h.procs; bench = gone_down-in reason bus.bench (one-part reason k) h.bench }

changed-in : (change : Change) (number : ℕ) (bus : Bus) → IsChangeInShape change → IsBusInShape bus → IsBusInShape (changed change number bus)
changed-in Nothing number bus k h = h
changed-in (PutsNote terms) number bus k h = record {
  procs = All-map IsProcInShape (given terms) bus.procs (All-weaker IsProcInShape (λ proc. IsProcInShape (given terms proc)) (λ proc p. given-in terms proc k p) bus.procs h.procs);
  bench = h.bench;
}
changed-in (TakesNote index) number bus k h = record { procs = with_inbox-in number (without_note index) (λ held notes. all-remove IsNote held.notes index notes) bus.procs h.procs; bench = h.bench }
changed-in (Subscribes patterns) number bus k h = record { procs = with_inbox-in number (subscribed patterns) (λ held notes. notes) bus.procs h.procs; bench = h.bench }
changed-in (Unsubscribes patterns) number bus k h = record { procs = with_inbox-in number (unsubscribed patterns) (λ held notes. notes) bus.procs h.procs; bench = h.bench }
changed-in (Creates process actuals) number bus k h = record {
  procs = All-append IsProcInShape bus.procs (created bus process actuals) h.procs (opened_one-in bus.next_number process actuals (slice_get bus.program.bodies process) k);
  bench = h.bench;
}
changed-in (SetsBench bench) number bus k h = record { procs = h.procs; bench = k }
changed-in (GoesDown reason) number bus k h = went_down-in reason bus k h

-- how processes go on

left-in-shape : (proc : Proc) (store : List Slot) (residual : Option Process) → IsShallowStore store → IsProcInShape proc → AreInShape (proc_left proc store residual)
left-in-shape proc store None k h = All-nil IsProcInShape
left-in-shape proc store (Some term) k h = All-one IsProcInShape (record proc { term = term; store = store }) (record { store = k; notes = h.notes })

one-in : (b : Bool) (proc : Proc) (store : List Slot) (residual : Option Process) → IsShallowStore store → IsProcInShape proc → AreInShape (if b then proc_left proc store residual else proc ∷ [])
one-in true proc store residual k h = left-in-shape proc store residual k h
one-in false proc store residual k h = All-one IsProcInShape proc h

advance-in : (number : ℕ) (offered : Offered) (binds : List Bind) (procs : List Proc) → IsShallowStore offered.store → AreShallowBinds binds → AreInShape procs → AreInShape (advance number offered binds procs)
unfolding advance
advance-in number offered binds procs k b h =
    let store = shallow-with_binds offered.store binds k b in
    All-flat_map IsProcInShape (λ proc. if proc.number == number then proc_left proc (with_binds offered.store binds) offered.residual else proc ∷ []) procs
    (All-weaker IsProcInShape (λ proc. AreInShape (if proc.number == number then proc_left proc (with_binds offered.store binds) offered.residual else proc ∷ []))
    (λ proc p. one-in (proc.number == number) proc (with_binds offered.store binds) offered.residual store p) procs h)

-- moves

-- who moves is in shape, and so is the action
record IsActing (bus : Bus) (proc : Proc) (offered : Offered) (does : Action) : Type 0 where
  who : IsProcInShape proc
  store : IsShallowStore offered.store
  what : IsActionInShape does

acting-in : (bus : Bus) (proc : Proc) (offered : Offered) (does : Action) → IsBusInShape bus → IsReadyFor bus proc offered does → IsActing bus proc offered does
acting-in bus proc offered does h ready =
    let its = All-contains IsProcInShape bus.procs proc h.procs ready.0.0 in
    let store = offer-shallow proc.term proc.store offered its.store ready.0.1 in
    record { who = its; store = store; what = action-in-shape bus.program.bodies proc.body bus.now offered does store ready.1 }

-- what is seen of a move, and the bus after it
record IsMoved (bus : Bus) (move : Move) : Type 0 where
  label : IsLabelInShape (label_of move)
  size : terms_size (label_of move).terms ≤ 131072
  next : IsBusInShape (apply bus move)

own-moved : (bus : Bus) (proc : Proc) (offered : Offered) (effect : Effect) (does : Action) → IsBusInShape bus → IsReadyFor bus proc offered does → effect_of bus proc does ≡ Some effect → IsMoved bus (Own proc offered effect)
own-moved bus proc offered effect does h ready e =
    let acting = acting-in bus proc offered does h ready in
    let is = effect-in-shape bus proc does effect h acting.who acting.what e in
    let new = changed-in effect.change proc.number bus is.change h in
    record {
      label = record { places = is.places (place_of proc offered); count = is.count; terms = is.terms };
      size = is.size;
      next = record { procs = advance-in proc.number offered effect.binds (changed effect.change proc.number bus).procs acting.store is.binds new.procs; bench = new.bench };
    }

handshake-moved : (bus : Bus) (sender : Proc) (sent : Offered) (receiver : Proc) (received : Offered) (terms : List Term) (binds : List Bind) (patterns : List Pattern) → IsBusInShape bus →
    IsReadyFor bus sender sent (action.Send terms) → IsReadyFor bus receiver received (action.Receive patterns) → match_list patterns terms ≡ Some binds → IsMoved bus (Handshake sender sent receiver received terms binds)
handshake-moved bus sender sent receiver received terms binds patterns h ready its e =
    let acting = acting-in bus sender sent (action.Send terms) h ready in
    let taking = acting-in bus receiver received (action.Receive patterns) h its in
    let note : IsNote terms = acting.what in
    record {
      label = record { places = tt; count = le-leb 1 (length terms) note.0; terms = note.1.each };
      size = let size = note.1.together in omega arith;
      next = record {
        procs = advance-in receiver.number received binds (advance sender.number sent [] bus.procs) taking.store (match-shallow patterns terms binds (all-levels terms note.1.each) e)
            (advance-in sender.number sent [] bus.procs acting.store (All-nil (λ (bind : Bind). IsShallow bind.value)) h.procs);
        bench = h.bench;
      };
    }

moved-in : (bus : Bus) (move : Move) → IsBusInShape bus → IsMoveOf bus move → IsMoved bus move
moved-in bus (Own proc offered effect) h is = own-moved bus proc offered effect is.0 h is.1 is.2
moved-in bus (Handshake sender sent receiver received terms binds) h is = handshake-moved bus sender sent receiver received terms binds is.1.0 h is.0 is.1.1 is.1.2
moved-in bus Finish h is = record {
  label = record { places = (refl, refl); count = refl; terms = All-nil IsWithinLimits };
  size = omega arith;
  next = went_down-in finish_reason bus finish-within h;
}
moved-in bus Halt h is = record {
  label = record { places = (refl, refl); count = refl; terms = All-nil IsWithinLimits };
  size = omega arith;
  next = went_down-in halt_reason bus halt-within h;
}

-- inputs

fed-by : (bus : Bus) (input : Input) (down : Bool) → IsInputInShape input → IsBusInShape bus → IsBusInShape (let answer : Answer = if down then record { reply = Dropped Down; bus = bus } else took bus input in answer.bus)
fed-by bus input true k h = h
fed-by bus Tick false k h = record {
  procs = All-map IsProcInShape aged_proc bus.procs (All-weaker IsProcInShape (λ proc. IsProcInShape (aged_proc proc)) (λ proc p. record { store = p.store; notes = p.notes }) bus.procs h.procs);
  bench = h.bench;
}
fed-by bus NoTicks false k h = record { procs = h.procs; bench = h.bench }
fed-by bus (Line lane line) false k h = record { procs = h.procs; bench = put_line-in (declares bus.program.tools line) line lane bus.bench k.1 h.bench }
fed-by bus (Gone lane) false k h = record { procs = h.procs; bench = gone-in lane bus.bench h.bench }
fed-by bus (Cut lane) false k h = record { procs = h.procs; bench = cut-in lane bus.bench h.bench }

-- entries

-- an entry that may follow is in shape, and so is what waits on the bus after it
pub record IsLed (entry : Entry) (next : Bus) : Type 0 where
  pub shape : InShape entry
  pub waits : IsBusInShape next

pub legal-in_shape : (bus next : Bus) (entry : Entry) → IsBusInShape bus → IsLegal bus entry next → IsLed entry next
legal-in_shape bus next (Did label) h legal =
    let step : Step = record { label = label; bus = next } in
    let made = step-made bus step legal in
    let it = moved-in bus made.0 h made.1 in
    record { shape = subst IsLabelInShape (sym (ap (λ (s : Step). s.label) made.2)) it.label; waits = subst IsBusInShape (sym (ap (λ (s : Step). s.bus) made.2)) it.next }
legal-in_shape bus next Quiet h legal = record { shape = tt; waits = subst IsBusInShape (sym legal.2) h }
legal-in_shape bus next (Fed input reply) h legal = record { shape = legal.0; waits = subst IsBusInShape (sym (ap (λ (a : Answer). a.bus) legal.1)) (fed-by bus input bus.down legal.0 h) }
legal-in_shape bus next (Gave lane out) h legal = record {
  shape = (legal.0, next_out-in lane bus.bench out h.bench legal.1);
  waits = subst IsBusInShape (sym legal.2) (record { procs = h.procs; bench = handed_out-in lane bus.bench h.bench });
}

-- what is seen of a step is no larger than two terms may be
pub label-size : (bus next : Bus) (label : Label) → IsBusInShape bus → IsLegal bus (Did label) next → terms_size label.terms ≤ 131072
label-size bus next label h legal =
    let step : Step = record { label = label; bus = next } in
    let made = step-made bus step legal in
    let it = moved-in bus made.0 h made.1 in
    subst (λ (l : Label). terms_size l.terms ≤ 131072) (sym (ap (λ (s : Step). s.label) made.2)) it.size

-- the opening bus

limited-levels : (terms : List Term) → list_all is_within_limits terms ≡ true → All IsShallow terms
limited-levels [] h = All-nil IsShallow
limited-levels (term ∷ terms) h =
    let parts = and_parts (is_within_limits term) (list_all is_within_limits terms) h in
    let within = within-limits term parts.0 in
    All-cons IsShallow term terms within.levels (limited-levels terms parts.1)

root-in : (number : ℕ) (root : Root) (body : Option Body) → starts body root.actuals ≡ true → AreInShape (opened_one number root.process root.actuals body)
root-in number root None h = All-nil IsProcInShape
root-in number root (Some body) h =
    let actuals = root.actuals in
    opened_one-in number root.process actuals (Some body)
    (limited-levels actuals (and_parts (length actuals == body.formals && have_sorts body.sorts actuals) (list_all is_within_limits actuals) h).1)

roots-in : (bodies : List Body) (number : ℕ) (roots : List Root) → list_all (is_root_in_range bodies) roots ≡ true → AreInShape (opened bodies number roots)
roots-in bodies number [] h = All-nil IsProcInShape
roots-in bodies number (root ∷ roots) h =
    let parts = and_parts (is_root_in_range bodies root) (list_all (is_root_in_range bodies) roots) h in
    All-append IsProcInShape (opened_one number root.process root.actuals (slice_get bodies root.process)) (opened bodies (number + 1) roots)
    (root-in number root (slice_get bodies root.process) parts.0) (roots-in bodies (number + 1) roots parts.1)

range-roots : (bodies : List Body) (roots : List Root) (tools : List ToolKind) → is_program_in_range bodies roots tools ≡ true → list_all (is_root_in_range bodies) roots ≡ true
unfolding is_program_in_range
range-roots bodies roots tools h = (and_parts _ (list_all (is_root_in_range bodies) roots) h).1

start-in : (origin : Origin) → IsBusInShape (start origin)
start-in origin =
    let program = origin.program in
    record { procs = roots-in program.bodies 1 program.roots (range-roots program.bodies program.roots program.tools program.in_range); bench = opening-in origin.connects }

-- what a program reaches

trace-from : (bus : Bus) (log : List Entry) → IsBusInShape bus → IsTrace bus log → All InShape log × IsBusInShape (replay bus log)
trace-from bus [] h t = (All-nil InShape, h)
trace-from bus (entry ∷ log) h t =
    let first = legal-in_shape bus (after bus entry) entry h t.0 in
    let rest = trace-from (after bus entry) log first.waits t.1 in
    (All-cons InShape entry log first.shape rest.0, rest.1)

-- Each entry of a trace is in shape,
pub trace-in_shape : (origin : Origin) (log : List Entry) → IsTrace (start origin) log → All InShape log
trace-in_shape origin log t = (trace-from (start origin) log (start-in origin) t).0

-- and so is what waits on a bus that a program reaches,
pub reached-in_shape : (origin : Origin) (bus : Bus) → Reaches origin bus → IsBusInShape bus
reached-in_shape origin bus r = subst IsBusInShape (sym r.2) (trace-from (start origin) r.0 (start-in origin) r.1).1

-- and each entry that may follow.
pub entry-in_shape : (origin : Origin) (bus next : Bus) (entry : Entry) → Reaches origin bus → IsLegal bus entry next → InShape entry
entry-in_shape origin bus next entry r legal = (legal-in_shape bus next entry (reached-in_shape origin bus r) legal).shape
