-- In each bus that a program reaches, each process has a store of its body.
use Rattle.std.proofs.Common.{◌≡◌, ℕ, ◌<◌, ◌==◌, Bool, true, false, List, [], ◌∷◌, ◌++◌, map, slice_get, Option, Some, None, option_map, Contains, if◌then◌else◌, refl, ap, sym, ◌∙◌, subst, arith}
use Rattle.std.specs.List.{All}
use Rattle.std.proofs.lemmas.Bool.{eqb-true}
use Rattle.std.proofs.lemmas.List.Elements.{All-nil, All-append, All-map, All-weaker, All-contains, All-contains_itself}
use Rattle.tb_terms.specs.declared.term.Term.{Term}
use Rattle.std.proofs.lemmas.Option.{slice_get-map}
use Rattle.tb_terms.specs.declared.sort.Sort.{Sort}
use Rattle.tb_func.specs.declared.slot.Slot.{Slot}
use Rattle.tb_func.specs.Stores.{are_well_sorted}
use Rattle.tb_match.specs.declared.bind.Bind.{Bind}
use Rattle.tb_body.specs.declared.body.Body.{Body}
use Rattle.tb_body.specs.declared.program.Program.{Program}
use Rattle.tb_notes.specs.Inboxes.{Held, subscribed, unsubscribed, wants, with_note, without_note}
use Rattle.tb_process_steps.specs.Processes.{Process}
use Rattle.tb_process_steps.specs.Binds.{with_binds, takes_binds}
use Rattle.tb_process_steps.specs.Offers.{Offered}
use Rattle.tb_process_steps.specs.Walks.{sorts_of}
use Rattle.tb_process_steps.proofs.Sorts.{binds-keep, offer-keeps}
use Rattle.tb_log.specs.declared.entry.Input.{Input}
use Rattle.tb_log.specs.declared.entry.Input.TheVariants.{Tick, NoTicks, Line, Gone, Cut}
use Rattle.tb_log.specs.declared.entry.Reply.TheVariants.{Dropped}
use Rattle.tb_log.specs.declared.entry.Why.TheVariants.{Down}
use Rattle.tb_log.specs.declared.entry.Entry.{Entry}
use Rattle.tb_log.specs.declared.entry.Entry.TheVariants.{Did, Quiet, Fed, Gave}
use Rattle.tb_bus.specs.declared.origin.Origin.{Origin}
use Rattle.tb_bus.specs.declared.action.Action.{Action}
use Rattle.tb_bus.specs.declared.action.Action.TheVariants as action
use Rattle.tb_bus.specs.Buses.{Bus, Proc, start, proc_left, created}
use Rattle.tb_bus.specs.Effects.{Change, Nothing, PutsNote, TakesNote, Subscribes, Unsubscribes, Creates, SetsBench, GoesDown, Effect, effect_of, given, with_inbox, changed}
use Rattle.tb_bus.specs.Reached.{Reaches}
use Rattle.tb_bus.specs.Steps.{Move, Own, Handshake, Finish, Halt, Step, advance, apply}
use Rattle.tb_bus.specs.Traces.{Answer, aged_proc, took, IsLegal, IsTrace, after, replay}
use Rattle.tb_bus.proofs.ChangeLemmas.{changed-keeps}
use Rattle.tb_bus.proofs.OrderLemmas.{All-flat_map, All-one, All-both, one-number, InOrder, advance-keeps}
use Rattle.tb_bus.proofs.ReachedLemmas.{IsOffered, IsReadyFor, IsMoveOf, step-made, reached-in_order}
use Rattle.tb_bus.proofs.TraceLemmas.{replay-append, trace-append, apply-program, fed-program}
use Rattle.tb_iface.proofs.StoreSorts.{IsStoreOf, HasStore, HaveStores, store-kept, one-opened, program-opened}
use Rattle.tb_iface.proofs.TakenBinds.{action-takes, IsChangeFit, IsEffectFit, effect-fit}

-- changes: of inboxes, and of the processes that are there

inbox-has : (bodies : List Body) (b : Bool) (proc : Proc) (inbox : Held) → HasStore bodies proc → HasStore bodies (if b then record proc { inbox = inbox } else proc)
inbox-has bodies true proc inbox h = h
inbox-has bodies false proc inbox h = h

map-have : (bodies : List Body) (f : Proc → Proc) (procs : List Proc) → ((proc : Proc) → HasStore bodies proc → HasStore bodies (f proc)) → HaveStores bodies procs → HaveStores bodies (map f procs)
map-have bodies f procs k h = All-map (HasStore bodies) f procs (All-weaker (HasStore bodies) (λ proc. HasStore bodies (f proc)) k procs h)

given-have : (bodies : List Body) (terms : List Term) (procs : List Proc) → HaveStores bodies procs → HaveStores bodies (map (given terms) procs)
given-have bodies terms procs h = map-have bodies (given terms) procs (λ proc is. inbox-has bodies (wants proc.inbox terms) proc (with_note terms proc.inbox) is) h

inboxes-have : (bodies : List Body) (number : ℕ) (change : Held → Held) (procs : List Proc) → HaveStores bodies procs → HaveStores bodies (map (with_inbox number change) procs)
inboxes-have bodies number change procs h = map-have bodies (with_inbox number change) procs (λ proc is. inbox-has bodies (proc.number == number) proc (change proc.inbox) is) h

changed-have : (change : Change) (number : ℕ) (bus : Bus) → IsChangeFit bus.program.bodies change → HaveStores bus.program.bodies bus.procs → HaveStores bus.program.bodies (changed change number bus).procs
changed-have Nothing number bus k h = h
changed-have (PutsNote terms) number bus k h = given-have bus.program.bodies terms bus.procs h
changed-have (TakesNote index) number bus k h = inboxes-have bus.program.bodies number (without_note index) bus.procs h
changed-have (Subscribes patterns) number bus k h = inboxes-have bus.program.bodies number (subscribed patterns) bus.procs h
changed-have (Unsubscribes patterns) number bus k h = inboxes-have bus.program.bodies number (unsubscribed patterns) bus.procs h
changed-have (Creates process actuals) number bus k h =
    let bodies = bus.program.bodies in
    All-append (HasStore bodies) bus.procs (created bus process actuals) h (one-opened bodies bus.next_number process actuals (slice_get bodies process) refl k)
changed-have (SetsBench bench) number bus k h = h
changed-have (GoesDown reason) number bus k h = h

-- how a process goes on

-- the store is one of the body, where this is the process of the number
abbrev MayHave : List Body → ℕ → List Slot → ℕ → ℕ → Type 0
MayHave bodies number store n body = n ≡ number → IsStoreOf bodies body store

abbrev MayAll : List Body → ℕ → List Slot → List Proc → Type 0
MayAll bodies number store procs = All (λ (proc : Proc). MayHave bodies number store proc.number proc.body) procs

left-has : (bodies : List Body) (proc : Proc) (store : List Slot) (left : Option Process) → IsStoreOf bodies proc.body store → HaveStores bodies (proc_left proc store left)
left-has bodies proc store None h = All-nil (HasStore bodies)
left-has bodies proc store (Some term) h = All-one (HasStore bodies) (record proc { term = term; store = store }) h

one-has : (bodies : List Body) (number : ℕ) (proc : Proc) (store : List Slot) (left : Option Process) (b : Bool) → (proc.number == number) ≡ b → MayHave bodies number store proc.number proc.body → HasStore bodies proc →
    HaveStores bodies (if b then proc_left proc store left else proc ∷ [])
one-has bodies number proc store left true e may h = left-has bodies proc store left (may (eqb-true proc.number number e))
one-has bodies number proc store left false e may h = All-one (HasStore bodies) proc h

advance-have : (bodies : List Body) (number : ℕ) (offered : Offered) (binds : List Bind) (procs : List Proc) → MayAll bodies number (with_binds offered.store binds) procs → HaveStores bodies procs →
    HaveStores bodies (advance number offered binds procs)
unfolding advance
advance-have bodies number offered binds procs may h =
    let store = with_binds offered.store binds in
    let May : Proc → Type 0 = λ proc. MayHave bodies number store proc.number proc.body in
    let next : Proc → List Proc = λ proc. if proc.number == number then proc_left proc store offered.residual else proc ∷ [] in
    All-flat_map (HasStore bodies) next procs
    (All-weaker (λ proc. May proc × HasStore bodies proc) (λ proc. HaveStores bodies (next proc))
    (λ proc both. one-has bodies number proc store offered.residual (proc.number == number) refl both.0 both.1) procs (All-both May (HasStore bodies) procs may h))

-- the process that takes an offer is the one of its number
may-all : (bus : Bus) (proc : Proc) (store : List Slot) → InOrder bus → Contains bus.procs proc → IsStoreOf bus.program.bodies proc.body store → MayAll bus.program.bodies proc.number store bus.procs
may-all bus proc store order c is =
    let bodies = bus.program.bodies in
    All-weaker (Contains bus.procs) (λ (p : Proc). MayHave bodies proc.number store p.number p.body)
    (λ p d. λ e. subst (λ (q : Proc). IsStoreOf bodies q.body store) (sym (one-number 0 bus.procs p proc order.ascend e d c)) is)
    bus.procs (All-contains_itself bus.procs)

-- moves

-- the store in which it is offered is one of its body, and so is that with the binds that it takes
pub offered-store : (bus : Bus) (proc : Proc) (offered : Offered) → HaveStores bus.program.bodies bus.procs → IsOffered bus proc offered → IsStoreOf bus.program.bodies proc.body offered.store
offered-store bus proc offered h g =
    let bodies = bus.program.bodies in
    store-kept bodies proc.body proc.store offered.store (offer-keeps proc.term proc.store offered g.1) (All-contains (HasStore bodies) bus.procs proc h g.0)

bound-store : (bus : Bus) (proc : Proc) (offered : Offered) (binds : List Bind) → HaveStores bus.program.bodies bus.procs → IsOffered bus proc offered → takes_binds offered.store binds ≡ true →
    IsStoreOf bus.program.bodies proc.body (with_binds offered.store binds)
bound-store bus proc offered binds h g takes = store-kept bus.program.bodies proc.body offered.store (with_binds offered.store binds) (binds-keep offered.store binds takes) (offered-store bus proc offered h g)

-- the results of a process by itself
pub own-fits : (bus : Bus) (proc : Proc) (offered : Offered) (does : Action) (effect : Effect) → HaveStores bus.program.bodies bus.procs → IsReadyFor bus proc offered does → effect_of bus proc does ≡ Some effect →
    IsEffectFit bus.program.bodies offered.store effect
own-fits bus proc offered does effect h ready e = effect-fit bus proc offered.store does effect (offered-store bus proc offered h ready.0) (action-takes bus proc offered does ready.1) e

own-have : (bus : Bus) (proc : Proc) (offered : Offered) (effect : Effect) → InOrder bus → HaveStores bus.program.bodies bus.procs → IsOffered bus proc offered → IsEffectFit bus.program.bodies offered.store effect →
    HaveStores bus.program.bodies (apply bus (Own proc offered effect)).procs
own-have bus proc offered effect order h g fit =
    let bodies = bus.program.bodies in
    let store = with_binds offered.store effect.binds in
    let less = All-contains (λ (p : Proc). p.number < bus.next_number) bus.procs proc order.below g.0 in
    let other : (process : ℕ) → MayHave bodies proc.number store bus.next_number process = λ process e. absurd (omega (arith, e, less)) in
    let may = changed-keeps (MayHave bodies proc.number store) effect.change proc.number bus (may-all bus proc store order g.0 (bound-store bus proc offered effect.binds h g fit.binds)) other in
    advance-have bodies proc.number offered effect.binds (changed effect.change proc.number bus).procs may (changed-have effect.change proc.number bus fit.change h)

apply-have : (bus : Bus) (move : Move) → InOrder bus → HaveStores bus.program.bodies bus.procs → IsMoveOf bus move → HaveStores bus.program.bodies (apply bus move).procs
apply-have bus (Own proc offered effect) order h is = own-have bus proc offered effect order h is.1.0 (own-fits bus proc offered is.0 effect h is.1 is.2)
apply-have bus (Handshake sender sent receiver received terms binds) order h is =
    let bodies = bus.program.bodies in
    let takes : takes_binds received.store binds ≡ true = action-takes bus receiver received (action.Receive is.1.0) is.1.1.1 terms binds is.1.2 in
    let first = advance-have bodies sender.number sent [] bus.procs (may-all bus sender sent.store order is.0.0.0 (offered-store bus sender sent h is.0.0)) h in
    let store = with_binds received.store binds in
    let may = advance-keeps (MayHave bodies receiver.number store) sender.number sent [] bus.procs (may-all bus receiver store order is.1.1.0.0 (bound-store bus receiver received binds h is.1.1.0 takes)) in
    advance-have bodies receiver.number received binds (advance sender.number sent [] bus.procs) may first
apply-have bus Finish order h is = h
apply-have bus Halt order h is = h

-- entries

fed-have : (bodies : List Body) (bus : Bus) (input : Input) (down : Bool) → HaveStores bodies bus.procs → HaveStores bodies (let answer : Answer = if down then record { reply = Dropped Down; bus = bus } else took bus input in answer.bus.procs)
fed-have bodies bus input true h = h
fed-have bodies bus Tick false h = map-have bodies aged_proc bus.procs (λ proc is. is) h
fed-have bodies bus NoTicks false h = h
fed-have bodies bus (Line lane line) false h = h
fed-have bodies bus (Gone lane) false h = h
fed-have bodies bus (Cut lane) false h = h

-- A bus that a program reaches has this program, and each of its processes has a store of its body.
pub record IsSorted (origin : Origin) (bus : Bus) : Type 0 where
  pub reached : Reaches origin bus
  pub program : bus.program ≡ origin.program
  pub stores : HaveStores bus.program.bodies bus.procs

reached-next : (origin : Origin) (bus : Bus) (entry : Entry) → Reaches origin bus → IsLegal bus entry (after bus entry) → Reaches origin (after bus entry)
reached-next origin bus entry r legal =
    let led : IsTrace (replay (start origin) r.0) (entry ∷ []) = subst (λ (b : Bus). IsTrace b (entry ∷ [])) r.2 (legal, tt) in (
      r.0 ++ entry ∷ [],
      trace-append (start origin) r.0 (entry ∷ []) r.1 led,
      ap (λ (b : Bus). after b entry) r.2 ∙ sym (replay-append (start origin) r.0 (entry ∷ [])),
    )

-- of two buses with one program
same-bodies : (old new : Bus) (procs : List Proc) → new.program ≡ old.program → HaveStores old.program.bodies procs → HaveStores new.program.bodies procs
same-bodies old new procs e h = subst (λ (program : Program). HaveStores program.bodies procs) (sym e) h

after-have : (bus : Bus) (entry : Entry) → InOrder bus → HaveStores bus.program.bodies bus.procs → IsLegal bus entry (after bus entry) → ((after bus entry).program ≡ bus.program) × HaveStores bus.program.bodies (after bus entry).procs
after-have bus (Did label) order h legal =
    let made = step-made bus (record { label = label; bus = after bus (Did label) }) legal in
    let same : after bus (Did label) ≡ apply bus made.0 = ap (λ (s : Step). s.bus) made.2 in (
      ap (λ (b : Bus). b.program) same ∙ apply-program bus made.0,
      subst (λ (b : Bus). HaveStores bus.program.bodies b.procs) (sym same) (apply-have bus made.0 order h made.1),
    )
after-have bus Quiet order h legal = (refl, h)
after-have bus (Fed input reply) order h legal = (fed-program bus input, fed-have bus.program.bodies bus input bus.down h)
after-have bus (Gave lane out) order h legal = (refl, h)

-- Each entry leads on to such a bus,
pub sorted-next : (origin : Origin) (bus : Bus) (entry : Entry) → IsSorted origin bus → IsLegal bus entry (after bus entry) → IsSorted origin (after bus entry)
sorted-next origin bus entry h legal =
    let next = after-have bus entry (reached-in_order origin bus h.reached) h.stores legal in
    record {
      reached = reached-next origin bus entry h.reached legal;
      program = next.0 ∙ h.program;
      stores = same-bodies bus (after bus entry) (after bus entry).procs next.0 next.1;
    }

-- and a program opens with one.
pub sorted-start : (origin : Origin) → IsSorted origin (start origin)
sorted-start origin =
    let program = origin.program in
    record { reached = ([], tt, refl); program = refl; stores = program-opened program.bodies 1 program.roots program.tools program.in_range }

sorted-from : (origin : Origin) (bus : Bus) (log : List Entry) → IsSorted origin bus → IsTrace bus log → IsSorted origin (replay bus log)
sorted-from origin bus [] h trace = h
sorted-from origin bus (entry ∷ log) h trace = sorted-from origin (after bus entry) log (sorted-next origin bus entry h trace.0) trace.1

reached-sorted : (origin : Origin) (bus : Bus) → Reaches origin bus → IsSorted origin bus
reached-sorted origin bus r = subst (IsSorted origin) (sym r.2) (sorted-from origin (start origin) r.0 (sorted-start origin) r.1)

-- So each process of a bus that a program reaches has the sorts of its body in its store,
pub stored-sorts : (origin : Origin) (bus : Bus) (proc : Proc) → Reaches origin bus → Contains bus.procs proc → slice_get (map (λ (body : Body). body.sorts) origin.program.bodies) proc.body ≡ Some (sorts_of proc.store)
stored-sorts origin bus proc r c =
    let sorted = reached-sorted origin bus r in
    let its = All-contains (HasStore bus.program.bodies) bus.procs proc sorted.stores c in
    let sorts_in : Body → List Sort = λ body. body.sorts in
    ap (λ (program : Program). slice_get (map sorts_in program.bodies) proc.body) (sym sorted.program)
    ∙ slice_get-map sorts_in bus.program.bodies proc.body ∙ ap (option_map sorts_in) its.there ∙ ap (λ (sorts : List Sort). Some sorts) (sym its.sorts)

-- and each value there has its sort.
pub stored-values : (origin : Origin) (bus : Bus) (proc : Proc) → Reaches origin bus → Contains bus.procs proc → are_well_sorted proc.store ≡ true
stored-values origin bus proc r c = (All-contains (HasStore bus.program.bodies) bus.procs proc (reached-sorted origin bus r).stores c).values
