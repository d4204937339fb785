-- A step of a process binds what the store takes in which the step is offered; and a created process has arguments that fit.
use Rattle.std.proofs.Common.{◌≡◌, ℕ, nat_lt, Bool, true, false, ◌&&◌, List, [], ◌∷◌, length, slice_get, Option, Some, None, IfSome, is_some, option_map, option_and_then, refl, ap, sym, ◌∙◌, subst}
use Rattle.std.specs.Prelude.{⊤, MatchOption}
use Rattle.std.specs.List.{list_all}
use Rattle.std.proofs.lemmas.Bool.{and_from, and_parts}
use Rattle.std.proofs.lemmas.Option.{same_Some}
use Rattle.tb_terms.specs.declared.term.Term.{Term}
use Rattle.tb_terms.specs.declared.sort.Sort.{Sort}
use Rattle.tb_terms.specs.declared.pattern.Pattern.{Pattern}
use Rattle.tb_func.specs.declared.slot.Slot.{Slot}
use Rattle.tb_func.specs.Printing.{printf_of}
use Rattle.tb_func.specs.Stores.{sort_at}
use Rattle.tb_match.specs.declared.bind.Bind.{Bind}
use Rattle.tb_match.specs.Matches.{match_list}
use Rattle.tb_body.specs.declared.act.Act.{Act}
use Rattle.tb_body.specs.declared.act.Act.TheVariants.{Delta, Tau, SndMsg, RecMsg, SndNote, RecNote, NoNote, Subscribe, Unsubscribe, Create, Set, Printf, Execute, RecConnect, RecDisconnectAny, RecDisconnect, SndEval, RecValue, SndDo, RecEvent, SndAckEvent, SndTerminate, Shutdown}
use Rattle.tb_body.specs.declared.body.Body.{Body}
use Rattle.tb_process_steps.specs.Atoms.{act_of, times_of, is_ready, values_together, patterns_of}
use Rattle.tb_process_steps.specs.Binds.{has_slot_sort, takes_bind, takes_binds}
use Rattle.tb_process_steps.specs.Offers.{Offered}
use Rattle.tb_process_steps.proofs.Sorts.{sort_at-sorts_of}
use Rattle.tb_notes.specs.Inboxes.{Held, oldest_match}
use Rattle.tb_notes.specs.Oldest.{IsOldest, NoneMatches}
use Rattle.tb_notes.specs.declared.queue.Found.{Found}
use Rattle.tb_notes.proofs.Finding.{oldest-first}
use Rattle.tb_log.specs.declared.entry.LabelKind.TheVariants as kind
use Rattle.tb_bus.specs.Actions.{set_action, print_action, notify_action, take_note_action, no_note_action, subscribe_action, unsubscribe_action, create_action, speak_by, shutdown_action, action_in, action_if}
use Rattle.tb_bus.specs.Buses.{Bus, Proc, atoms_of}
use Rattle.tb_bus.specs.Effects.{Change, Nothing, PutsNote, TakesNote, Subscribes, Unsubscribes, Creates, SetsBench, GoesDown, Effect, number_term, takes_note, may_create, creation, taking, own_effect, setting_of, speaking, effect_of}
use Rattle.tb_bus.specs.Exchanges.{exchange_for}
use Rattle.tb_bus.specs.Slots.{fits_formals, fits_slot}
use Rattle.tb_bus.specs.Steps.{action_by}
use Rattle.tb_bus.specs.declared.action.Action.{Action}
use Rattle.tb_bus.specs.declared.action.Action.TheVariants as action
use Rattle.tb_bus.specs.declared.action.OwnAction.{OwnAction}
use Rattle.tb_bus.specs.declared.action.OwnAction.TheVariants as own
use Rattle.tb_bus.specs.declared.action.ToolAction.TheVariants as tool_action
use Rattle.tb_bus.proofs.ExchangeLemmas.{PatternsTake, SpeakTakes, patterns-take, about-some, exchange-takes}
use Rattle.tb_iface.proofs.FoundLemmas.{map-each, then-each, test-each, unless-each}
use Rattle.tb_iface.proofs.StoreSorts.{IsStoreOf}

-- actions

abbrev OwnTakes : List Slot → OwnAction → Type 0
OwnTakes store own.Tau = ⊤
OwnTakes store (own.Set values binds) = takes_binds store binds ≡ true
OwnTakes store (own.Print text) = ⊤
OwnTakes store (own.Notify terms) = ⊤
OwnTakes store (own.TakeNote patterns) = PatternsTake store patterns
OwnTakes store (own.NoNote patterns) = ⊤
OwnTakes store (own.Subscribe patterns) = ⊤
OwnTakes store (own.Unsubscribe patterns) = ⊤
OwnTakes store (own.Create process actuals slot) = ⊤
OwnTakes store (own.Speak does) = SpeakTakes store does
OwnTakes store (own.Shutdown reason) = ⊤

-- what an action binds by itself, or by what is received, the store takes
abbrev pub ActionTakes : List Slot → Action → Type 0
ActionTakes store (action.Own does) = OwnTakes store does
ActionTakes store (action.Send terms) = ⊤
ActionTakes store (action.Receive patterns) = PatternsTake store patterns

abbrev GivesTaking : List Slot → Option Action → Type 0
GivesTaking store found = IfSome found (ActionTakes store)

set-takes : (store : List Slot) (slot : ℕ) (values : List Term) → GivesTaking store (set_action store slot values)
set-takes store slot [] = tt
set-takes store slot (value ∷ []) =
    let bind : Bind = record { slot = slot; value = value } in
    test-each (ActionTakes store) (takes_bind store bind) (action.Own (own.Set (bind.value ∷ []) (bind ∷ []))) (λ e. and_from (takes_bind store bind) true e refl)
set-takes store slot (value ∷ other ∷ values) = tt

shutdown-takes : (store : List Slot) (reasons : List Term) → GivesTaking store (shutdown_action reasons)
shutdown-takes store [] = tt
shutdown-takes store (reason ∷ []) = tt
shutdown-takes store (reason ∷ other ∷ terms) = tt

action_in-takes : (store : List Slot) (act : Act) → GivesTaking store (action_in store act)
action_in-takes store Delta = tt
action_in-takes store Tau = tt
action_in-takes store (SndMsg exprs) = map-each (ActionTakes store) action.Send (values_together store exprs) (λ x e. tt)
action_in-takes store (RecMsg exprs) = map-each (ActionTakes store) action.Receive (patterns_of store exprs) (patterns-take store exprs)
action_in-takes store (SndNote exprs) = map-each (ActionTakes store) notify_action (values_together store exprs) (λ x e. tt)
action_in-takes store (RecNote exprs) = map-each (ActionTakes store) take_note_action (patterns_of store exprs) (patterns-take store exprs)
action_in-takes store (NoNote exprs) = map-each (ActionTakes store) no_note_action (patterns_of store exprs) (λ x e. tt)
action_in-takes store (Subscribe exprs) = map-each (ActionTakes store) subscribe_action (patterns_of store exprs) (λ x e. tt)
action_in-takes store (Unsubscribe exprs) = map-each (ActionTakes store) unsubscribe_action (patterns_of store exprs) (λ x e. tt)
action_in-takes store (Create process actuals slot) = map-each (ActionTakes store) (create_action process slot) (values_together store actuals) (λ x e. tt)
action_in-takes store (Set slot value) = then-each (ActionTakes store) (set_action store slot) (values_together store (value ∷ [])) (λ terms e. set-takes store slot terms)
action_in-takes store (Printf exprs) = map-each (ActionTakes store) print_action (option_and_then printf_of (values_together store exprs)) (λ x e. tt)
action_in-takes store (Execute tool slot) = tt
action_in-takes store (RecConnect tool slot) = tt
action_in-takes store (RecDisconnectAny tool slot) = tt
action_in-takes store (RecDisconnect tool) = map-each (ActionTakes store) (speak_by tool_action.Disconnect) (values_together store (tool ∷ [])) (λ x e. tt)
action_in-takes store (SndEval tool expr) = map-each (ActionTakes store) (speak_by tool_action.Eval) (values_together store (tool ∷ expr ∷ [])) (λ x e. tt)
action_in-takes store (RecValue tool expr) =
    about-some (ActionTakes store) tool_action.TakeValue (patterns_of store (expr ∷ [])) (values_together store (tool ∷ [])) (λ ts ps d e. patterns-take store (expr ∷ []) ps e)
action_in-takes store (SndDo tool expr) = map-each (ActionTakes store) (speak_by tool_action.Do) (values_together store (tool ∷ expr ∷ [])) (λ x e. tt)
action_in-takes store (RecEvent tool exprs) = about-some (ActionTakes store) tool_action.TakeEvent (patterns_of store exprs) (values_together store (tool ∷ [])) (λ ts ps d e. patterns-take store exprs ps e)
action_in-takes store (SndAckEvent tool exprs) = map-each (ActionTakes store) (speak_by tool_action.Acknowledge) (values_together store (tool ∷ exprs)) (λ x e. tt)
action_in-takes store (SndTerminate tool expr) = map-each (ActionTakes store) (speak_by tool_action.Terminate) (values_together store (tool ∷ expr ∷ [])) (λ x e. tt)
action_in-takes store (Shutdown reason) = then-each (ActionTakes store) shutdown_action (values_together store (reason ∷ [])) (λ terms e. shutdown-takes store terms)

if-takes : (ready : Bool) (store : List Slot) (act : Act) → GivesTaking store (action_if ready store act)
if-takes true store act = action_in-takes store act
if-takes false store act = tt

-- So does that of an offer.
pub action-takes : (bus : Bus) (proc : Proc) (offered : Offered) (does : Action) → action_by bus proc offered ≡ Some does → ActionTakes offered.store does
action-takes bus proc offered does e =
    let atoms = atoms_of bus.program.bodies proc.body in
    subst (GivesTaking offered.store) e (if-takes (is_ready offered.store offered.age bus.now (times_of atoms offered.atom)) offered.store (act_of atoms offered.atom))

-- effects

abbrev pub IsChangeFit : List Body → Change → Type 0
IsChangeFit bodies Nothing = ⊤
IsChangeFit bodies (PutsNote terms) = ⊤
IsChangeFit bodies (TakesNote index) = ⊤
IsChangeFit bodies (Subscribes patterns) = ⊤
IsChangeFit bodies (Unsubscribes patterns) = ⊤
IsChangeFit bodies (Creates process actuals) = fits_formals (slice_get bodies process) actuals ≡ true
IsChangeFit bodies (SetsBench bench) = ⊤
IsChangeFit bodies (GoesDown reason) = ⊤

pub record IsEffectFit (bodies : List Body) (store : List Slot) (effect : Effect) : Type 0 where
  pub binds : takes_binds store effect.binds ≡ true
  pub change : IsChangeFit bodies effect.change

abbrev GivesFit : List Body → List Slot → Option Effect → Type 0
GivesFit bodies store found = IfSome found (IsEffectFit bodies store)

-- a note that was found binds what its patterns bind
note-by : (bodies : List Body) (store : List Slot) (patterns : List Pattern) (held : Held) (found : Found) (note : Option (List Term)) → PatternsTake store patterns → option_and_then (match_list patterns) note ≡ Some found.binds →
    IsEffectFit bodies store (taking held found)
note-by bodies store patterns held found None takes e = cc
note-by bodies store patterns held found (Some note) takes e = record { binds = takes note found.binds e; change = tt }

note-fit : (bodies : List Body) (store : List Slot) (patterns : List Pattern) (held : Held) (found : Option Found) → PatternsTake store patterns → MatchOption found (NoneMatches patterns held.notes) (IsOldest patterns held.notes) →
    GivesFit bodies store (option_map (taking held) found)
note-fit bodies store patterns held None takes oldest = tt
note-fit bodies store patterns held (Some found) takes oldest = note-by bodies store patterns held found (slice_get held.notes found.place) takes oldest.0

slot-fits : (found : Option Body) (body : Body) (slot : ℕ) (value : Term) → found ≡ Some body → fits_slot found slot value ≡ true → has_slot_sort (slice_get body.sorts slot) value ≡ true
slot-fits None body slot value e h = cc
slot-fits (Some found) body slot value e h = let same : found ≡ body = same_Some found body e in ap (λ (b : Body). has_slot_sort (slice_get b.sorts slot) value) (sym same) ∙ h

create-fit : (bodies : List Body) (alive number creator process : ℕ) (actuals : List Term) (slot : ℕ) (store : List Slot) → IsStoreOf bodies creator store → may_create bodies alive number creator process actuals slot ≡ true →
    IsEffectFit bodies store (creation number process actuals slot)
create-fit bodies alive number creator process actuals slot store is may =
    let formals = fits_formals (slice_get bodies process) actuals in
    let value = number_term number in
    let parts = and_parts (nat_lt alive 10000 && formals) (fits_slot (slice_get bodies creator) slot value) may in
    let takes = slot-fits (slice_get bodies creator) is.body slot value is.there parts.1 in
    let same : sort_at store slot ≡ slice_get is.body.sorts slot = sort_at-sorts_of store slot ∙ ap (λ (all : List Sort). slice_get all slot) is.sorts in
    record {
      binds = and_from (takes_bind store (record { slot = slot; value = value })) true (ap (λ (o : Option Sort). has_slot_sort o value) same ∙ takes) refl;
      change = (and_parts (nat_lt alive 10000) formals parts.0).1;
    }

own-fit : (bus : Bus) (proc : Proc) (store : List Slot) (does : OwnAction) → IsStoreOf bus.program.bodies proc.body store → OwnTakes store does → GivesFit bus.program.bodies store (own_effect bus proc does)
own-fit bus proc store own.Tau is takes = record { binds = refl; change = tt }
own-fit bus proc store (own.Set values binds) is takes = record { binds = takes; change = tt }
own-fit bus proc store (own.Print text) is takes = record { binds = refl; change = tt }
own-fit bus proc store (own.Notify terms) is takes =
    test-each (IsEffectFit bus.program.bodies store) (list_all (λ (other : Proc). takes_note terms other.inbox) bus.procs) (record { kind = kind.SndNote; shown = terms; binds = []; change = PutsNote terms }) (λ e. record { binds = refl; change = tt })
own-fit bus proc store (own.TakeNote patterns) is takes = note-fit bus.program.bodies store patterns proc.inbox (oldest_match patterns proc.inbox) takes (oldest-first patterns proc.inbox)
own-fit bus proc store (own.NoNote patterns) is takes =
    unless-each (IsEffectFit bus.program.bodies store) (is_some (oldest_match patterns proc.inbox)) (record { kind = kind.NoNote; shown = []; binds = []; change = Nothing }) (record { binds = refl; change = tt })
own-fit bus proc store (own.Subscribe patterns) is takes = record { binds = refl; change = tt }
own-fit bus proc store (own.Unsubscribe patterns) is takes = record { binds = refl; change = tt }
own-fit bus proc store (own.Create process actuals slot) is takes =
    test-each (IsEffectFit bus.program.bodies store) (may_create bus.program.bodies (length bus.procs) bus.next_number proc.body process actuals slot) (creation bus.next_number process actuals slot)
    (create-fit bus.program.bodies (length bus.procs) bus.next_number proc.body process actuals slot store is)
own-fit bus proc store (own.Speak does) is takes =
    let setting = setting_of bus proc in
    map-each (IsEffectFit bus.program.bodies store) (speaking setting does) (exchange_for setting does) (λ exchange e. record { binds = exchange-takes setting is.body store does exchange is.there is.sorts takes e; change = tt })
own-fit bus proc store (own.Shutdown reason) is takes = record { binds = refl; change = tt }

effect-gives : (bus : Bus) (proc : Proc) (store : List Slot) (does : Action) → IsStoreOf bus.program.bodies proc.body store → ActionTakes store does → GivesFit bus.program.bodies store (effect_of bus proc does)
effect-gives bus proc store (action.Own does) is takes = own-fit bus proc store does is takes
effect-gives bus proc store (action.Send terms) is takes = tt
effect-gives bus proc store (action.Receive patterns) is takes = tt

-- So the result of an action binds what the store takes.
pub effect-fit : (bus : Bus) (proc : Proc) (store : List Slot) (does : Action) (effect : Effect) → IsStoreOf bus.program.bodies proc.body store → ActionTakes store does → effect_of bus proc does ≡ Some effect →
    IsEffectFit bus.program.bodies store effect
effect-fit bus proc store does effect is takes e = subst (GivesFit bus.program.bodies store) e (effect-gives bus proc store does is takes)
