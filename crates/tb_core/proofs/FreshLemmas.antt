-- The actions of a process that was looked at: the offer of each, and what its store takes.
use Rattle.std.proofs.Common.{◌≡◌, ℕ, ◌+◌, ◌-◌, ◌<◌, zero, suc, List, [], ◌∷◌, ◌++◌, length, refl, ap, sym, subst, ◌∙◌, arith, Option, Some, None, Bool, true, false, slice_get, get_or, slice_index_or, option_map, option_and_then, IfSome, if◌then◌else◌}
use Rattle.std.specs.Bool.{⊤}
use Rattle.std.specs.List.{list_all}
use Rattle.std.proofs.lemmas.Bool.{and_parts}
use Rattle.std.proofs.lemmas.Option.{get_or_from_slice_get}
use Rattle.tb_terms.specs.declared.term.Term.{Term}
use Rattle.tb_terms.specs.declared.sort.Sort.{Sort}
use Rattle.tb_terms.specs.declared.pattern.Pattern.{Pattern}
use Rattle.tb_func.specs.declared.slot.Slot.{Slot}
use Rattle.tb_match.specs.declared.bind.Bind.{Bind}
use Rattle.tb_func.specs.Printing.{printf_of}
use Rattle.tb_match.specs.Matches.{are_plain}
use Rattle.tb_body.specs.declared.act.Act.{Act}
use Rattle.tb_body.specs.declared.act.Act.TheVariants.{Delta, Tau, SndMsg, RecMsg, SndNote, RecNote, NoNote, Subscribe, Unsubscribe, Create, Set, Printf, Execute, RecConnect, RecDisconnectAny, RecDisconnect, SndEval, RecValue, SndDo, RecEvent, SndAckEvent, SndTerminate, Shutdown}
use Rattle.tb_body.specs.declared.atom.Atom.{Atom}
use Rattle.tb_body.specs.declared.atom.Time.{Time}
use Rattle.tb_body.specs.declared.body.Body.{Body}
use Rattle.tb_body.specs.declared.tree.Tree.{Tree}
use Rattle.tb_body.specs.Acts.{is_act_in_body, is_atom_in_body}
use Rattle.tb_body.specs.Exprs.{is_value}
use Rattle.tb_body.specs.InRange.{is_body_in_range}
use Rattle.tb_process_steps.specs.Processes.{Process}
use Rattle.tb_process_steps.specs.Atoms.{act_in, act_of, times_of, is_ready, patterns_of, values_together}
use Rattle.tb_process_steps.specs.Binds.{takes_bind, takes_binds}
use Rattle.tb_process_steps.specs.Offers.{Offered, offers}
use Rattle.tb_process_steps.specs.Walks.{Walking, offers_of, is_end}
use Rattle.tb_process_steps.specs.WalkerViews.{View}
use Rattle.tb_bus.specs.Actions.{set_action, print_action, notify_action, take_note_action, no_note_action, subscribe_action, unsubscribe_action, create_action, speak_by, shutdown_action, action_in, action_if, action_of}
use Rattle.tb_search.specs.Candidates.{row_of, rows_of, row_at, ready_one, readies}
use Rattle.tb_search.specs.Views.{ready_at, offer_at, offer_of, no_ready, no_offer, Receives}
use Rattle.tb_bus.specs.declared.action.Action.{Action}
use Rattle.tb_bus.specs.declared.action.Action.TheVariants as action
use Rattle.tb_bus.specs.declared.action.OwnAction.{OwnAction}
use Rattle.tb_bus.specs.declared.action.ToolAction.TheVariants as does
use Rattle.tb_bus.specs.declared.action.OwnAction.TheVariants as own
use Rattle.tb_search.specs.declared.living.Ready.{Ready}
use Rattle.tb_search.specs.declared.living.Living.{Living}
use Rattle.tb_bus.proofs.ExchangeLemmas.{PatternsTake, SpeakTakes, patterns-take, about-some}
use Rattle.tb_living.specs.Lives.{term_in, proc_of, AreFresh}
use Rattle.tb_core.specs.Helpers.LiveBuses.{procs_in}
use Rattle.tb_core.specs.declared.bus.LiveBus.{LiveBus}
use Rattle.tb_core.proofs.PlainLemmas.{patterns-plain}
use Rattle.tb_core.proofs.ReadLemmas.{LiveAt}
use Rattle.tb_living.proofs.ReadLemmas.{fresh-there, read-there}

-- a process that hasn't ended offers what its term does
offers-by : (term : Option Process) (store : List Slot) (ticks : ℕ) → is_end term ≡ false → offers_of (record { term = term; store = store; ticks = ticks }) ≡ offers (term_in term) store
unfolding offers_of
offers-by None store ticks e = cc
offers-by (Some term) store ticks e = refl

pub offers-alive : (walking : Walking) → is_end walking.term ≡ false → offers_of walking ≡ offers (term_in walking.term) walking.store
offers-alive walking e = offers-by walking.term walking.store walking.ticks e

-- one of the offers that are ready, where the first of all has this index
record IsReady (atoms : List Atom) (now from : ℕ) (offers : List Offered) (ready : Ready) : Type 0 where
  pub k : ℕ
  pub offer : ready.offer ≡ from + k
  pub offered : Offered
  pub here : slice_get offers k ≡ Some offered
  pub atom : ready.atom ≡ offered.atom
  pub action : action_of atoms now offered ≡ Some ready.action

ready-later : (atoms : List Atom) (now from : ℕ) (offered : Offered) (offers : List Offered) (ready : Ready) → IsReady atoms now (from + 1) offers ready → IsReady atoms now from (offered ∷ offers) ready
ready-later atoms now from offered offers ready t =
    let offer : ready.offer ≡ from + suc t.k = let e = t.offer in omega arith in
    record { k = suc t.k; offer = offer; offered = t.offered; here = t.here; atom = t.atom; action = t.action }

ready-first : (atoms : List Atom) (now from : ℕ) (offered : Offered) (offers : List Offered) (found : Action) → action_of atoms now offered ≡ Some found →
    IsReady atoms now from (offered ∷ offers) (record { offer = from; atom = offered.atom; action = found })
ready-first atoms now from offered offers found e = record { k = 0; offer = omega arith; offered = offered; here = refl; atom = refl; action = e }

-- by the action of the first offer
ready-by : (atoms : List Atom) (now from : ℕ) (offered : Offered) (offers : List Offered) (index : ℕ) (found : Option Action) → action_of atoms now offered ≡ found →
    ((i : ℕ) → i < length (readies atoms now (from + 1) offers) → IsReady atoms now (from + 1) offers (slice_index_or (readies atoms now (from + 1) offers) i no_ready)) →
    index < length (ready_one from offered found ++ readies atoms now (from + 1) offers) →
    IsReady atoms now from (offered ∷ offers) (slice_index_or (ready_one from offered found ++ readies atoms now (from + 1) offers) index no_ready)
ready-by atoms now from offered offers index None e rest within = ready-later atoms now from offered offers _ (rest index within)
ready-by atoms now from offered offers zero (Some found) e rest within = ready-first atoms now from offered offers found e
ready-by atoms now from offered offers (suc index) (Some found) e rest within = ready-later atoms now from offered offers _ (rest index (omega arith))

is-ready : (atoms : List Atom) (now from : ℕ) (offers : List Offered) (index : ℕ) → index < length (readies atoms now from offers) → IsReady atoms now from offers (slice_index_or (readies atoms now from offers) index no_ready)
is-ready atoms now from [] index within = absurd (omega arith)
is-ready atoms now from (offered ∷ offers) index within =
    ready-by atoms now from offered offers index (action_of atoms now offered) refl (λ i w. is-ready atoms now (from + 1) offers i w) within

-- the offer of one of the actions of a process
pub record ActionAt (atoms : List Atom) (now : ℕ) (walking : Walking) (ready : Ready) (offered : Offered) : Type 0 where
  pub here : slice_get (offers_of walking) ready.offer ≡ Some offered
  pub atom : ready.atom ≡ offered.atom
  pub action : action_of atoms now offered ≡ Some ready.action

action-by : (atoms : List Atom) (now : ℕ) (walking : Walking) (ready : Ready) → is_end walking.term ≡ false → IsReady atoms now 0 (offers_of walking) ready →
    ActionAt atoms now walking ready (slice_index_or (offers (term_in walking.term) walking.store) ready.offer no_offer)
action-by atoms now walking ready alive t =
    let offer : ready.offer ≡ t.k = let e = t.offer in omega arith in
    let here : slice_get (offers_of walking) ready.offer ≡ Some t.offered = ap (slice_get (offers_of walking)) offer ∙ t.here in
    let is : slice_index_or (offers (term_in walking.term) walking.store) ready.offer no_offer ≡ t.offered =
    ap (λ (os : List Offered). slice_index_or os ready.offer no_offer) (sym (offers-alive walking alive)) ∙ get_or_from_slice_get (offers_of walking) ready.offer t.offered no_offer here in
    record {
      here = here ∙ ap Some (sym is);
      atom = t.atom ∙ ap (λ (o : Offered). o.atom) (sym is);
      action = ap (action_of atoms now) is ∙ t.action;
    }

action-here : (atoms : List Atom) (now : ℕ) (walking : Walking) (all : List Ready) (index : ℕ) → all ≡ readies atoms now 0 (offers_of walking) → index < length all → is_end walking.term ≡ false →
    ActionAt atoms now walking (slice_index_or all index no_ready) (slice_index_or (offers (term_in walking.term) walking.store) (slice_index_or all index no_ready).offer no_offer)
action-here atoms now walking all index e within alive =
    action-by atoms now walking (slice_index_or all index no_ready) alive
    (subst (λ (rs : List Ready). IsReady atoms now 0 (offers_of walking) (slice_index_or rs index no_ready)) (sym e)
    (is-ready atoms now 0 (offers_of walking) index (subst (λ (rs : List Ready). index < length rs) e within)))

pub action-at : {W P T : Type 0} (view : View P W T) (bus : LiveBus W P T) (at index : ℕ) (living : Living W) (it : LiveAt view bus at living) → AreFresh bus.living.items → index < length (row_at (rows_of bus.living.items) at).ready →
    ActionAt (view.body_of it.plan).atoms bus.ticks (view.walking it.plan living.walker) (ready_at (rows_of bus.living.items) at index) (offer_of (procs_in view bus) (rows_of bus.living.items) at index)
action-at view bus at index living it fresh within =
    let looked = it.live.ready (fresh-there bus.living.items at living fresh it.here) in
    let atoms = (view.body_of it.plan).atoms in
    let walking = view.walking it.plan living.walker in
    let there = action-here atoms bus.ticks walking living.ready.items index looked.ready (subst (λ row. index < length row.ready) it.row within) it.live.alive in
    subst (λ p. ActionAt atoms bus.ticks walking (ready_at (rows_of bus.living.items) at index) (offer_at p (ready_at (rows_of bus.living.items) at index).offer)) (sym it.proc)
    (subst (λ row. ActionAt atoms bus.ticks walking (slice_index_or row.ready index no_ready) (offer_at (proc_of living walking) (slice_index_or row.ready index no_ready).offer)) (sym it.row) there)

-- an action that was read is the one there
pub ready-read : {W : Type 0} (all : List (Living W)) (at index : ℕ) (living : Living W) (ready : Ready) → row_at (rows_of all) at ≡ row_of living → index < length (row_at (rows_of all) at).ready → ready ≡ get_or living.ready.items index ready → ready ≡ ready_at (rows_of all) at index
ready-read all at index living ready row within is =
    let within_items : index < length living.ready.items = subst (λ r. index < length r.ready) row within in
    sym (get_or_from_slice_get living.ready.items index ready no_ready (read-there living.ready.items index ready within_items is)) ∙ ap (λ r. slice_index_or r.ready index no_ready) (sym row)

-- what is known of a process where the offer of one of its actions is taken
pub record OfferAt {W P T : Type 0} (view : View P W T) (bus : LiveBus W P T) (at index : ℕ) (living : Living W) (plan : P) (ready : Ready) : Type 0 where
  pub on : view.is_on plan living.walker
  pub here : slice_get (offers_of (view.walking plan living.walker)) ready.offer ≡ Some (offer_of (procs_in view bus) (rows_of bus.living.items) at index)

pub offer-read : {W P T : Type 0} (view : View P W T) (bus : LiveBus W P T) (at index : ℕ) (living : Living W) (it : LiveAt view bus at living) (plan : P) (ready : Ready) →
    AreFresh bus.living.items → index < length (row_at (rows_of bus.living.items) at).ready → plan ≡ it.plan → ready ≡ get_or living.ready.items index ready → OfferAt view bus at index living plan ready
offer-read view bus at index living it plan ready fresh within same is =
    let action = action-at view bus at index living it fresh within in
    let there = ready-read bus.living.items at index living ready it.row within is in
    subst (λ p. OfferAt view bus at index living p ready) (sym same) (record {
      on = it.live.is_on;
      here = ap (λ (r : Ready). slice_get (offers_of (view.walking it.plan living.walker)) r.offer) there ∙ action.here;
    })

abbrev pub OwnFits : List Slot → OwnAction → Type 0
OwnFits store own.Tau = ⊤
OwnFits store (own.Set values binds) = takes_binds store binds ≡ true
OwnFits store (own.Print text) = ⊤
OwnFits store (own.Notify terms) = ⊤
OwnFits store (own.TakeNote patterns) = PatternsTake store patterns
OwnFits store (own.NoNote patterns) = ⊤
OwnFits store (own.Subscribe patterns) = are_plain patterns ≡ true
OwnFits store (own.Unsubscribe patterns) = ⊤
OwnFits store (own.Create process actuals slot) = ⊤
OwnFits store (own.Speak does) = SpeakTakes store does
OwnFits store (own.Shutdown reason) = ⊤

-- what an action binds, the store takes, and what it subscribes to takes no term
abbrev pub ActionFits : List Slot → Action → Type 0
ActionFits store (action.Own own) = OwnFits store own
ActionFits store (action.Send terms) = ⊤
ActionFits store (action.Receive patterns) = PatternsTake store patterns

set-by : (store : List Slot) (bind : Bind) (b : Bool) → takes_bind store bind ≡ b → IfSome (if b then Some (action.Own (own.Set (bind.value ∷ []) (bind ∷ []))) else None) (ActionFits store)
set-by store bind true e = rw e refl
set-by store bind false e = tt

set_action-fits : (store : List Slot) (slot : ℕ) (values : List Term) → IfSome (set_action store slot values) (ActionFits store)
set_action-fits store slot [] = tt
set_action-fits store slot (value ∷ []) = set-by store (record { slot = slot; value = value }) (takes_bind store (record { slot = slot; value = value })) refl
set_action-fits store slot (value ∷ other ∷ values) = tt

set-fits : (store : List Slot) (slot : ℕ) (values : Option (List Term)) → IfSome (option_and_then (set_action store slot) values) (ActionFits store)
set-fits store slot None = tt
set-fits store slot (Some values) = set_action-fits store slot values

-- an action that fits whatever it holds
any-fits : {A : Type 0} (store : List Slot) (does : A → Action) (found : Option A) → ((x : A) → ActionFits store (does x)) → IfSome (option_map does found) (ActionFits store)
any-fits store does None h = tt
any-fits store does (Some x) h = h x

-- one that fits with these patterns
matched-fits : (store : List Slot) (does : List Pattern → Action) (patterns : Option (List Pattern)) → ((ps : List Pattern) → patterns ≡ Some ps → ActionFits store (does ps)) → IfSome (option_map does patterns) (ActionFits store)
matched-fits store does None h = tt
matched-fits store does (Some ps) h = h ps refl

shutdown_action-fits : (store : List Slot) (reasons : List Term) → IfSome (shutdown_action reasons) (ActionFits store)
shutdown_action-fits store [] = tt
shutdown_action-fits store (reason ∷ []) = tt
shutdown_action-fits store (reason ∷ other ∷ terms) = tt

shutdown-fits : (store : List Slot) (reasons : Option (List Term)) → IfSome (option_and_then shutdown_action reasons) (ActionFits store)
shutdown-fits store None = tt
shutdown-fits store (Some reasons) = shutdown_action-fits store reasons

action_in-fits : (slots : ℕ) (store : List Slot) (act : Act) → is_act_in_body slots act ≡ true → IfSome (action_in store act) (ActionFits store)
action_in-fits slots store Delta h = tt
action_in-fits slots store Tau h = tt
action_in-fits slots store (SndMsg exprs) h = any-fits store action.Send (values_together store exprs) (λ x. tt)
action_in-fits slots store (RecMsg exprs) h = matched-fits store action.Receive (patterns_of store exprs) (patterns-take store exprs)
action_in-fits slots store (SndNote exprs) h = any-fits store notify_action (values_together store exprs) (λ x. tt)
action_in-fits slots store (RecNote exprs) h = matched-fits store take_note_action (patterns_of store exprs) (patterns-take store exprs)
action_in-fits slots store (NoNote exprs) h = any-fits store no_note_action (patterns_of store exprs) (λ x. tt)
action_in-fits slots store (Subscribe exprs) h = matched-fits store subscribe_action (patterns_of store exprs) (λ ps e. patterns-plain slots store exprs ps h e)
action_in-fits slots store (Unsubscribe exprs) h = any-fits store unsubscribe_action (patterns_of store exprs) (λ x. tt)
action_in-fits slots store (Create process actuals slot) h = any-fits store (create_action process slot) (values_together store actuals) (λ x. tt)
action_in-fits slots store (Set slot value) h = set-fits store slot (values_together store (value ∷ []))
action_in-fits slots store (Printf exprs) h = any-fits store print_action (option_and_then printf_of (values_together store exprs)) (λ x. tt)
action_in-fits slots store (Execute tool slot) h = tt
action_in-fits slots store (RecConnect tool slot) h = tt
action_in-fits slots store (RecDisconnectAny tool slot) h = tt
action_in-fits slots store (RecDisconnect tool) h = any-fits store (speak_by does.Disconnect) (values_together store (tool ∷ [])) (λ x. tt)
action_in-fits slots store (SndEval tool expr) h = any-fits store (speak_by does.Eval) (values_together store (tool ∷ expr ∷ [])) (λ x. tt)
action_in-fits slots store (RecValue tool expr) h =
    about-some (ActionFits store) does.TakeValue (patterns_of store (expr ∷ [])) (values_together store (tool ∷ [])) (λ ts ps d e. patterns-take store (expr ∷ []) ps e)
action_in-fits slots store (SndDo tool expr) h = any-fits store (speak_by does.Do) (values_together store (tool ∷ expr ∷ [])) (λ x. tt)
action_in-fits slots store (RecEvent tool exprs) h =
    about-some (ActionFits store) does.TakeEvent (patterns_of store exprs) (values_together store (tool ∷ [])) (λ ts ps d e. patterns-take store exprs ps e)
action_in-fits slots store (SndAckEvent tool exprs) h = any-fits store (speak_by does.Acknowledge) (values_together store (tool ∷ exprs)) (λ x. tt)
action_in-fits slots store (SndTerminate tool expr) h = any-fits store (speak_by does.Terminate) (values_together store (tool ∷ expr ∷ [])) (λ x. tt)
action_in-fits slots store (Shutdown reason) h = shutdown-fits store (values_together store (reason ∷ []))

if-fits : (slots : ℕ) (ready : Bool) (store : List Slot) (act : Act) → is_act_in_body slots act ≡ true → IfSome (action_if ready store act) (ActionFits store)
if-fits slots true store act h = action_in-fits slots store act h
if-fits slots false store act h = tt

-- the acts of a body are in its range
act-in : (slots : ℕ) (atoms : List Atom) (at : ℕ) (found : Option Atom) → slice_get atoms at ≡ found → list_all (is_atom_in_body slots) atoms ≡ true → is_act_in_body slots (act_in found) ≡ true
act-in slots atoms at None e h = refl
act-in slots [] at (Some atom) e h = cc
act-in slots (first ∷ atoms) zero (Some atom) e h =
    let same : first ≡ atom = cc in
    let parts = and_parts (is_atom_in_body slots first) (list_all (is_atom_in_body slots) atoms) h in
    let its = and_parts (is_act_in_body slots first.act) (list_all (λ (time : Time). is_value slots time.value) first.times) parts.0 in
    ap (λ (a : Atom). is_act_in_body slots a.act) (sym same) ∙ its.0
act-in slots (first ∷ atoms) (suc at) (Some atom) e h = act-in slots atoms at (Some atom) e (and_parts (is_atom_in_body slots first) (list_all (is_atom_in_body slots) atoms) h).1

body-atoms : (tree : Tree) (atoms : List Atom) (sorts : List Sort) (formals : ℕ) → is_body_in_range tree atoms sorts formals ≡ true → list_all (is_atom_in_body (length sorts)) atoms ≡ true
unfolding is_body_in_range
body-atoms tree atoms sorts formals h = (and_parts _ (list_all (is_atom_in_body (length sorts)) atoms) h).1

act-in-body : (body : Body) (number : ℕ) → is_act_in_body (length body.sorts) (act_of body.atoms number) ≡ true
act-in-body body number = act-in (length body.sorts) body.atoms (number - 1) (slice_get body.atoms (number - 1)) refl (body-atoms body.tree body.atoms body.sorts body.formals body.in_range)

pub action-fits : (body : Body) (now : ℕ) (offered : Offered) (found : Action) → action_of body.atoms now offered ≡ Some found → ActionFits offered.store found
action-fits body now offered found e =
    subst (λ (d : Option Action). IfSome d (ActionFits offered.store)) e
    (if-fits (length body.sorts) (is_ready offered.store offered.age now (times_of body.atoms offered.atom)) offered.store (act_of body.atoms offered.atom) (act-in-body body offered.atom))

pub fits-at : (body : Body) (now : ℕ) (walking : Walking) (ready : Ready) (offered : Offered) → ActionAt body.atoms now walking ready offered → ActionFits offered.store ready.action
fits-at body now walking ready offered it = action-fits body now offered ready.action it.action

-- what is received binds what the store takes
pub received-takes : (store : List Slot) (found : Action) (terms : List Term) (binds : List Bind) → ActionFits store found → Receives terms found binds → takes_binds store binds ≡ true
received-takes store (action.Own own) terms binds fits h = absurd h
received-takes store (action.Send other) terms binds fits h = absurd h
received-takes store (action.Receive patterns) terms binds fits h = fits terms binds h
