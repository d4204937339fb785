-- A line that a step takes from a tool was given by a lane, and the bus took it.
use Rattle.std.proofs.Common.{◌≡◌, ℕ, ◌⊎◌, inl, inr, List, [], ◌∷◌, ◌++◌, length, append_assoc, append-nil, slice_get, Bool, true, false, Option, Some, None, IfSome, option_map, option_to_list, is_some, codes, if◌then◌else◌, Contains, refl, ap, sym, subst, arith}
use Rattle.std.specs.List.{list_all}
use Rattle.std.proofs.lemmas.List.Elements.{All-contains}
use Rattle.std.proofs.lemmas.Option.{get_or_from_slice_get}
use Rattle.tb_terms.specs.declared.term.Term.{Term}
use Rattle.tb_terms.specs.declared.term.Term.TheVariants.{Appl}
use Rattle.tb_terms.specs.declared.sort.Sort.TheVariants.{Tool as ToolSort}
use Rattle.tb_terms.specs.declared.pattern.Pattern.{Pattern}
use Rattle.tb_terms.specs.Sorts.{has_sort}
use Rattle.tb_process_steps.specs.Offers.{Offered}
use Rattle.tb_process_steps.proofs.Offering.{contains-at}
use Rattle.tb_notes.specs.Inboxes.{oldest_match}
use Rattle.tb_log.specs.declared.entry.Entry.{Entry}
use Rattle.tb_log.specs.declared.entry.Entry.TheVariants.{Did}
use Rattle.tb_log.specs.declared.entry.Label.{Label}
use Rattle.tb_log.specs.declared.entry.LabelKind.TheVariants as kind
use Rattle.tb_log.specs.declared.entry.ToolLine.TheVariants.{Value, Event, Connect}
use Rattle.tb_tools.specs.declared.stage.Stage.{Stage}
use Rattle.tb_tools.specs.declared.stage.Stage.TheVariants.{Waiting, Live, Leaving}
use Rattle.tb_tools.specs.Acts.{answer_by, events_of, events_at, event_at}
use Rattle.tb_tools.specs.Lanes.{Tool, tool_at, of_tool, is_same_stage, term_of}
use Rattle.tb_bus.specs.declared.origin.Origin.{Origin}
use Rattle.tb_bus.specs.Buses.{Bus, Proc, start}
use Rattle.tb_bus.specs.Effects.{Nothing, PutsNote, Effect, effect_of, own_effect, speaking, setting_of, creation, may_create, taking, takes_note}
use Rattle.tb_bus.specs.Exchanges.{Setting, exchange_for, terms_seen, values_in, values_on}
use Rattle.tb_bus.specs.Reached.{Reaches}
use Rattle.tb_bus.specs.Steps.{Move, Own, Handshake, Finish, Halt, Step, label_of}
use Rattle.tb_bus.specs.Traces.{IsLegal, IsTrace, after, replay}
use Rattle.tb_bus.specs.Waiting.{IsProcInShape, IsBusInShape}
use Rattle.tb_bus.specs.declared.action.Action.{Action}
use Rattle.tb_bus.specs.declared.action.Action.TheVariants as action
use Rattle.tb_bus.specs.declared.action.OwnAction.{OwnAction}
use Rattle.tb_bus.specs.declared.action.OwnAction.TheVariants as own
use Rattle.tb_bus.specs.declared.action.ToolAction.{ToolAction}
use Rattle.tb_bus.specs.declared.action.ToolAction.TheVariants as tool
use Rattle.tb_bus.specs.declared.exchange.Exchange.{Exchange}
use Rattle.tb_bus.proofs.BusShapes.{reached-in_shape}
use Rattle.tb_bus.proofs.ExchangeLemmas.{IsValue, IsEvent, exchange-is}
use Rattle.tb_bus.proofs.LevelLemmas.{offer-shallow}
use Rattle.tb_bus.proofs.OrderLemmas.{contains-cases}
use Rattle.tb_bus.proofs.ReachedLemmas.{IsReadyFor, IsMoveOf, step-made}
use Rattle.tb_bus.proofs.SentLemmas.{AreSent, IsOwnInShape, IsSpeakInShape, IsActionInShape, action-in-shape}
use Rattle.tb_bus.proofs.TraceLemmas.{replay-append, trace-prefix, trace-rest}
use Rattle.tb_iface.specs.Hearing.{line_if, heard_as, heard_by}
use Rattle.tb_heard_laws.specs.Given.{WasGiven}
use Rattle.tb_heard_laws.proofs.Meanings.{value-means, event-means, connect-means, tool-name}
use Rattle.tb_heard_laws.proofs.Waiting.{IsGiven, ToolGiven, BenchGiven, entry-given, opening-given}

-- no term is in an empty list, and one is in a list of one
no-term : {A : Type 0} (term : Term) → Contains [] term → A
no-term term c = let l = c.1 in absurd (omega arith)

the-term : (b : Bool) (one term : Term) → Contains (let lines : List Term = if b then one ∷ [] else [] in lines) term → (b ≡ true) × (one ≡ term)
the-term true one term c = by (contains-cases one term [] c)
  where
    by : (one ≡ term) ⊎ Contains [] term → (true ≡ true) × (one ≡ term)
    by (inl e) = (refl, e)
    by (inr d) = no-term term d
the-term false one term c = no-term term c

-- the first of exactly one term
pub one-term : (P : List Term → Type 0) → ((named : Term) → P (named ∷ [])) → (terms : List Term) → AreSent 1 terms → P terms
one-term P h [] sent = let many = sent.many in absurd (omega arith)
one-term P h (named ∷ []) sent = h named
one-term P h (named ∷ other ∷ terms) sent = let many = sent.many in absurd (omega arith)

pub ready-in-shape : (bus : Bus) (proc : Proc) (offered : Offered) (does : Action) → IsBusInShape bus → IsReadyFor bus proc offered does → IsActionInShape does
ready-in-shape bus proc offered does shape ready =
    let own_shape = All-contains IsProcInShape bus.procs proc shape.procs ready.0.0 in
    action-in-shape bus.program.bodies proc.body bus.now offered does (offer-shallow proc.term proc.store offered own_shape.store ready.0.1) ready.1

module _ (log : List Entry) (its : List ℕ) where
  -- an answer

  tool-answer : (o : Option Tool) (value : Term) → answer_by o ≡ Some value → IfSome o (ToolGiven log) → IsGiven log (Value value)
  tool-answer None value e h = absurd (let t : ◌≡◌ {A = Option Term} None (Some value) = e in cc)
  tool-answer (Some it) value e h = h.answer value e

  value-heard : (setting : Setting) (patterns : List Pattern) (exchange : Exchange) (terms : List Term) → exchange_for setting (tool.TakeValue terms patterns) ≡ Some exchange → BenchGiven log setting.bench → AreSent 1 terms
      → (term : Term) → Contains (heard_as its kind.RecValue (terms_seen setting (tool.TakeValue terms patterns) exchange)) term → WasGiven log term
  value-heard setting patterns exchange terms e h sent term c =
      one-term (λ (ts : List Term). Contains (heard_as its kind.RecValue (ts ++ values_on exchange.lane setting.bench)) term → WasGiven log term) by terms sent c
    where
      is : IsValue setting patterns exchange
      is = (exchange-is setting (tool.TakeValue terms patterns) exchange e).is

      by : (named : Term) → Contains (heard_as its kind.RecValue ((named ∷ []) ++ values_on exchange.lane setting.bench)) term → WasGiven log term
      by named d =
          let given = tool-answer (tool_at exchange.lane setting.bench) is.value is.there (h exchange.lane) in
          let seen : values_on exchange.lane setting.bench ≡ is.value ∷ [] = ap (λ (o : Option Term). option_to_list o) is.there in
          let here = subst (λ (vs : List Term). Contains (line_if its (codes "snd-value") (named ∷ vs)) term) seen d in
          let one = the-term (has_sort named (ToolSort its)) (Appl (codes "snd-value") (is.value ∷ [])) term here in
          subst (WasGiven log) one.1 (record { lane = given.lane; line = Value is.value; there = given.there; means = value-means is.value given.shape })

  -- an event

  tool-event : (o : Option Tool) (place : ℕ) (terms : List Term) → slice_get (events_of o) place ≡ Some terms → IfSome o (ToolGiven log) → IsGiven log (Event terms)
  tool-event None place terms e h = absurd (let l = (contains-at [] place terms e).1 in omega arith)
  tool-event (Some it) place terms e h = All-contains (λ (ts : List Term). IsGiven log (Event ts)) it.events terms h.events (contains-at it.events place terms e)

  event-heard : (setting : Setting) (patterns : List Pattern) (exchange : Exchange) (terms : List Term) → exchange_for setting (tool.TakeEvent terms patterns) ≡ Some exchange → BenchGiven log setting.bench → AreSent 1 terms
      → (term : Term) → Contains (heard_as its kind.RecEvent (terms_seen setting (tool.TakeEvent terms patterns) exchange)) term → WasGiven log term
  event-heard setting patterns exchange terms e h sent term c =
      one-term (λ (ts : List Term). Contains (heard_as its kind.RecEvent (ts ++ event_at exchange.event (events_at exchange.lane setting.bench))) term → WasGiven log term) by terms sent c
    where
      is : IsEvent setting patterns exchange
      is = (exchange-is setting (tool.TakeEvent terms patterns) exchange e).is

      by : (named : Term) → Contains (heard_as its kind.RecEvent ((named ∷ []) ++ event_at exchange.event (events_at exchange.lane setting.bench))) term → WasGiven log term
      by named d =
          let given = tool-event (tool_at exchange.lane setting.bench) exchange.event is.terms is.there (h exchange.lane) in
          let seen : event_at exchange.event (events_at exchange.lane setting.bench) ≡ is.terms = get_or_from_slice_get (events_at exchange.lane setting.bench) exchange.event is.terms [] is.there in
          let here = subst (λ (vs : List Term). Contains (line_if its (codes "snd-event") (named ∷ vs)) term) seen d in
          let one = the-term (has_sort named (ToolSort its)) (Appl (codes "snd-event") is.terms) term here in
          subst (WasGiven log) one.1 (record { lane = given.lane; line = Event is.terms; there = given.there; means = event-means is.terms given.shape.0 given.shape.1 })

  -- a name

  is-waiting : (stage : Stage) → is_same_stage stage Waiting ≡ true → stage ≡ Waiting
  is-waiting Waiting e = refl
  is-waiting Live e = absurd cc
  is-waiting Leaving e = absurd cc

  connect-heard : (setting : Setting) (which slot : ℕ) (exchange : Exchange) → exchange_for setting (tool.Connect which slot) ≡ Some exchange → BenchGiven log setting.bench
      → (term : Term) → Contains (heard_as its kind.RecConnect (values_in exchange.binds)) term → WasGiven log term
  connect-heard setting which slot exchange e h term c =
      let found = exchange-is setting (tool.Connect which slot) exchange e in
      let it = found.is.tool in
      let stage : it.stage ≡ Waiting = is-waiting it.stage (subst (λ (o : Option Tool). of_tool (λ (t : Tool). is_same_stage t.stage Waiting) o ≡ true) found.is.stands found.can) in
      let own : ToolGiven log it = subst (λ (o : Option Tool). IfSome o (ToolGiven log)) found.is.stands (h exchange.lane) in
      let given = own.name stage in
      let seen : values_in exchange.binds ≡ term_of it ∷ [] = ap values_in found.is.taking.binds in
      let here = subst (λ (vs : List Term). Contains (heard_as its kind.RecConnect vs) term) seen c in
      let one = the-term (has_sort (term_of it) (ToolSort its)) (Appl (codes "snd-connect") (Appl its [] ∷ [])) term here in
      let same : it.name ≡ its = tool-name it.name its it.number one.0 in
      let means = connect-means it.name given.shape in
      subst (WasGiven log) one.1
      (subst (λ (n : List ℕ). WasGiven log (Appl (codes "snd-connect") (Appl n [] ∷ []))) same (record { lane = given.lane; line = Connect it.name; there = given.there; means = means }))

  -- effects

  abbrev Heard : Effect → Type 0
  Heard effect = (term : Term) → Contains (heard_as its effect.kind effect.shown) term → WasGiven log term

  if-heard : (b : Bool) (effect : Effect) → Heard effect → IfSome (if b then Some effect else None) Heard
  if-heard true effect h = h
  if-heard false effect h = tt

  unless-heard : (b : Bool) (effect : Effect) → Heard effect → IfSome (if b then None else Some effect) Heard
  unless-heard true effect h = tt
  unless-heard false effect h = h

  map-heard : {A : Type 0} (f : A → Effect) (found : Option A) → ((x : A) → found ≡ Some x → Heard (f x)) → IfSome (option_map f found) Heard
  map-heard f None each = tt
  map-heard f (Some x) each = each x refl

  speaks-heard : (setting : Setting) (does : ToolAction) (exchange : Exchange) → exchange_for setting does ≡ Some exchange → BenchGiven log setting.bench → IsSpeakInShape does → Heard (speaking setting does exchange)
  speaks-heard setting (tool.Execute which slot) exchange e h sent = λ term c. no-term term c
  speaks-heard setting (tool.Connect which slot) exchange e h sent = connect-heard setting which slot exchange e h
  speaks-heard setting (tool.DisconnectAny which slot) exchange e h sent = λ term c. no-term term c
  speaks-heard setting (tool.Disconnect terms) exchange e h sent = λ term c. no-term term c
  speaks-heard setting (tool.Eval terms) exchange e h sent = λ term c. no-term term c
  speaks-heard setting (tool.TakeValue terms patterns) exchange e h sent = value-heard setting patterns exchange terms e h sent
  speaks-heard setting (tool.Do terms) exchange e h sent = λ term c. no-term term c
  speaks-heard setting (tool.TakeEvent terms patterns) exchange e h sent = event-heard setting patterns exchange terms e h sent
  speaks-heard setting (tool.Acknowledge terms) exchange e h sent = λ term c. no-term term c
  speaks-heard setting (tool.Terminate terms) exchange e h sent = λ term c. no-term term c

  own-heard : (bus : Bus) (proc : Proc) (does : OwnAction) → BenchGiven log bus.bench → IsOwnInShape does → IfSome (own_effect bus proc does) Heard
  own-heard bus proc own.Tau h sent = λ term c. no-term term c
  own-heard bus proc (own.Set values binds) h sent = λ term c. no-term term c
  own-heard bus proc (own.Print text) h sent = λ term c. no-term term c
  own-heard bus proc (own.Notify terms) h sent =
      if-heard (list_all (λ (other : Proc). takes_note terms other.inbox) bus.procs) (record { kind = kind.SndNote; shown = terms; binds = []; change = PutsNote terms }) (λ term c. no-term term c)
  own-heard bus proc (own.TakeNote patterns) h sent = map-heard (taking proc.inbox) (oldest_match patterns proc.inbox) (λ found e term c. no-term term c)
  own-heard bus proc (own.NoNote patterns) h sent = unless-heard (is_some (oldest_match patterns proc.inbox)) (record { kind = kind.NoNote; shown = []; binds = []; change = Nothing }) (λ term c. no-term term c)
  own-heard bus proc (own.Subscribe patterns) h sent = λ term c. no-term term c
  own-heard bus proc (own.Unsubscribe patterns) h sent = λ term c. no-term term c
  own-heard bus proc (own.Create process actuals slot) h sent =
      if-heard (may_create bus.program.bodies (length bus.procs) bus.next_number proc.body process actuals slot) (creation bus.next_number process actuals slot) (λ term c. no-term term c)
  own-heard bus proc (own.Speak does) h sent =
      let setting = setting_of bus proc in
      map-heard (speaking setting does) (exchange_for setting does) (λ exchange e. speaks-heard setting does exchange e h sent)
  own-heard bus proc (own.Shutdown reason) h sent = λ term c. no-term term c

  effect-heard : (bus : Bus) (proc : Proc) (does : Action) → BenchGiven log bus.bench → IsActionInShape does → IfSome (effect_of bus proc does) Heard
  effect-heard bus proc (action.Own does) h sent = own-heard bus proc does h sent
  effect-heard bus proc (action.Send terms) h sent = tt
  effect-heard bus proc (action.Receive patterns) h sent = tt

  -- steps

  abbrev LabelHeard : Label → Type 0
  LabelHeard label = (term : Term) → Contains (heard_as its label.kind label.terms) term → WasGiven log term

  move-heard : (bus : Bus) (move : Move) → IsBusInShape bus → BenchGiven log bus.bench → IsMoveOf bus move → LabelHeard (label_of move)
  move-heard bus (Own proc offered effect) shape h is =
      let all : IfSome (Some effect) Heard = subst (λ (o : Option Effect). IfSome o Heard) is.2 (effect-heard bus proc is.0 h (ready-in-shape bus proc offered is.0 shape is.1)) in
      all
  move-heard bus (Handshake sender sent receiver received terms binds) shape h is = λ term c. no-term term c
  move-heard bus Finish shape h is = λ term c. no-term term c
  move-heard bus Halt shape h is = λ term c. no-term term c

  step-heard : (bus : Bus) (label : Label) → IsBusInShape bus → BenchGiven log bus.bench → IsLegal bus (Did label) (after bus (Did label)) → LabelHeard label
  step-heard bus label shape h legal =
      let made = step-made bus (record { label = label; bus = after bus (Did label) }) legal in
      subst (λ (s : Step). LabelHeard s.label) (sym made.2) (move-heard bus made.0 shape h made.1)

-- traces

from-given : (origin : Origin) (before log : List Entry) → IsTrace (start origin) (before ++ log) → BenchGiven before (replay (start origin) before).bench → BenchGiven (before ++ log) (replay (start origin) (before ++ log)).bench
from-given origin before [] trace h = subst (λ (es : List Entry). BenchGiven es (replay (start origin) es).bench) (sym (append-nil before)) h
from-given origin before (entry ∷ log) trace h =
    let bus = replay (start origin) before in
    let next = entry-given before bus entry h (trace-rest (start origin) before (entry ∷ log) trace).0 in
    let moved : replay (start origin) (before ++ entry ∷ []) ≡ after bus entry = replay-append (start origin) before (entry ∷ []) in
    let whole : (before ++ entry ∷ []) ++ log ≡ before ++ entry ∷ log = append_assoc before (entry ∷ []) log in
    subst (λ (es : List Entry). BenchGiven es (replay (start origin) es).bench) whole
    (from-given origin (before ++ entry ∷ []) log (subst (IsTrace (start origin)) (sym whole) trace) (subst (λ (b : Bus). BenchGiven (before ++ entry ∷ []) b.bench) (sym moved) next))

pub heard-given : (origin : Origin) (before rest : List Entry) (label : Label) (its : List ℕ) (term : Term) → IsTrace (start origin) (before ++ Did label ∷ rest) → Contains (heard_by its (Did label)) term → WasGiven before term
heard-given origin before rest label its term trace c =
    let bus = replay (start origin) before in
    let prefix = trace-prefix (start origin) before (Did label ∷ rest) trace in
    let reaches : Reaches origin bus = (before, prefix, refl) in
    let given : BenchGiven before bus.bench = from-given origin [] before prefix (opening-given origin.connects) in
    step-heard before its bus label (reached-in_shape origin bus reaches) given (trace-rest (start origin) before (Did label ∷ rest) trace).0 term c
