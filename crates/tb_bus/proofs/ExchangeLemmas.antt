-- What each exchange with a tool is: its lane, what may be done there, and what it binds.
use Rattle.std.proofs.Common.{◌≡◌, ℕ, suc, ◌+◌, nat_lt, Bool, true, false, cond, ◌&&◌, List, [], ◌∷◌, length, slice_get, Option, Some, None, IsTrue, is_some, option_map, option_and_then, if◌then◌else◌, refl, ap, sym, ◌∙◌, subst, arith}
use Rattle.std.specs.Prelude.{⊤, IfSome}
use Rattle.std.specs.List.{position_from}
use Rattle.std.specs.Coded.{coded_list}
use Rattle.std.specs.Str.{bytes_eq}
use Rattle.std.proofs.lemmas.Bool.{and_from, and_parts, lt-ltb}
use Rattle.std.proofs.lemmas.Option.{MatchOption-at_some, same_Some, slice_get_within}
use Rattle.tb_terms.specs.declared.term.Term.{Term}
use Rattle.tb_terms.specs.contracts.term.Term as term
use Rattle.tb_terms.specs.declared.sort.Sort.{Sort}
use Rattle.tb_terms.specs.declared.pattern.Pattern.{Pattern}
use Rattle.tb_terms.specs.declared.expr.Expr.{Expr}
use Rattle.tb_terms.specs.Same.{is_same_terms}
use Rattle.tb_terms.proofs.SameLemmas.{is_same-sound}
use Rattle.tb_func.specs.declared.slot.Slot.{Slot}
use Rattle.tb_func.specs.Stores.{sort_at}
use Rattle.tb_match.specs.declared.bind.Bind.{Bind}
use Rattle.tb_match.specs.Matches.{match_list}
use Rattle.tb_body.specs.declared.body.Body.{Body}
use Rattle.tb_body.specs.declared.program.Tool.{Tool as ToolKind}
use Rattle.tb_terms.specs.Sizes.{is_within_limits}
use Rattle.tb_process_steps.specs.Atoms.{patterns_of}
use Rattle.tb_process_steps.specs.Binds.{has_slot_sort, takes_bind, takes_binds}
use Rattle.tb_process_steps.specs.Walks.{sorts_of}
use Rattle.tb_process_steps.proofs.Sorts.{sort_at-sorts_of}
use Rattle.tb_process_steps.proofs.Taken.{binds-taken}
use Rattle.tb_log.specs.Shapes.{IsLane}
use Rattle.tb_tools.specs.declared.stage.Stage.{Stage}
use Rattle.tb_tools.specs.declared.stage.Stage.TheVariants.{Waiting, Leaving}
use Rattle.tb_tools.specs.declared.found.FoundEvent.{FoundEvent}
use Rattle.tb_tools.specs.Lanes.{Tool, Lane, BenchState, of_tool, is_same_stage, is_stage_at, tool_at, is_free, tool_term, term_of}
use Rattle.tb_tools.specs.Acts.{answer_at, events_at, received_at, is_live_at, is_taken_at, can_execute, can_connect, can_leave, can_eval, can_take_value, can_do, can_take_event, can_ack, can_terminate}
use Rattle.tb_tools.specs.Finding.{first_lane, free_lane, find_tool, has_tool, first_at, oldest_event, oldest_received}
use Rattle.tb_tools.specs.First.{IsThere, NoLane, IsFirstLane, NoToolAt, HasSmallest, NoneMatches, IsOldest}
use Rattle.tb_tools.proofs.Lowest.{first_lane-lowest, first_at-smallest}
use Rattle.tb_tools.proofs.Oldest.{oldest-first}
use Rattle.tb_bus.specs.Slots.{fits_slot}
use Rattle.tb_bus.specs.Actions.{speak_about}
use Rattle.tb_bus.specs.Exchanges.{Setting, command_of, kind_name, kind_command, term_on, plain_on, bound_on, binding_on, starting, taking_tool, first_of, first_of_kind, lane_if, lane_of, value_on, event_on, received_on, behind, exchange_for}
use Rattle.tb_bus.specs.declared.action.Action.{Action}
use Rattle.tb_bus.specs.declared.action.Action.TheVariants as action
use Rattle.tb_bus.specs.declared.action.OwnAction.TheVariants as own
use Rattle.tb_bus.specs.declared.action.ToolAction.{ToolAction}
use Rattle.tb_bus.specs.declared.action.ToolAction.TheVariants.{Execute, Connect, DisconnectAny, Disconnect, Eval, TakeValue, Do, TakeEvent, Acknowledge, Terminate}
use Rattle.tb_bus.specs.declared.exchange.Exchange.{Exchange}

-- what the lanes ask of each call
abbrev pub CanExchange : BenchState → ToolAction → Exchange → Type 0
CanExchange bench (Execute tool slot) exchange = IsTrue (can_execute exchange.lane bench)
CanExchange bench (Connect tool slot) exchange = IsTrue (can_connect exchange.lane bench)
CanExchange bench (DisconnectAny tool slot) exchange = IsTrue (can_leave exchange.lane bench)
CanExchange bench (Disconnect terms) exchange = IsTrue (can_leave exchange.lane bench)
CanExchange bench (Eval terms) exchange = IsTrue (can_eval exchange.lane bench)
CanExchange bench (TakeValue terms patterns) exchange = IsTrue (can_take_value exchange.lane bench)
CanExchange bench (Do terms) exchange = IsTrue (can_do exchange.lane bench)
CanExchange bench (TakeEvent terms patterns) exchange = IsTrue (can_take_event exchange.event exchange.lane bench)
CanExchange bench (Acknowledge terms) exchange = IsTrue (can_ack exchange.event exchange.lane bench)
CanExchange bench (Terminate terms) exchange = IsTrue (can_terminate exchange.lane bench)

-- a kind that is there, with its command
pub record HasCommand (setting : Setting) (tool : ℕ) : Type 0 where
  pub kind : ToolKind
  pub command : List ℕ
  pub there : slice_get setting.kinds tool ≡ Some kind
  pub is : kind.command ≡ Some command

-- the term of the next tool, where it is of this kind
abbrev pub next_term : Setting → ℕ → Term
next_term setting tool = tool_term (kind_name setting tool) setting.bench.next_tool

-- the slot takes the term, which is within the limits, and nothing else is bound
pub record IsTaking (setting : Setting) (slot : ℕ) (term : Term) (exchange : Exchange) : Type 0 where
  pub limited : is_within_limits term ≡ true
  pub fits : fits_slot setting.body slot term ≡ true
  pub event : exchange.event ≡ 0
  pub binds : exchange.binds ≡ record { slot = slot; value = term } ∷ []

-- nothing is bound
pub record IsPlain (exchange : Exchange) : Type 0 where
  pub event : exchange.event ≡ 0
  pub binds : exchange.binds ≡ []

-- a tool stands on the lane, and the slot takes it
pub record IsTakingTool (setting : Setting) (slot : ℕ) (exchange : Exchange) : Type 0 where
  pub tool : Tool
  pub stands : tool_at exchange.lane setting.bench ≡ Some tool
  pub taking : IsTaking setting slot (term_of tool) exchange

-- the value that has come on the lane, and what it binds
pub record IsValue (setting : Setting) (patterns : List Pattern) (exchange : Exchange) : Type 0 where
  pub value : Term
  pub there : answer_at exchange.lane setting.bench ≡ Some value
  pub event : exchange.event ≡ 0
  pub matches : match_list patterns (value ∷ []) ≡ Some exchange.binds

-- the event of those that wait on the lane, and what it binds
pub record IsEvent (setting : Setting) (patterns : List Pattern) (exchange : Exchange) : Type 0 where
  pub terms : List Term
  pub there : slice_get (events_at exchange.lane setting.bench) exchange.event ≡ Some terms
  pub matches : match_list patterns terms ≡ Some exchange.binds

-- the event of those that were received on the lane, with just these terms
pub record IsReceived (setting : Setting) (terms : List Term) (exchange : Exchange) : Type 0 where
  pub there : slice_get (received_at exchange.lane setting.bench) exchange.event ≡ Some terms
  pub binds : exchange.binds ≡ []

-- what an exchange is: one line a kind
abbrev pub ExchangeIs : Setting → ToolAction → Exchange → Type 0
ExchangeIs setting (Execute tool slot) exchange = HasCommand setting tool × IsTaking setting slot (next_term setting tool) exchange
ExchangeIs setting (Connect tool slot) exchange = IsTakingTool setting slot exchange
ExchangeIs setting (DisconnectAny tool slot) exchange = IsTakingTool setting slot exchange
ExchangeIs setting (Disconnect terms) exchange = IsPlain exchange
ExchangeIs setting (Eval terms) exchange = IsPlain exchange
ExchangeIs setting (TakeValue terms patterns) exchange = IsValue setting patterns exchange
ExchangeIs setting (Do terms) exchange = IsPlain exchange
ExchangeIs setting (TakeEvent terms patterns) exchange = IsEvent setting patterns exchange
ExchangeIs setting (Acknowledge terms) exchange = IsReceived setting (behind terms) exchange
ExchangeIs setting (Terminate terms) exchange = IsPlain exchange

-- its lane is there, what may be done there, and what it is
pub record IsExchange (setting : Setting) (does : ToolAction) (exchange : Exchange) : Type 0 where
  pub there : IsThere setting.bench exchange.lane
  pub can : CanExchange setting.bench does exchange
  pub is : ExchangeIs setting does exchange

-- what stands behind an answer that is there

and_then-some : {A B : Type 0} (f : A → Option B) (o : Option A) (y : B) → option_and_then f o ≡ Some y → (x : A) × (o ≡ Some x) × (f x ≡ Some y)
and_then-some f None y e = cc
and_then-some f (Some x) y e = (x, refl, e)

map-some : {A B : Type 0} (f : A → B) (o : Option A) (y : B) → option_map f o ≡ Some y → (x : A) × (o ≡ Some x) × (f x ≡ y)
map-some f None y e = cc
map-some f (Some x) y e = (x, refl, cc)

if-some : {A : Type 0} (b : Bool) (x y : A) → (if b then Some x else None) ≡ Some y → (b ≡ true) × (x ≡ y)
if-some true x y e = (refl, cc)
if-some false x y e = cc

some-is : {A : Type 0} (o : Option A) (x : A) → o ≡ Some x → is_some o ≡ true
some-is None x e = cc
some-is (Some y) x e = refl

-- lanes

found-lane : (test : Lane → Bool) (bench : BenchState) (lane : ℕ) → first_lane test bench ≡ Some lane → IsFirstLane test bench lane
found-lane test bench lane e = MatchOption-at_some (NoLane test bench) (IsFirstLane test bench) lane e (first_lane-lowest test bench)

found-stage : (name : List ℕ) (stage : Stage) (bench : BenchState) (lane : ℕ) → first_at name stage bench ≡ Some lane → IsThere bench lane × (is_stage_at stage lane bench ≡ true)
found-stage name stage bench lane e =
    let it = MatchOption-at_some (NoToolAt name stage bench) (HasSmallest name stage bench) lane e (first_at-smallest name stage bench) in
    (it.1.0, ap (of_tool (λ (tool : Tool). is_same_stage tool.stage stage)) it.1.1 ∙ (and_parts (bytes_eq it.0.name name) (is_same_stage it.0.stage stage) it.1.2).1)

spoken-lane : (may : ℕ → BenchState → Bool) (bench : BenchState) (terms : List Term) (lane : ℕ) → lane_of may bench terms ≡ Some lane → IsThere bench lane × (may lane bench ≡ true)
spoken-lane may bench [] lane e = cc
spoken-lane may bench (tool ∷ terms) lane e =
    let at = and_then-some (lane_if may bench) (find_tool tool bench) lane e in
    let it = if-some (may at.0 bench) at.0 lane at.2 in
    let there = found-lane (has_tool tool) bench at.0 at.1 in
    (subst (IsThere bench) it.1 there.0, subst (λ n. may n bench ≡ true) it.1 it.0)

-- kinds

command-by : (setting : Setting) (tool : ℕ) (kind : Option ToolKind) (command : List ℕ) → slice_get setting.kinds tool ≡ kind → command_of kind ≡ Some command → HasCommand setting tool
command-by setting tool None command e h = cc
command-by setting tool (Some kind) command e h = record { kind = kind; command = command; there = e; is = h }

-- what a slot takes

is-taking : (setting : Setting) (slot lane : ℕ) (term : Term) (exchange : Exchange) → binding_on setting slot lane term ≡ Some exchange → (lane ≡ exchange.lane) × IsTaking setting slot term exchange
is-taking setting slot lane term exchange e =
    let it = if-some (is_within_limits term && fits_slot setting.body slot term) (bound_on slot lane term) exchange e in
    let parts = and_parts (is_within_limits term) (fits_slot setting.body slot term) it.0 in (
      ap (λ (x : Exchange). x.lane) it.1,
      record { limited = parts.0; fits = parts.1; event = sym (ap (λ (x : Exchange). x.event) it.1); binds = sym (ap (λ (x : Exchange). x.binds) it.1) },
    )

is-executing : (setting : Setting) (tool slot : ℕ) (exchange : Exchange) → exchange_for setting (Execute tool slot) ≡ Some exchange → IsExchange setting (Execute tool slot) exchange
is-executing setting tool slot exchange e =
    let command = and_then-some (λ command. starting setting slot (kind_name setting tool)) (kind_command setting tool) exchange e in
    let at = and_then-some (λ lane. binding_on setting slot lane (next_term setting tool)) (free_lane setting.bench) exchange command.2 in
    let free = found-lane is_free setting.bench at.0 at.1 in
    let taking = is-taking setting slot at.0 (next_term setting tool) exchange at.2 in
    record {
      there = subst (IsThere setting.bench) taking.0 free.0;
      can = subst (λ lane. can_execute lane setting.bench ≡ true) taking.0 free.1;
      is = (command-by setting tool (slice_get setting.kinds tool) command.0 refl command.1, taking.1);
    }

is-kind : (setting : Setting) (stage : Stage) (tool slot : ℕ) (exchange : Exchange) → first_of_kind setting stage tool slot ≡ Some exchange →
    IsThere setting.bench exchange.lane × (is_stage_at stage exchange.lane setting.bench ≡ true) × IsTakingTool setting slot exchange
is-kind setting stage tool slot exchange e =
    let bench = setting.bench in
    let kind = and_then-some (first_of setting stage slot) (slice_get setting.kinds tool) exchange e in
    let at = and_then-some (taking_tool setting slot) (first_at kind.0.name stage bench) exchange kind.2 in
    let it = found-stage kind.0.name stage bench at.0 at.1 in
    let term = and_then-some (binding_on setting slot at.0) (term_on at.0 bench) exchange at.2 in
    let found = map-some term_of (tool_at at.0 bench) term.0 term.1 in
    let taking = is-taking setting slot at.0 term.0 exchange term.2 in (
      subst (IsThere bench) taking.0 it.0,
      subst (λ lane. is_stage_at stage lane bench ≡ true) taking.0 it.1,
      record {
        tool = found.0;
        stands = subst (λ lane. tool_at lane bench ≡ Some found.0) taking.0 found.1;
        taking = subst (λ t. IsTaking setting slot t exchange) (sym found.2) taking.1;
      },
    )

is-plain : (setting : Setting) (may : ℕ → BenchState → Bool) (terms : List Term) (exchange : Exchange) → option_map plain_on (lane_of may setting.bench terms) ≡ Some exchange →
    IsThere setting.bench exchange.lane × (may exchange.lane setting.bench ≡ true) × IsPlain exchange
is-plain setting may terms exchange e =
    let at = map-some plain_on (lane_of may setting.bench terms) exchange e in
    let it = spoken-lane may setting.bench terms at.0 at.1 in
    let lane = ap (λ (x : Exchange). x.lane) at.2 in (
      subst (IsThere setting.bench) lane it.0,
      subst (λ n. may n setting.bench ≡ true) lane it.1,
      record { event = sym (ap (λ (x : Exchange). x.event) at.2); binds = sym (ap (λ (x : Exchange). x.binds) at.2) },
    )

is-value : (setting : Setting) (terms : List Term) (patterns : List Pattern) (exchange : Exchange) → exchange_for setting (TakeValue terms patterns) ≡ Some exchange → IsExchange setting (TakeValue terms patterns) exchange
is-value setting terms patterns exchange e =
    let bench = setting.bench in
    let at = and_then-some (value_on patterns bench) (lane_of is_taken_at bench terms) exchange e in
    let it = spoken-lane is_taken_at bench terms at.0 at.1 in
    let value = and_then-some (λ (value : Term). option_map (λ (binds : List Bind). let x : Exchange = record { lane = at.0; event = 0; binds = binds } in x) (match_list patterns (value ∷ []))) (answer_at at.0 bench) exchange at.2 in
    let binds = map-some (λ (binds : List Bind). let x : Exchange = record { lane = at.0; event = 0; binds = binds } in x) (match_list patterns (value.0 ∷ [])) exchange value.2 in
    let lane = ap (λ (x : Exchange). x.lane) binds.2 in
    let there : answer_at exchange.lane bench ≡ Some value.0 = subst (λ n. answer_at n bench ≡ Some value.0) lane value.1 in
    record {
      there = subst (IsThere bench) lane it.0;
      can = and_from (is_taken_at exchange.lane bench) (is_some (answer_at exchange.lane bench)) (subst (λ n. is_taken_at n bench ≡ true) lane it.1) (some-is (answer_at exchange.lane bench) value.0 there);
      is = record { value = value.0; there = there; event = sym (ap (λ (x : Exchange). x.event) binds.2); matches = binds.1 ∙ ap (λ (x : Exchange). Some x.binds) binds.2 };
    }

-- events

pub record IsEventAt (patterns : List Pattern) (events : List (List Term)) (found : FoundEvent) : Type 0 where
  pub terms : List Term
  pub there : slice_get events found.place ≡ Some terms
  pub matches : match_list patterns terms ≡ Some found.binds

oldest-is : (patterns : List Pattern) (lane : ℕ) (bench : BenchState) (found : FoundEvent) → oldest_event patterns lane bench ≡ Some found → IsEventAt patterns (events_at lane bench) found
oldest-is patterns lane bench found e =
    let events = events_at lane bench in
    let oldest = MatchOption-at_some (NoneMatches patterns events) (IsOldest patterns events) found e (oldest-first patterns lane bench) in
    let it = and_then-some (match_list patterns) (slice_get events found.place) found.binds oldest.0 in
    record { terms = it.0; there = it.1; matches = it.2 }

is-event : (setting : Setting) (terms : List Term) (patterns : List Pattern) (exchange : Exchange) → exchange_for setting (TakeEvent terms patterns) ≡ Some exchange → IsExchange setting (TakeEvent terms patterns) exchange
is-event setting terms patterns exchange e =
    let bench = setting.bench in
    let at = and_then-some (event_on patterns bench) (lane_of is_taken_at bench terms) exchange e in
    let it = spoken-lane is_taken_at bench terms at.0 at.1 in
    let found = map-some (λ (found : FoundEvent). let x : Exchange = record { lane = at.0; event = found.place; binds = found.binds } in x) (oldest_event patterns at.0 bench) exchange at.2 in
    let event = oldest-is patterns at.0 bench found.0 found.1 in
    let lane = ap (λ (x : Exchange). x.lane) found.2 in
    let index = ap (λ (x : Exchange). x.event) found.2 in
    let there : slice_get (events_at exchange.lane bench) exchange.event ≡ Some event.terms =
    subst (λ n. slice_get (events_at n bench) exchange.event ≡ Some event.terms) lane (subst (λ p. slice_get (events_at at.0 bench) p ≡ Some event.terms) index event.there) in
    record {
      there = subst (IsThere bench) lane it.0;
      can = and_from (is_taken_at exchange.lane bench) (nat_lt exchange.event (length (events_at exchange.lane bench))) (subst (λ n. is_taken_at n bench ≡ true) lane it.1)
          (lt-ltb exchange.event (length (events_at exchange.lane bench)) (slice_get_within (events_at exchange.lane bench) exchange.event event.terms there));
      is = record { terms = event.terms; there = there; matches = event.matches ∙ ap (λ (x : Exchange). Some x.binds) found.2 };
    }

-- the first that passes, of those from an index on
pub record IsPassing {A : Type 0} (test : A → Bool) (from : ℕ) (xs : List A) (found : ℕ) : Type 0 where
  pub index : ℕ
  pub item : A
  pub stands : found ≡ from + index
  pub there : slice_get xs index ≡ Some item
  pub passes : test item ≡ true

position-is : {A : Type 0} (test : A → Bool) (from : ℕ) (xs : List A) (found : ℕ) → position_from test from xs ≡ Some found → IsPassing test from xs found
position-is test from [] found e = cc
position-is {A = A} test from (x ∷ xs) found e = by (test x) refl (position-is test (from + 1) xs found) e
  where
    later : IsPassing test (from + 1) xs found → IsPassing test from (x ∷ xs) found
    later it = record { index = suc it.index; item = it.item; stands = let s = it.stands in omega arith; there = it.there; passes = it.passes }

    by : (b : Bool) → test x ≡ b → (position_from test (from + 1) xs ≡ Some found → IsPassing test (from + 1) xs found) → cond b (Some from) (position_from test (from + 1) xs) ≡ Some found → IsPassing test from (x ∷ xs) found
    by true p rest h = let s : from ≡ found = cc in record { index = 0; item = x; stands = omega arith; there = refl; passes = p }
    by false p rest h = later (rest h)

received-is : (terms : List Term) (events : List (List Term)) (index : ℕ) → position_from (is_same_terms terms) 0 events ≡ Some index → slice_get events index ≡ Some terms
received-is terms events index e =
    let it = position-is (is_same_terms terms) 0 events index e in
    let same : terms ≡ it.item = is_same-sound (coded_list term.the_row.coded) terms it.item it.passes in
    let at : it.index ≡ index = let s = it.stands in omega arith in
    subst (λ p. slice_get events p ≡ Some terms) at (it.there ∙ ap (λ (ts : List Term). Some ts) (sym same))

is-received : (setting : Setting) (terms : List Term) (exchange : Exchange) → exchange_for setting (Acknowledge terms) ≡ Some exchange → IsExchange setting (Acknowledge terms) exchange
is-received setting terms exchange e =
    let bench = setting.bench in
    let at = and_then-some (received_on (behind terms) bench) (lane_of is_live_at bench terms) exchange e in
    let it = spoken-lane is_live_at bench terms at.0 at.1 in
    let found = map-some (λ (index : ℕ). let x : Exchange = record { lane = at.0; event = index; binds = [] } in x) (oldest_received (behind terms) at.0 bench) exchange at.2 in
    let event = received-is (behind terms) (received_at at.0 bench) found.0 found.1 in
    let lane = ap (λ (x : Exchange). x.lane) found.2 in
    let index = ap (λ (x : Exchange). x.event) found.2 in
    let there : slice_get (received_at exchange.lane bench) exchange.event ≡ Some (behind terms) =
    subst (λ n. slice_get (received_at n bench) exchange.event ≡ Some (behind terms)) lane (subst (λ p. slice_get (received_at at.0 bench) p ≡ Some (behind terms)) index event) in
    record {
      there = subst (IsThere bench) lane it.0;
      can = and_from (is_live_at exchange.lane bench) (nat_lt exchange.event (length (received_at exchange.lane bench))) (subst (λ n. is_live_at n bench ≡ true) lane it.1)
          (lt-ltb exchange.event (length (received_at exchange.lane bench)) (slice_get_within (received_at exchange.lane bench) exchange.event (behind terms) there));
      is = record { there = there; binds = sym (ap (λ (x : Exchange). x.binds) found.2) };
    }

-- Each exchange: its lane, what may be done there, and what it is.
pub exchange-is : (setting : Setting) (does : ToolAction) (exchange : Exchange) → exchange_for setting does ≡ Some exchange → IsExchange setting does exchange
exchange-is setting (Execute tool slot) exchange e = is-executing setting tool slot exchange e
exchange-is setting (Connect tool slot) exchange e = let it = is-kind setting Waiting tool slot exchange e in record { there = it.0; can = it.1; is = it.2 }
exchange-is setting (DisconnectAny tool slot) exchange e = let it = is-kind setting Leaving tool slot exchange e in record { there = it.0; can = it.1; is = it.2 }
exchange-is setting (Disconnect terms) exchange e = let it = is-plain setting can_leave terms exchange e in record { there = it.0; can = it.1; is = it.2 }
exchange-is setting (Eval terms) exchange e = let it = is-plain setting can_eval terms exchange e in record { there = it.0; can = it.1; is = it.2 }
exchange-is setting (TakeValue terms patterns) exchange e = is-value setting terms patterns exchange e
exchange-is setting (Do terms) exchange e = let it = is-plain setting can_eval terms exchange e in record { there = it.0; can = it.1; is = it.2 }
exchange-is setting (TakeEvent terms patterns) exchange e = is-event setting terms patterns exchange e
exchange-is setting (Acknowledge terms) exchange e = is-received setting terms exchange e
exchange-is setting (Terminate terms) exchange e = let it = is-plain setting is_live_at terms exchange e in record { there = it.0; can = it.1; is = it.2 }

-- On a bench with its 16 lanes, the lane is one of them, and the lanes allow the call.
pub can-exchange : (setting : Setting) → length setting.bench.lanes ≡ 16 → (does : ToolAction) (exchange : Exchange) → exchange_for setting does ≡ Some exchange → IsLane exchange.lane × CanExchange setting.bench does exchange
can-exchange setting long does exchange e =
    let it = exchange-is setting does exchange e in
    let there = it.there in
    ((there.0, omega (arith, there.1, long)), it.can)

-- What a store takes of it.

-- patterns that bind only what the store takes
abbrev pub PatternsTake : List Slot → List Pattern → Type 0
PatternsTake store patterns = (terms : List Term) (binds : List Bind) → match_list patterns terms ≡ Some binds → takes_binds store binds ≡ true

-- what an action that speaks with a tool receives binds only what the store takes
abbrev pub SpeakTakes : List Slot → ToolAction → Type 0
SpeakTakes store (Execute tool slot) = ⊤
SpeakTakes store (Connect tool slot) = ⊤
SpeakTakes store (DisconnectAny tool slot) = ⊤
SpeakTakes store (Disconnect terms) = ⊤
SpeakTakes store (Eval terms) = ⊤
SpeakTakes store (TakeValue terms patterns) = PatternsTake store patterns
SpeakTakes store (Do terms) = ⊤
SpeakTakes store (TakeEvent terms patterns) = PatternsTake store patterns
SpeakTakes store (Acknowledge terms) = ⊤
SpeakTakes store (Terminate terms) = ⊤

-- the patterns of a store are such
pub patterns-take : (store : List Slot) (exprs : List Expr) (patterns : List Pattern) → patterns_of store exprs ≡ Some patterns → PatternsTake store patterns
patterns-take store exprs patterns e terms binds h = binds-taken store exprs terms binds (ap (option_and_then (λ ps. match_list ps terms)) e ∙ h)

-- what holds of each action about patterns and terms that are there, holds of one that is
pub about-some : (P : Action → Type 0) (does : List Term → List Pattern → ToolAction) (patterns : Option (List Pattern)) (terms : Option (List Term)) →
    ((ts : List Term) (ps : List Pattern) → terms ≡ Some ts → patterns ≡ Some ps → P (action.Own (own.Speak (does ts ps)))) → IfSome (option_and_then (speak_about does patterns) terms) P
about-some P does patterns None h = tt
about-some P does None (Some ts) h = tt
about-some P does (Some ps) (Some ts) h = h ts ps refl refl

fits-at : (found : Option Body) (body : Body) (slot : ℕ) (value : Term) → found ≡ Some body → fits_slot found slot value ≡ true → has_slot_sort (slice_get body.sorts slot) value ≡ true
fits-at None body slot value e h = cc
fits-at (Some found) body slot value e h = let same : found ≡ body = same_Some found body e in ap (λ (b : Body). has_slot_sort (slice_get b.sorts slot) value) (sym same) ∙ h

none-taken : (store : List Slot) (binds : List Bind) → binds ≡ [] → takes_binds store binds ≡ true
none-taken store binds e = ap (takes_binds store) e

taking-taken : (setting : Setting) (body : Body) (store : List Slot) (slot : ℕ) (term : Term) (exchange : Exchange) → setting.body ≡ Some body → sorts_of store ≡ body.sorts → IsTaking setting slot term exchange → takes_binds store exchange.binds ≡ true
taking-taken setting body store slot term exchange e sorts it =
    let at : sort_at store slot ≡ slice_get body.sorts slot = sort_at-sorts_of store slot ∙ ap (λ (all : List Sort). slice_get all slot) sorts in
    ap (takes_binds store) it.binds
    ∙ and_from (takes_bind store (record { slot = slot; value = term })) true (ap (λ found. has_slot_sort found term) at ∙ fits-at setting.body body slot term e it.fits) refl

-- A store with the sorts of the body takes what an exchange binds.
pub exchange-takes : (setting : Setting) (body : Body) (store : List Slot) (does : ToolAction) (exchange : Exchange) → setting.body ≡ Some body → sorts_of store ≡ body.sorts → SpeakTakes store does → exchange_for setting does ≡ Some exchange →
    takes_binds store exchange.binds ≡ true
exchange-takes setting body store does exchange e sorts takes h = by does takes (exchange-is setting does exchange h).is
  where
    by : (does : ToolAction) → SpeakTakes store does → ExchangeIs setting does exchange → takes_binds store exchange.binds ≡ true
    by (Execute tool slot) takes is = taking-taken setting body store slot (next_term setting tool) exchange e sorts is.1
    by (Connect tool slot) takes is = taking-taken setting body store slot (term_of is.tool) exchange e sorts is.taking
    by (DisconnectAny tool slot) takes is = taking-taken setting body store slot (term_of is.tool) exchange e sorts is.taking
    by (Disconnect terms) takes is = none-taken store exchange.binds is.binds
    by (Eval terms) takes is = none-taken store exchange.binds is.binds
    by (TakeValue terms patterns) takes is = takes (is.value ∷ []) exchange.binds is.matches
    by (Do terms) takes is = none-taken store exchange.binds is.binds
    by (TakeEvent terms patterns) takes is = takes is.terms exchange.binds is.matches
    by (Acknowledge terms) takes is = none-taken store exchange.binds is.binds
    by (Terminate terms) takes is = none-taken store exchange.binds is.binds
