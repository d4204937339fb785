-- The tool of an exchange, and why an exchange that can't come isn't possible.
use Rattle.std.proofs.Common.{◌≡◌, ℕ, zero, suc, ◌⊎◌, inl, inr, List, [], ◌∷◌, Bool, true, false, ◌&&◌, ◌||◌, Option, Some, None, option_map, option_and_then, slice_get, if◌then◌else◌, refl, ap, sym, subst, ◌∙◌}
use Rattle.std.specs.Prelude.{⊤}
use Rattle.std.specs.List.{All, list_any}
use Rattle.std.specs.Coded.{coded_list}
use Rattle.std.proofs.lemmas.Bool.{and_parts}
use Rattle.std.proofs.lemmas.Option.{MatchOption-at_some}
use Rattle.tb_terms.specs.declared.term.Term.{Term}
use Rattle.tb_terms.specs.contracts.term.Term as term
use Rattle.tb_terms.specs.declared.pattern.Pattern.{Pattern}
use Rattle.std.specs.Str.{bytes_eq}
use Rattle.std.proofs.lemmas.Slice.Eq.{bytes_eq-Decides}
use Rattle.tb_terms.specs.Sizes.{is_within_limits}
use Rattle.tb_bus.specs.Slots.{fits_slot}
use Rattle.tb_terms.specs.Same.{is_same_term, is_same_terms}
use Rattle.tb_terms.proofs.SameLemmas.{is_same-refl, is_same-sound}
use Rattle.tb_match.specs.declared.bind.Bind.{Bind}
use Rattle.tb_match.specs.Matches.{match_list}
use Rattle.tb_body.specs.declared.program.Tool.{Tool as ToolKind}
use Rattle.tb_tools.specs.declared.stage.Stage.{Stage}
use Rattle.tb_tools.specs.declared.stage.Stage.TheVariants.{Waiting, Live, Leaving}
use Rattle.tb_tools.specs.declared.stage.Eval.{Eval}
use Rattle.tb_tools.specs.declared.stage.Eval.TheVariants.{Closed, Asked, Answered}
use Rattle.tb_tools.specs.declared.found.FoundEvent.{FoundEvent}
use Rattle.tb_tools.specs.Acts.{is_closed, answer_of, answer_by, answer_at, events_of, received_of, is_live_at, is_taken_at, can_leave, can_eval}
use Rattle.tb_tools.specs.Finding.{find_tool, first_at, has_tool, oldest_event, oldest_received}
use Rattle.tb_tools.specs.First.{NoLane, IsFirstLane, NoToolAt, HasSmallest}
use Rattle.tb_tools.specs.Lanes.{Tool, BenchState, tool_at, of_tool, is_same_stage, term_of}
use Rattle.tb_tools.proofs.Lowest.{first_lane-lowest, first_at-smallest}
use Rattle.tb_bus.specs.Buses.{Bus, Proc}
use Rattle.tb_bus.specs.Effects.{setting_of}
use Rattle.tb_bus.specs.Exchanges.{Setting, name_of, plain_on, term_on, bound_on, binding_on, taking_tool, first_of, first_of_kind, lane_if, lane_of, value_on, event_on, received_on, behind, exchange_for}
use Rattle.tb_bus.specs.declared.action.ToolAction.{ToolAction}
use Rattle.tb_bus.specs.declared.action.ToolAction.TheVariants as tool_action
use Rattle.tb_bus.specs.declared.exchange.Exchange.{Exchange}
use Rattle.tb_bus.proofs.ExchangeLemmas.{exchange-is}
use Rattle.tb_bus.proofs.LaneShapes.{all-there}
use Rattle.tb_stuck.specs.Stuck.{Region, OfTool, NobodyTakes, NobodyReceives, NoAnswer, CantSpeak}

pub and_then-some : {A B : Type 0} (f : A → Option B) (o : Option A) (y : B) → option_and_then f o ≡ Some y → (x : A) × (o ≡ Some x) × (f x ≡ Some y)
and_then-some f None y e = cc
and_then-some f (Some x) y e = (x, refl, e)

pub map-some : {A B : Type 0} (f : A → B) (o : Option A) (y : B) → option_map f o ≡ Some y → (x : A) × (o ≡ Some x) × (f x ≡ y)
map-some f None y e = cc
map-some f (Some x) y e = (x, refl, cc)

-- the tool of a lane that is found by a term

pub of-tool : (test : Tool → Bool) (o : Option Tool) → of_tool test o ≡ true → (tool : Tool) × (o ≡ Some tool) × (test tool ≡ true)
of-tool test None e = absurd cc
of-tool test (Some tool) e = (tool, refl, e)

pub record IsTold (may : ℕ → BenchState → Bool) (bench : BenchState) (terms : List Term) (lane : ℕ) : Type 0 where
  pub tool : Tool
  pub there : tool_at lane bench ≡ Some tool
  pub rest : List Term
  pub is : terms ≡ term_of tool ∷ rest
  pub can : may lane bench ≡ true

lane-if : (may : ℕ → BenchState → Bool) (bench : BenchState) (at lane : ℕ) (b : Bool) → may at bench ≡ b → (if b then Some at else None) ≡ Some lane → (at ≡ lane) × (may at bench ≡ true)
lane-if may bench at lane true e f = (let t : ◌≡◌ {A = Option ℕ} (Some at) (Some lane) = f in cc, e)
lane-if may bench at lane false e f = absurd (let t : ◌≡◌ {A = Option ℕ} None (Some lane) = f in cc)

pub told : (may : ℕ → BenchState → Bool) (bench : BenchState) (terms : List Term) (lane : ℕ) → lane_of may bench terms ≡ Some lane → IsTold may bench terms lane
told may bench [] lane e = absurd (let t : ◌≡◌ {A = Option ℕ} None (Some lane) = e in cc)
told may bench (first ∷ terms) lane e =
    let at = and_then-some (lane_if may bench) (find_tool first bench) lane e in
    let same = lane-if may bench at.0 lane (may at.0 bench) refl at.2 in
    let found = MatchOption-at_some (NoLane (has_tool first) bench) (IsFirstLane (has_tool first) bench) at.0 at.1 (first_lane-lowest (has_tool first) bench) in
    let tool = of-tool (λ tool. is_same_term first (term_of tool)) (tool_at at.0 bench) found.1 in
    let is : first ≡ term_of tool.0 = is_same-sound term.the_row.coded first (term_of tool.0) tool.2 in
    record {
      tool = tool.0;
      there = subst (λ (n : ℕ). tool_at n bench ≡ Some tool.0) same.0 tool.1;
      rest = terms;
      is = ap (λ (t : Term). t ∷ terms) is;
      can = subst (λ (n : ℕ). may n bench ≡ true) same.0 same.1;
    }

-- what holds of the tool of the terms holds of it
pub of-told : (Passes : Tool → Type 0) (may : ℕ → BenchState → Bool) (bench : BenchState) (terms : List Term) (lane : ℕ) → OfTool Passes bench terms → (it : IsTold may bench terms lane) → Passes it.tool
of-told Passes may bench terms lane k it =
    let all : OfTool Passes bench (term_of it.tool ∷ it.rest) = subst (OfTool Passes bench) it.is k in
    all.now lane it.tool it.there refl

-- the tool of each exchange
abbrev pub ToldOf : BenchState → ToolAction → ℕ → Type 0
ToldOf bench (tool_action.Execute tool slot) lane = ⊤
ToldOf bench (tool_action.Connect tool slot) lane = ⊤
ToldOf bench (tool_action.DisconnectAny tool slot) lane = ⊤
ToldOf bench (tool_action.Disconnect terms) lane = IsTold can_leave bench terms lane
ToldOf bench (tool_action.Eval terms) lane = IsTold can_eval bench terms lane
ToldOf bench (tool_action.TakeValue terms patterns) lane = IsTold is_taken_at bench terms lane
ToldOf bench (tool_action.Do terms) lane = IsTold can_eval bench terms lane
ToldOf bench (tool_action.TakeEvent terms patterns) lane = IsTold is_taken_at bench terms lane
ToldOf bench (tool_action.Acknowledge terms) lane = IsTold is_live_at bench terms lane
ToldOf bench (tool_action.Terminate terms) lane = IsTold is_live_at bench terms lane

plain-told : (may : ℕ → BenchState → Bool) (bench : BenchState) (terms : List Term) (exchange : Exchange) → option_map plain_on (lane_of may bench terms) ≡ Some exchange → IsTold may bench terms exchange.lane
plain-told may bench terms exchange e =
    let at = map-some plain_on (lane_of may bench terms) exchange e in
    subst (IsTold may bench terms) (ap (λ (x : Exchange). x.lane) at.2) (told may bench terms at.0 at.1)

pub exchange-told : (setting : Setting) (does : ToolAction) (exchange : Exchange) → exchange_for setting does ≡ Some exchange → ToldOf setting.bench does exchange.lane
exchange-told setting (tool_action.Execute tool slot) exchange e = tt
exchange-told setting (tool_action.Connect tool slot) exchange e = tt
exchange-told setting (tool_action.DisconnectAny tool slot) exchange e = tt
exchange-told setting (tool_action.Disconnect terms) exchange e = plain-told can_leave setting.bench terms exchange e
exchange-told setting (tool_action.Eval terms) exchange e = plain-told can_eval setting.bench terms exchange e
exchange-told setting (tool_action.TakeValue terms patterns) exchange e =
    let bench = setting.bench in
    let at = and_then-some (value_on patterns bench) (lane_of is_taken_at bench terms) exchange e in
    let value = and_then-some (λ (value : Term). option_map (λ (binds : List Bind). let x : Exchange = record { lane = at.0; event = 0; binds = binds } in x) (match_list patterns (value ∷ []))) (answer_at at.0 bench) exchange at.2 in
    let binds = map-some (λ (binds : List Bind). let x : Exchange = record { lane = at.0; event = 0; binds = binds } in x) (match_list patterns (value.0 ∷ [])) exchange value.2 in
    subst (IsTold is_taken_at bench terms) (ap (λ (x : Exchange). x.lane) binds.2) (told is_taken_at bench terms at.0 at.1)
exchange-told setting (tool_action.Do terms) exchange e = plain-told can_eval setting.bench terms exchange e
exchange-told setting (tool_action.TakeEvent terms patterns) exchange e =
    let bench = setting.bench in
    let at = and_then-some (event_on patterns bench) (lane_of is_taken_at bench terms) exchange e in
    let found = map-some (λ (found : FoundEvent). let x : Exchange = record { lane = at.0; event = found.place; binds = found.binds } in x) (oldest_event patterns at.0 bench) exchange at.2 in
    subst (IsTold is_taken_at bench terms) (ap (λ (x : Exchange). x.lane) found.2) (told is_taken_at bench terms at.0 at.1)
exchange-told setting (tool_action.Acknowledge terms) exchange e =
    let bench = setting.bench in
    let at = and_then-some (received_on (behind terms) bench) (lane_of is_live_at bench terms) exchange e in
    let found = map-some (λ (place : ℕ). let x : Exchange = record { lane = at.0; event = place; binds = [] } in x) (oldest_received (behind terms) at.0 bench) exchange at.2 in
    subst (IsTold is_live_at bench terms) (ap (λ (x : Exchange). x.lane) found.2) (told is_live_at bench terms at.0 at.1)
exchange-told setting (tool_action.Terminate terms) exchange e = plain-told is_live_at setting.bench terms exchange e

-- no such exchange

not-live : (bench : BenchState) (lane : ℕ) (tool : Tool) → tool_at lane bench ≡ Some tool → tool.stage ≡ Leaving → is_live_at lane bench ≡ true → ⊥
not-live bench lane tool e f live =
    let t : is_same_stage tool.stage Live ≡ true = subst (λ (o : Option Tool). of_tool (λ tool. is_same_stage tool.stage Live) o ≡ true) e live in
    let u : is_same_stage Leaving Live ≡ true = subst (λ (stage : Stage). is_same_stage stage Live ≡ true) f t in
    cc

not-open : (bench : BenchState) (lane : ℕ) (tool : Tool) → tool_at lane bench ≡ Some tool → (P : Type 0) → (tool.stage ≡ Leaving) ⊎ ((is_closed tool.eval ≡ false) × P) → can_eval lane bench ≡ true → ⊥
not-open bench lane tool e P (inl f) can = not-live bench lane tool e f (and_parts (is_live_at lane bench) (of_tool (λ tool. is_closed tool.eval) (tool_at lane bench)) can).0
not-open bench lane tool e P (inr k) can =
    let t : is_closed tool.eval ≡ true = subst (λ (o : Option Tool). of_tool (λ tool. is_closed tool.eval) o ≡ true) e (and_parts (is_live_at lane bench) (of_tool (λ tool. is_closed tool.eval) (tool_at lane bench)) can).1 in
    let u = k.0 in
    cc

any-there : (test : List Term → Bool) (xs : List (List Term)) (at : ℕ) (x : List Term) → slice_get xs at ≡ Some x → test x ≡ true → list_any test xs ≡ false → ⊥
any-there test [] at x e f g = absurd (let t : ◌≡◌ {A = Option (List Term)} None (Some x) = e in cc)
any-there test (y ∷ xs) zero x e f g =
    let same : y ≡ x = let t : ◌≡◌ {A = Option (List Term)} (Some y) (Some x) = e in cc in
    first (test y) (list_any test xs) (ap test same ∙ f) g
  where
    first : (b c : Bool) → b ≡ true → (b || c) ≡ false → ⊥
    first true c t f = cc
    first false c t f = cc
any-there test (y ∷ xs) (suc at) x e f g = any-there test xs at x e f (second (test y) (list_any test xs) g)
  where
    second : (b c : Bool) → (b || c) ≡ false → c ≡ false
    second true c t = absurd cc
    second false c t = t

no-answer : (bus : Bus) (region : Region) (patterns : List Pattern) (tool : Tool) (eval : Eval) (value : Term) (binds : List Bind) → answer_of eval ≡ Some value → match_list patterns (value ∷ []) ≡ Some binds →
    NoAnswer bus region patterns tool eval → ⊥
no-answer bus region patterns tool Closed value binds e f k = let t : ◌≡◌ {A = Option Term} None (Some value) = e in cc
no-answer bus region patterns tool Asked value binds e f k = let t : ◌≡◌ {A = Option Term} None (Some value) = e in cc
no-answer bus region patterns tool (Answered other) value binds e f k =
    let same : other ≡ value = let t : ◌≡◌ {A = Option Term} (Some other) (Some value) = e in cc in
    let t : match_list patterns (value ∷ []) ≡ None = subst (λ (v : Term). match_list patterns (v ∷ []) ≡ None) same k.0 in
    cc

no-kind : (setting : Setting) (stage : Stage) (tool slot : ℕ) (exchange : Exchange) → first_of_kind setting stage tool slot ≡ Some exchange → NoToolAt (name_of (slice_get setting.kinds tool)) stage setting.bench → ⊥
no-kind setting stage tool slot exchange e none =
    let kind = and_then-some (first_of setting stage slot) (slice_get setting.kinds tool) exchange e in
    let lane = and_then-some (taking_tool setting slot) (first_at kind.0.name stage setting.bench) exchange kind.2 in
    let it = MatchOption-at_some (NoToolAt kind.0.name stage setting.bench) (HasSmallest kind.0.name stage setting.bench) lane.0 lane.1 (first_at-smallest kind.0.name stage setting.bench) in
    subst (λ (o : Option ToolKind). NoToolAt (name_of o) stage setting.bench) kind.1 none lane.0 it.0 it.1

pub cant-exchange : (bus : Bus) (region : Region) (proc : Proc) (does : ToolAction) (exchange : Exchange) → CantSpeak bus region does → exchange_for (setting_of bus proc) does ≡ Some exchange → ⊥
cant-exchange bus region proc (tool_action.Execute tool slot) exchange k e = k
cant-exchange bus region proc (tool_action.Connect tool slot) exchange k e = no-kind (setting_of bus proc) Waiting tool slot exchange e k.0
cant-exchange bus region proc (tool_action.DisconnectAny tool slot) exchange k e = no-kind (setting_of bus proc) Leaving tool slot exchange e k.1
cant-exchange bus region proc (tool_action.Disconnect terms) exchange k e = of-told (λ tool. ⊥) can_leave bus.bench terms exchange.lane k (exchange-told (setting_of bus proc) (tool_action.Disconnect terms) exchange e)
cant-exchange bus region proc (tool_action.Eval terms) exchange k e =
    let it = exchange-told (setting_of bus proc) (tool_action.Eval terms) exchange e in
    let why = of-told (λ tool. (tool.stage ≡ Leaving) ⊎ ((is_closed tool.eval ≡ false) × NobodyTakes bus region tool)) can_eval bus.bench terms exchange.lane k it in
    not-open bus.bench exchange.lane it.tool it.there (NobodyTakes bus region it.tool) why it.can
cant-exchange bus region proc (tool_action.Do terms) exchange k e =
    let it = exchange-told (setting_of bus proc) (tool_action.Do terms) exchange e in
    let why = of-told (λ tool. (tool.stage ≡ Leaving) ⊎ ((is_closed tool.eval ≡ false) × NobodyTakes bus region tool)) can_eval bus.bench terms exchange.lane k it in
    not-open bus.bench exchange.lane it.tool it.there (NobodyTakes bus region it.tool) why it.can
cant-exchange bus region proc (tool_action.TakeValue terms patterns) exchange k e =
    let it = exchange-told (setting_of bus proc) (tool_action.TakeValue terms patterns) exchange e in
    let value = (exchange-is (setting_of bus proc) (tool_action.TakeValue terms patterns) exchange e).is in
    let answer : answer_of it.tool.eval ≡ Some value.value = subst (λ (o : Option Tool). answer_by o ≡ Some value.value) it.there value.there in
    no-answer bus region patterns it.tool it.tool.eval value.value exchange.binds answer value.matches
    (of-told (λ tool. NoAnswer bus region patterns tool tool.eval) is_taken_at bus.bench terms exchange.lane k it)
cant-exchange bus region proc (tool_action.TakeEvent terms patterns) exchange k e =
    let it = exchange-told (setting_of bus proc) (tool_action.TakeEvent terms patterns) exchange e in
    let event = (exchange-is (setting_of bus proc) (tool_action.TakeEvent terms patterns) exchange e).is in
    let there : slice_get it.tool.events exchange.event ≡ Some event.terms = subst (λ (o : Option Tool). slice_get (events_of o) exchange.event ≡ Some event.terms) it.there event.there in
    let none = of-told (λ tool. (tool.stage ≡ Leaving) × All (λ event. match_list patterns event ≡ None) tool.events) is_taken_at bus.bench terms exchange.lane k it in
    let unmatched : match_list patterns event.terms ≡ None = all-there (λ terms. match_list patterns terms ≡ None) it.tool.events exchange.event event.terms none.1 there in
    let matched = event.matches in
    cc
cant-exchange bus region proc (tool_action.Acknowledge terms) exchange k e =
    let it = exchange-told (setting_of bus proc) (tool_action.Acknowledge terms) exchange e in
    let event = (exchange-is (setting_of bus proc) (tool_action.Acknowledge terms) exchange e).is in
    let there : slice_get it.tool.received exchange.event ≡ Some (behind terms) = subst (λ (o : Option Tool). slice_get (received_of o) exchange.event ≡ Some (behind terms)) it.there event.there in
    elim (of-told (λ tool. (tool.stage ≡ Leaving) ⊎ ((list_any (is_same_terms (behind terms)) tool.received ≡ false) × NobodyReceives bus region (behind terms) tool)) is_live_at bus.bench terms exchange.lane k it) [
      | inl f ↦ not-live bus.bench exchange.lane it.tool it.there f it.can
      | inr g ↦ any-there (is_same_terms (behind terms)) it.tool.received exchange.event (behind terms) there (is_same-refl (coded_list term.the_row.coded) (behind terms)) g.0
    ]
cant-exchange bus region proc (tool_action.Terminate terms) exchange k e =
    let it = exchange-told (setting_of bus proc) (tool_action.Terminate terms) exchange e in
    not-live bus.bench exchange.lane it.tool it.there (of-told (λ tool. tool.stage ≡ Leaving) is_live_at bus.bench terms exchange.lane k it) it.can

-- the tool of the first of a kind
pub record IsFirstKind (setting : Setting) (stage : Stage) (tool : ℕ) (lane : ℕ) : Type 0 where
  pub found : Tool
  pub there : tool_at lane setting.bench ≡ Some found
  pub stands : is_same_stage found.stage stage ≡ true
  pub named : name_of (slice_get setting.kinds tool) ≡ found.name

taking-lane : (setting : Setting) (slot lane : ℕ) (exchange : Exchange) → taking_tool setting slot lane ≡ Some exchange → lane ≡ exchange.lane
taking-lane setting slot lane exchange e =
    let term = and_then-some (binding_on setting slot lane) (term_on lane setting.bench) exchange e in
    by (is_within_limits term.0 && fits_slot setting.body slot term.0) (bound_on slot lane term.0) refl term.2
  where
    by : (b : Bool) (bound : Exchange) → lane ≡ bound.lane → (if b then Some bound else None) ≡ Some exchange → lane ≡ exchange.lane
    by true bound f g = f ∙ ap (λ (x : Exchange). x.lane) (let t : ◌≡◌ {A = Option Exchange} (Some bound) (Some exchange) = g in let u : bound ≡ exchange = cc in u)
    by false bound f g = absurd (let t : ◌≡◌ {A = Option Exchange} None (Some exchange) = g in cc)

pub kind-is : (setting : Setting) (stage : Stage) (tool slot : ℕ) (exchange : Exchange) → first_of_kind setting stage tool slot ≡ Some exchange → IsFirstKind setting stage tool exchange.lane
kind-is setting stage tool slot exchange e =
    let kind = and_then-some (first_of setting stage slot) (slice_get setting.kinds tool) exchange e in
    let lane = and_then-some (taking_tool setting slot) (first_at kind.0.name stage setting.bench) exchange kind.2 in
    let it = MatchOption-at_some (NoToolAt kind.0.name stage setting.bench) (HasSmallest kind.0.name stage setting.bench) lane.0 lane.1 (first_at-smallest kind.0.name stage setting.bench) in
    let parts = and_parts (bytes_eq it.0.name kind.0.name) (is_same_stage it.0.stage stage) it.1.2 in
    record {
      found = it.0;
      there = subst (λ (n : ℕ). tool_at n setting.bench ≡ Some it.0) (taking-lane setting slot lane.0 exchange lane.2) it.1.1;
      stands = parts.1;
      named = ap name_of kind.1 ∙ sym ((bytes_eq-Decides it.0.name kind.0.name).0 parts.0);
    }
