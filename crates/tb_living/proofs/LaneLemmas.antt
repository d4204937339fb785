-- An action without a possible exchange stays without one after a change of one lane, if nothing came that the lane's tool gives, or if
-- the action doesn't name the lane's tool.
use Rattle.std.proofs.Common.{◌≡◌, ◌⊎◌, inl, inr, ℕ, ◌-◌, ◌<◌, nat_lt, ◌&&◌, ◌||◌, List, [], ◌∷◌, ◌++◌, length, refl, ap, sym, subst, ◌∙◌, rules, Option, Some, None, Bool, true, false, not, is_some, is_none, IsTrue, option_map, option_and_then, slice_get, slice_index_or, if◌then◌else◌, codes}
use Rattle.std.specs.List.{position_from, remove}
use Rattle.std.proofs.lemmas.Bool.{and_parts, false≢true}
use Rattle.std.proofs.lemmas.Option.{MatchOption-at_some, none-some}
use Rattle.tb_terms.specs.declared.term.Term.{Term, the_lemmas}
use Rattle.tb_terms.specs.contracts.term.Term as term_data
use Rattle.tb_terms.specs.declared.pattern.Pattern.{Pattern}
use Rattle.tb_terms.specs.Same.{is_same_term, is_same_terms}
use Rattle.tb_terms.proofs.SameLemmas.{is_same-sound}
use Rattle.tb_match.specs.declared.bind.Bind.{Bind}
use Rattle.tb_match.specs.Matches.{match_list}
use Rattle.tb_body.specs.declared.body.Body.{Body}
use Rattle.tb_body.specs.declared.program.Tool.{Tool as ToolKind}
use Rattle.tb_log.specs.declared.entry.Out.{Out}
use Rattle.tb_log.specs.declared.entry.ToolLine.TheVariants.{Value, Event, Bad}
use Rattle.tb_log.specs.declared.entry.Why.{Why}
use Rattle.tb_tools.specs.declared.stage.Stage.{Stage}
use Rattle.tb_tools.specs.declared.stage.Stage.TheVariants as stage
use Rattle.tb_tools.specs.declared.stage.Eval.TheVariants as eval
use Rattle.tb_tools.specs.declared.found.FoundEvent.{FoundEvent}
use Rattle.tb_tools.specs.Lanes.{Tool, Lane, BenchState, of_tool, is_same_stage, is_stage_at, is_empty, is_free, unused, lane_at, tool_at, tool_term, term_of, with_lane, on_tool, with_out}
use Rattle.tb_tools.specs.Acts.{answer_by, answer_at, events_of, event_at, received_of, received_at, is_closed, is_live_at, is_taken_at, can_ack, can_eval, can_leave, asked, acknowledged, event_taken, handed_out, told, tool_line, value_taken, with_acknowledged, with_acknowledged_of, with_question, with_received, without_answer, without_out}
use Rattle.tb_tools.specs.Finding.{find_tool, first_at, first_match, has_tool, next_out}
use Rattle.tb_tools.specs.First.{NoLane, IsFirstLane}
use Rattle.tb_tools.specs.Inputs.{answered, dropped, line_by, put_line, with_event}
use Rattle.tb_tools.proofs.Keeping.{HasLess, IsKept, IsLaneKept, OfTools, fewer-received, find_tool-kept, first_at-kept, first_lane-kept, kept-self, kept-terms, less-self, of-lanes, of-self, of-weaker, stage-kept, tool-kept}
use Rattle.tb_tools.proofs.Lowest.{first_lane-lowest}
use Rattle.tb_tools.proofs.Staying.{on_lane-same, with_lane-or}
use Rattle.tb_bus.specs.Exchanges.{Setting, behind, binding_on, command_of, event_on, exchange_for, first_of, lane_if, lane_of, name_of, plain_on, received_on, taking_tool, value_on, with_told}
use Rattle.tb_bus.specs.declared.action.ToolAction.{ToolAction}
use Rattle.tb_bus.specs.declared.action.ToolAction.TheVariants.{Execute, Connect, DisconnectAny, Disconnect, Eval, TakeValue, Do, TakeEvent, Acknowledge, Terminate}
use Rattle.tb_bus.specs.declared.exchange.Exchange.{Exchange}
use Rattle.tb_living.specs.Indexes.{is_silent, number_among, number_in, number_of}

-- who speaks, with these kinds of tools and these lanes
abbrev pub speaker : Option Body → List ToolKind → BenchState → Setting
speaker body kinds bench = record { body = body; kinds = kinds; bench = bench }

-- the action speaks with another tool than that of a lane, or the lane has none
abbrev pub IsApart : Option Tool → ToolAction → Type 0
IsApart found does = (tool : Tool) → found ≡ Some tool → number_in does ≡ Some tool.number → ⊥

-- if no exchange is possible for the action before, none is possible afterwards
abbrev pub StaysSilent : Option Body → List ToolKind → BenchState → BenchState → ToolAction → Type 0
StaysSilent body kinds before after does = is_silent (speaker body kinds before) (Some does) ≡ true → is_silent (speaker body kinds after) (Some does) ≡ true

-- what stands behind an answer that is there

and_then-some : {A B : Type 0} (f : A → Option B) (o : Option A) (y : B) → option_and_then f o ≡ Some y → (x : A) × (o ≡ Some x) × (f x ≡ Some y)
and_then-some f None y e = cc
and_then-some f (Some x) y e = (x, refl, e)

map-some : {A B : Type 0} (f : A → B) (o : Option A) (y : B) → option_map f o ≡ Some y → (x : A) × (o ≡ Some x) × (f x ≡ y)
map-some f None y e = cc
map-some f (Some x) y e = (x, refl, cc)

if-some : {A : Type 0} (b : Bool) (x y : A) → (if b then Some x else None) ≡ Some y → (b ≡ true) × (x ≡ y)
if-some true x y e = (refl, cc)
if-some false x y e = cc

silent-by : {A : Type 0} (before after : Option A) → ((x : A) → after ≡ Some x → (y : A) × (before ≡ Some y)) → not (is_some before) ≡ true → not (is_some after) ≡ true
silent-by before None back h = refl
silent-by {A = A} before (Some x) back h =
    let was = back x refl in
    absurd (false≢true (sym (ap (λ (o : Option A). not (is_some o)) was.1) ∙ h))

-- of the tools of a lane

answer-less : (before after : Option Tool) → OfTools HasLess before after → (value : Term) → answer_by after ≡ Some value → answer_by before ≡ Some value
answer-less None None h value e = e
answer-less None (Some after) h value e = absurd h
answer-less (Some before) None h value e = absurd h
answer-less (Some before) (Some after) h value e = h.answer value e

events-less : (before after : Option Tool) → OfTools HasLess before after → events_of after ≡ events_of before
events-less None None h = refl
events-less None (Some after) h = absurd h
events-less (Some before) None h = absurd h
events-less (Some before) (Some after) h = h.events

received-less : (before after : Option Tool) → OfTools HasLess before after → (test : List Term → Bool) (place : ℕ) → position_from test 0 (received_of after) ≡ Some place → (other : ℕ) × (position_from test 0 (received_of before) ≡ Some other)
received-less None None h test place e = (place, e)
received-less None (Some after) h test place e = absurd h
received-less (Some before) None h test place e = absurd h
received-less (Some before) (Some after) h test place e = h.received test place e

closed-less : (before after : Option Tool) → OfTools HasLess before after → of_tool (λ tool. is_closed tool.eval) after ≡ true → of_tool (λ tool. is_closed tool.eval) before ≡ true
closed-less None None h e = e
closed-less None (Some after) h e = absurd h
closed-less (Some before) None h e = absurd h
closed-less (Some before) (Some after) h e = h.closed e

kept-of : (before after : Option Tool) → OfTools HasLess before after → OfTools IsKept before after
kept-of before after h = of-weaker HasLess IsKept (λ one other it. it.kept) before after h

both-by : (a b c d : Bool) → (a ≡ true → c ≡ true) → (b ≡ true → d ≡ true) → (a && b) ≡ true → (c && d) ≡ true
both-by true true c d f g h = let p = f refl in let q = g refl in cc
both-by true false c d f g h = cc
both-by false b c d f g h = cc

-- the number in the term of a tool
number_of-term : (tool : Tool) → number_of (term_of tool) ≡ Some tool.number
number_of-term tool = search (rules, the_lemmas)

-- a tool with this term has the number in it
named-number : (term : Term) (found : Option Tool) → of_tool (λ tool. is_same_term term (term_of tool)) found ≡ true → (tool : Tool) × (found ≡ Some tool) × (number_of term ≡ Some tool.number)
named-number term None e = cc
named-number term (Some tool) e = (tool, refl, ap number_of (is_same-sound term_data.the_row.coded term (term_of tool) e) ∙ number_of-term tool)

module _ (body : Option Body) (kinds : List ToolKind) (lane : ℕ) (new : Lane) (bench : BenchState) (kept : IsLaneKept (lane_at lane bench) new) where
  -- what speaks with a kind of tools

  executing-same : (tool slot : ℕ) → exchange_for (speaker body kinds (with_lane lane new bench)) (Execute tool slot) ≡ exchange_for (speaker body kinds bench) (Execute tool slot)
  executing-same tool slot =
      ap (λ (found : Option ℕ). option_and_then (λ (command : List ℕ). option_and_then (λ (l : ℕ). binding_on (speaker body kinds bench) slot l (tool_term (name_of (slice_get kinds tool)) bench.next_tool)) found) (command_of (slice_get kinds tool)))
      (first_lane-kept is_free lane new bench kept.free)

  taking-same : (slot l : ℕ) → taking_tool (speaker body kinds (with_lane lane new bench)) slot l ≡ taking_tool (speaker body kinds bench) slot l
  taking-same slot l =
      ap (option_and_then (binding_on (speaker body kinds bench) slot l)) (tool-kept (option_map term_of) lane l new bench (kept-terms (tool_at lane bench) new.tool kept.tool))

  taking-each : (slot : ℕ) (found : Option ℕ) → option_and_then (taking_tool (speaker body kinds (with_lane lane new bench)) slot) found ≡ option_and_then (taking_tool (speaker body kinds bench) slot) found
  taking-each slot None = refl
  taking-each slot (Some l) = taking-same slot l

  kind-each : (stage : Stage) (slot : ℕ) (kind : Option ToolKind) → option_and_then (first_of (speaker body kinds (with_lane lane new bench)) stage slot) kind ≡ option_and_then (first_of (speaker body kinds bench) stage slot) kind
  kind-each stage slot None = refl
  kind-each stage slot (Some kind) =
      ap (option_and_then (taking_tool (speaker body kinds (with_lane lane new bench)) slot)) (first_at-kept kind.name stage lane new bench kept.tool)
      ∙ taking-each slot (first_at kind.name stage bench)

  -- what speaks with a tool

  LessFor : Term → Type 0
  LessFor term = (l : ℕ) → find_tool term bench ≡ Some l → OfTools HasLess (tool_at l bench) (tool_at l (with_lane lane new bench))

  LessAmong : List Term → Type 0
  LessAmong [] = Unit {0}
  LessAmong (term ∷ terms) = LessFor term

  Allows : (ℕ → BenchState → Bool) → Type 0
  Allows may = (l : ℕ) → OfTools HasLess (tool_at l bench) (tool_at l (with_lane lane new bench)) → may l (with_lane lane new bench) ≡ true → may l bench ≡ true

  stage-same : (stage : Stage) (l : ℕ) → OfTools HasLess (tool_at l bench) (tool_at l (with_lane lane new bench)) → is_stage_at stage l (with_lane lane new bench) ≡ is_stage_at stage l bench
  stage-same stage l h = stage-kept stage (tool_at l bench) (tool_at l (with_lane lane new bench)) (kept-of (tool_at l bench) (tool_at l (with_lane lane new bench)) h)

  stage-allows : (stage : Stage) → Allows (is_stage_at stage)
  unfolding Allows
  stage-allows stage l h e = sym (stage-same stage l h) ∙ e

  taken-allows : Allows is_taken_at
  unfolding Allows
  taken-allows l h e =
      sym (ap (λ b. b || is_stage_at stage.Leaving l (with_lane lane new bench)) (stage-same stage.Live l h) ∙ ap (λ b. is_stage_at stage.Live l bench || b) (stage-same stage.Leaving l h)) ∙ e

  eval-allows : Allows can_eval
  unfolding Allows
  eval-allows l h e =
      both-by (is_live_at l (with_lane lane new bench)) (of_tool (λ tool. is_closed tool.eval) (tool_at l (with_lane lane new bench))) (is_live_at l bench) (of_tool (λ tool. is_closed tool.eval) (tool_at l bench))
      (λ live. sym (stage-same stage.Live l h) ∙ live) (closed-less (tool_at l bench) (tool_at l (with_lane lane new bench)) h) e

  lane-back : (may : ℕ → BenchState → Bool) → Allows may → (terms : List Term) → LessAmong terms → (l : ℕ) → lane_of may (with_lane lane new bench) terms ≡ Some l →
      (lane_of may bench terms ≡ Some l) × OfTools HasLess (tool_at l bench) (tool_at l (with_lane lane new bench))
  unfolding Allows LessAmong LessFor
  lane-back may allows [] less l e = cc
  lane-back may allows (term ∷ terms) less l e =
      let at = and_then-some (lane_if may (with_lane lane new bench)) (find_tool term (with_lane lane new bench)) l e in
      let it = if-some (may at.0 (with_lane lane new bench)) at.0 l at.2 in
      let found : find_tool term bench ≡ Some at.0 = sym (find_tool-kept term lane new bench kept.tool) ∙ at.1 in
      let has = less at.0 found in
      let can = allows at.0 has it.0 in (
        ap (option_and_then (lane_if may bench)) found ∙ ap (λ (b : Bool). if b then Some at.0 else None) can ∙ ap (λ (n : ℕ). Some n) it.1,
        subst (λ (n : ℕ). OfTools HasLess (tool_at n bench) (tool_at n (with_lane lane new bench))) it.1 has,
      )

  plain-back : (may : ℕ → BenchState → Bool) → Allows may → (terms : List Term) → LessAmong terms → (x : Exchange) → option_map plain_on (lane_of may (with_lane lane new bench) terms) ≡ Some x →
      (y : Exchange) × (option_map plain_on (lane_of may bench terms) ≡ Some y)
  plain-back may allows terms less x e =
      let at = map-some plain_on (lane_of may (with_lane lane new bench) terms) x e in
      let it = lane-back may allows terms less at.0 at.1 in
      (plain_on at.0, ap (option_map plain_on) it.0)

  value-back : (patterns : List Pattern) (terms : List Term) → LessAmong terms → (x : Exchange) → option_and_then (value_on patterns (with_lane lane new bench)) (lane_of is_taken_at (with_lane lane new bench) terms) ≡ Some x →
      (y : Exchange) × (option_and_then (value_on patterns bench) (lane_of is_taken_at bench terms) ≡ Some y)
  value-back patterns terms less x e =
      let at = and_then-some (value_on patterns (with_lane lane new bench)) (lane_of is_taken_at (with_lane lane new bench) terms) x e in
      let it = lane-back is_taken_at taken-allows terms less at.0 at.1 in
      let seen : Term → Option Exchange = λ value. option_map (λ (binds : List Bind). let y : Exchange = record { lane = at.0; event = 0; binds = binds } in y) (match_list patterns (value ∷ [])) in
      let value = and_then-some seen (answer_at at.0 (with_lane lane new bench)) x at.2 in
      let there : answer_at at.0 bench ≡ Some value.0 = answer-less (tool_at at.0 bench) (tool_at at.0 (with_lane lane new bench)) it.1 value.0 value.1 in
      (x, ap (option_and_then (value_on patterns bench)) it.0 ∙ ap (option_and_then seen) (there ∙ sym value.1) ∙ at.2)

  event-back : (patterns : List Pattern) (terms : List Term) → LessAmong terms → (x : Exchange) → option_and_then (event_on patterns (with_lane lane new bench)) (lane_of is_taken_at (with_lane lane new bench) terms) ≡ Some x →
      (y : Exchange) × (option_and_then (event_on patterns bench) (lane_of is_taken_at bench terms) ≡ Some y)
  event-back patterns terms less x e =
      let at = and_then-some (event_on patterns (with_lane lane new bench)) (lane_of is_taken_at (with_lane lane new bench) terms) x e in
      let it = lane-back is_taken_at taken-allows terms less at.0 at.1 in
      let events = events-less (tool_at at.0 bench) (tool_at at.0 (with_lane lane new bench)) it.1 in (
        x,
        ap (option_and_then (event_on patterns bench)) it.0
            ∙ ap (λ (es : List (List Term)). option_map (λ (found : FoundEvent). let y : Exchange = record { lane = at.0; event = found.place; binds = found.binds } in y) (first_match 0 patterns es)) (sym events)
            ∙ at.2,
      )

  received-back : (terms : List Term) → LessAmong terms → (x : Exchange) → option_and_then (received_on (behind terms) (with_lane lane new bench)) (lane_of is_live_at (with_lane lane new bench) terms) ≡ Some x →
      (y : Exchange) × (option_and_then (received_on (behind terms) bench) (lane_of is_live_at bench terms) ≡ Some y)
  received-back terms less x e =
      let at = and_then-some (received_on (behind terms) (with_lane lane new bench)) (lane_of is_live_at (with_lane lane new bench) terms) x e in
      let it = lane-back is_live_at (stage-allows stage.Live) terms less at.0 at.1 in
      let made : ℕ → Exchange = λ place. record { lane = at.0; event = place; binds = [] } in
      let place = map-some made (position_from (is_same_terms (behind terms)) 0 (received_at at.0 (with_lane lane new bench))) x at.2 in
      let other = received-less (tool_at at.0 bench) (tool_at at.0 (with_lane lane new bench)) it.1 (is_same_terms (behind terms)) place.0 place.1 in
      (made other.0, ap (option_and_then (received_on (behind terms) bench)) it.0 ∙ ap (option_map made) other.1)

  -- What is silent stays so, where the tool with which it speaks gives nothing that it didn't.
  stays-by : (does : ToolAction) → ((terms : List Term) → number_among terms ≡ number_in does → LessAmong terms) → StaysSilent body kinds bench (with_lane lane new bench) does
  stays-by (Execute tool slot) less h = ap (λ (o : Option Exchange). not (is_some o)) (executing-same tool slot) ∙ h
  stays-by (Connect tool slot) less h = ap (λ (o : Option Exchange). not (is_some o)) (kind-each stage.Waiting slot (slice_get kinds tool)) ∙ h
  stays-by (DisconnectAny tool slot) less h = ap (λ (o : Option Exchange). not (is_some o)) (kind-each stage.Leaving slot (slice_get kinds tool)) ∙ h
  stays-by (Disconnect terms) less h =
      silent-by (exchange_for (speaker body kinds bench) (Disconnect terms)) (exchange_for (speaker body kinds (with_lane lane new bench)) (Disconnect terms)) (plain-back can_leave (stage-allows stage.Leaving) terms (less terms refl)) h
  stays-by (Eval terms) less h =
      silent-by (exchange_for (speaker body kinds bench) (Eval terms)) (exchange_for (speaker body kinds (with_lane lane new bench)) (Eval terms)) (plain-back can_eval eval-allows terms (less terms refl)) h
  stays-by (TakeValue terms patterns) less h =
      silent-by (exchange_for (speaker body kinds bench) (TakeValue terms patterns)) (exchange_for (speaker body kinds (with_lane lane new bench)) (TakeValue terms patterns)) (value-back patterns terms (less terms refl)) h
  stays-by (Do terms) less h =
      silent-by (exchange_for (speaker body kinds bench) (Do terms)) (exchange_for (speaker body kinds (with_lane lane new bench)) (Do terms)) (plain-back can_eval eval-allows terms (less terms refl)) h
  stays-by (TakeEvent terms patterns) less h =
      silent-by (exchange_for (speaker body kinds bench) (TakeEvent terms patterns)) (exchange_for (speaker body kinds (with_lane lane new bench)) (TakeEvent terms patterns)) (event-back patterns terms (less terms refl)) h
  stays-by (Acknowledge terms) less h =
      silent-by (exchange_for (speaker body kinds bench) (Acknowledge terms)) (exchange_for (speaker body kinds (with_lane lane new bench)) (Acknowledge terms)) (received-back terms (less terms refl)) h
  stays-by (Terminate terms) less h =
      silent-by (exchange_for (speaker body kinds bench) (Terminate terms)) (exchange_for (speaker body kinds (with_lane lane new bench)) (Terminate terms)) (plain-back is_live_at (stage-allows stage.Live) terms (less terms refl)) h

  -- the tool with a term that has another number stands on another lane
  apart-less : (does : ToolAction) → IsApart (tool_at lane bench) does → (terms : List Term) → number_among terms ≡ number_in does → LessAmong terms
  unfolding LessAmong LessFor
  apart-less does apart [] e = tt
  apart-less does apart (term ∷ terms) e = λ l found. by l found (with_lane-or lane l new bench)
    where
      by : (l : ℕ) → find_tool term bench ≡ Some l → (lane_at l (with_lane lane new bench) ≡ lane_at l bench) ⊎ ((lane_at l (with_lane lane new bench) ≡ new) × (l - 1 ≡ lane - 1)) →
          OfTools HasLess (tool_at l bench) (tool_at l (with_lane lane new bench))
      by l found (inl same) = subst (λ (x : Lane). OfTools HasLess (tool_at l bench) x.tool) (sym same) (of-self HasLess less-self (tool_at l bench))
      by l found (inr at) =
          let first = MatchOption-at_some (NoLane (has_tool term) bench) (IsFirstLane (has_tool term) bench) l found (first_lane-lowest (has_tool term) bench) in
          let has = subst (λ (k : ℕ). has_tool term (slice_index_or bench.lanes k unused) ≡ true) at.1 first.1 in
          let named = named-number term (tool_at lane bench) has in
          absurd (apart named.0 named.1 (sym e ∙ named.2))

  -- Another tool changes.
  pub stays-apart : (does : ToolAction) → IsApart (tool_at lane bench) does → StaysSilent body kinds bench (with_lane lane new bench) does
  stays-apart does apart = stays-by does (apart-less does apart)

  less-among : OfTools HasLess (tool_at lane bench) new.tool → (terms : List Term) → LessAmong terms
  unfolding LessAmong LessFor
  less-among h [] = tt
  less-among h (term ∷ terms) = λ l found. of-lanes HasLess less-self lane l new bench h

  -- The tool gives nothing that it didn't.
  pub stays-less : OfTools HasLess (tool_at lane bench) new.tool → (does : ToolAction) → StaysSilent body kinds bench (with_lane lane new bench) does
  stays-less h does = stays-by does (λ terms e. less-among h terms)

-- the changes of a lane

none-mapped : (change : Tool → Tool) (found : Option Tool) → is_none (option_map change found) ≡ is_none found
none-mapped change None = refl
none-mapped change (Some tool) = refl

kept-mapped : (change : Tool → Tool) → ((tool : Tool) → IsKept tool (change tool)) → (found : Option Tool) → OfTools IsKept found (option_map change found)
kept-mapped change keeps None = tt
kept-mapped change keeps (Some tool) = keeps tool

on_tool-kept : (change : Tool → Tool) → ((tool : Tool) → IsKept tool (change tool)) → (lane : Lane) → IsLaneKept lane (on_tool change lane)
on_tool-kept change keeps lane = record {
  free = ap (λ (b : Bool). not lane.up && b && is_empty lane.outs) (none-mapped change lane.tool);
  tool = kept-mapped change keeps lane.tool;
}

-- a lane with a tool isn't free

never-free : (up outs : Bool) → (not up && false && outs) ≡ false
never-free true outs = refl
never-free false outs = refl

taken : (lane : Lane) (tool : Tool) → lane.tool ≡ Some tool → is_free lane ≡ false
taken lane tool e = ap (λ (found : Option Tool). not lane.up && is_none found && is_empty lane.outs) e ∙ never-free lane.up (is_empty lane.outs)

held-less : (before new : Lane) (tool other : Tool) → before.tool ≡ Some tool → new.tool ≡ Some other → HasLess tool other → IsLaneKept before new × OfTools HasLess before.tool new.tool
held-less before new tool other e f h =
    let less : OfTools HasLess before.tool new.tool = subst (λ (found : Option Tool). OfTools HasLess found new.tool) (sym e) (subst (λ (found : Option Tool). OfTools HasLess (Some tool) found) (sym f) h) in
    (record { free = taken new other f ∙ sym (taken before tool e); tool = kept-of before.tool new.tool less }, less)

tool-there : (test : Tool → Bool) (found : Option Tool) → of_tool test found ≡ true → (tool : Tool) × (found ≡ Some tool)
tool-there test None e = cc
tool-there test (Some tool) e = (tool, refl)

live-there : (lane : ℕ) (bench : BenchState) → is_live_at lane bench ≡ true → (tool : Tool) × (tool_at lane bench ≡ Some tool)
live-there lane bench e = tool-there (λ tool. is_same_stage tool.stage stage.Live) (tool_at lane bench) e

-- something is to be handed out
outs-there : (outs : List Out) (out : Out) → slice_get outs 0 ≡ Some out → is_empty outs ≡ false
outs-there [] out e = absurd (none-some out e)
outs-there (first ∷ outs) out e = refl

full-free : (up tool : Bool) → (not up && tool && false) ≡ false
full-free true tool = refl
full-free false true = refl
full-free false false = refl

full : (lane : Lane) (out : Out) → slice_get lane.outs 0 ≡ Some out → is_free lane ≡ false
full lane out e = ap (λ (b : Bool). not lane.up && is_none lane.tool && b) (outs-there lane.outs out e) ∙ full-free lane.up (is_none lane.tool)

-- A bad line changes nothing.
pub bad-same : (declared : Bool) (lane : ℕ) (bench : BenchState) → (put_line declared Bad lane bench).bench ≡ bench
bad-same declared lane bench = by (dropped declared Bad (lane_at lane bench))
  where
    by : (why : Option Why) → (line_by why Bad lane bench).bench ≡ bench
    by None = refl
    by (Some why) = refl

module _ (body : Option Body) (kinds : List ToolKind) where
  -- A value or an event of a tool that comes or is taken makes no exchange possible, except for actions that name this tool.

  pub value-apart : (declared : Bool) (value : Term) (lane : ℕ) (bench : BenchState) (does : ToolAction) → IsApart (tool_at lane bench) does → StaysSilent body kinds bench (put_line declared (Value value) lane bench).bench does
  value-apart declared value lane bench does apart = by (dropped declared (Value value) (lane_at lane bench))
    where
      by : (why : Option Why) → StaysSilent body kinds bench (line_by why (Value value) lane bench).bench does
      by None = stays-apart body kinds lane (answered value (lane_at lane bench)) bench
          (on_tool-kept (λ (tool : Tool). record tool { eval = eval.Answered value }) (λ tool. record { number = refl; name = refl; stage = refl }) (lane_at lane bench)) does apart
      by (Some why) = λ h. h

  pub event-apart : (declared : Bool) (terms : List Term) (lane : ℕ) (bench : BenchState) (does : ToolAction) → IsApart (tool_at lane bench) does → StaysSilent body kinds bench (put_line declared (Event terms) lane bench).bench does
  event-apart declared terms lane bench does apart = by (dropped declared (Event terms) (lane_at lane bench))
    where
      by : (why : Option Why) → StaysSilent body kinds bench (line_by why (Event terms) lane bench).bench does
      by None = stays-apart body kinds lane (with_event terms (lane_at lane bench)) bench
          (on_tool-kept (λ (tool : Tool). record tool { events = tool.events ++ terms ∷ [] }) (λ tool. record { number = refl; name = refl; stage = refl }) (lane_at lane bench)) does apart
      by (Some why) = λ h. h

  pub value_taken-apart : (lane : ℕ) (bench : BenchState) (does : ToolAction) → IsApart (tool_at lane bench) does → StaysSilent body kinds bench (value_taken lane bench) does
  value_taken-apart lane bench does apart =
      stays-apart body kinds lane (without_answer (lane_at lane bench)) bench
      (on_tool-kept (λ (tool : Tool). record tool { eval = eval.Closed }) (λ tool. record { number = refl; name = refl; stage = refl }) (lane_at lane bench)) does apart

  pub event_taken-apart : (place lane : ℕ) (bench : BenchState) (does : ToolAction) → IsApart (tool_at lane bench) does → StaysSilent body kinds bench (event_taken place lane bench) does
  event_taken-apart place lane bench does apart =
      stays-apart body kinds lane (with_received place (lane_at lane bench)) bench
      (on_tool-kept (λ (tool : Tool). record tool { events = remove tool.events place; received = tool.received ++ event_at place tool.events ∷ [] }) (λ tool. record { number = refl; name = refl; stage = refl }) (lane_at lane bench)) does apart

  -- Nobody gains by what a tool is asked or told, nor by what is handed out on a lane that isn't free after it.

  pub asked-less : (terms : List Term) (lane : ℕ) (bench : BenchState) (does : ToolAction) → IsTrue (can_eval lane bench) → StaysSilent body kinds bench (with_told asked terms lane bench) does
  asked-less [] lane bench does can h = h
  asked-less (term ∷ terms) lane bench does can h =
      let there = live-there lane bench (and_parts (is_live_at lane bench) (of_tool (λ tool. is_closed tool.eval) (tool_at lane bench)) can).0 in
      let was = lane_at lane bench in
      let change : Tool → Tool = λ tool. record tool { eval = eval.Asked } in
      let less : HasLess there.0 (change there.0) = record { kept = record { number = refl; name = refl; stage = refl }; closed = λ e. absurd (false≢true e); answer = λ value e. absurd (none-some value e); events = refl; received = λ test place e. (place, e) } in
      let it = held-less was (with_question term was) there.0 (change there.0) there.1 (ap (option_map change) there.1) less in
      stays-less body kinds lane (with_question term was) bench it.0 it.1 does h

  pub told-less : (terms : List Term) (lane : ℕ) (bench : BenchState) (does : ToolAction) → IsTrue (can_eval lane bench) → StaysSilent body kinds bench (with_told told terms lane bench) does
  told-less [] lane bench does can h = h
  told-less (term ∷ terms) lane bench does can h =
      let there = live-there lane bench (and_parts (is_live_at lane bench) (of_tool (λ tool. is_closed tool.eval) (tool_at lane bench)) can).0 in
      let was = lane_at lane bench in
      let new : Lane = with_out (tool_line (codes "rec-do") (term ∷ [])) was in
      let it = held-less was new there.0 there.0 there.1 there.1 (less-self there.0) in
      stays-less body kinds lane new bench it.0 it.1 does h

  pub acknowledged-less : (place lane : ℕ) (bench : BenchState) (does : ToolAction) → IsTrue (can_ack place lane bench) → StaysSilent body kinds bench (acknowledged place lane bench) does
  acknowledged-less place lane bench does can =
      let there = live-there lane bench (and_parts (is_live_at lane bench) (nat_lt place (length (received_at lane bench))) can).0 in
      let was = lane_at lane bench in
      let other : Tool = record there.0 { received = remove there.0.received place } in
      let less : HasLess there.0 other = record { kept = record { number = refl; name = refl; stage = refl }; closed = λ e. e; answer = λ value e. e; events = refl; received = fewer-received there.0.received place } in
      let it = held-less was (with_acknowledged place was) there.0 other there.1 (ap (λ (found : Option Tool). (with_acknowledged_of place was found).tool) there.1) less in
      stays-less body kinds lane (with_acknowledged place was) bench it.0 it.1 does

  pub handed-less : (lane : ℕ) (bench : BenchState) (out : Out) (does : ToolAction) → lane - 1 < length bench.lanes → next_out lane bench ≡ Some out → is_free (lane_at lane (handed_out lane bench)) ≡ false → StaysSilent body kinds bench (handed_out lane bench) does
  handed-less lane bench out does within next after =
      let was = lane_at lane bench in
      let kept : IsLaneKept was (without_out was) = record {
        free = sym (ap is_free (on_lane-same without_out lane bench within)) ∙ after ∙ sym (full was out next);
        tool = of-self IsKept kept-self was.tool;
      } in
      stays-less body kinds lane (without_out was) bench kept (of-self HasLess less-self was.tool) does
