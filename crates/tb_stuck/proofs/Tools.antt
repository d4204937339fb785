-- What becomes of the tools of a bench, and why a tool that can't speak with the region still can't.
use Rattle.std.proofs.Common.{◌≡◌, ℕ, ◌-◌, slice_index_or, slice_get, ◌≤◌, ◌⊎◌, inl, inr, List, [], ◌∷◌, Bool, true, false, Option, Some, None, if◌then◌else◌, refl, ap, sym, subst, ◌∙◌, arith}
use Rattle.std.specs.List.{All, list_any}
use Rattle.tb_terms.specs.declared.term.Term.{Term}
use Rattle.tb_terms.specs.declared.pattern.Pattern.{Pattern}
use Rattle.tb_terms.specs.Same.{is_same_terms}
use Rattle.tb_match.specs.Matches.{match_list}
use Rattle.tb_tools.specs.declared.stage.Stage.{Stage}
use Rattle.tb_tools.specs.declared.stage.Stage.TheVariants.{Waiting, Live, Leaving}
use Rattle.tb_tools.specs.declared.stage.Eval.{Eval}
use Rattle.tb_tools.specs.declared.stage.Eval.TheVariants.{Closed, Asked, Answered}
use Rattle.tb_tools.specs.Acts.{is_closed, without_out, handed_out}
use Rattle.tb_tools.specs.Inputs.{departed_by, departed, closed, lost, gone, cut}
use Rattle.tb_tools.specs.Lanes.{Tool, Lane, BenchState, lane_at, tool_at, is_same_stage, on_lane, term_of, unused}
use Rattle.tb_tools.proofs.Staying.{with_lane-or}
use Rattle.tb_log.specs.declared.entry.Reply.TheVariants.{Took, Dropped}
use Rattle.tb_log.specs.declared.entry.Why.TheVariants as why
use Rattle.tb_tools.specs.Inputs as lanes
use Rattle.tb_bus.specs.Buses.{Bus}
use Rattle.tb_bus.specs.Exchanges.{behind, name_of}
use Rattle.tb_tools.specs.Finding.{is_at}
use Rattle.tb_tools.specs.First.{IsThere, NoToolAt}
use Rattle.std.specs.Str.{bytes_eq}
use Rattle.std.proofs.lemmas.Bool.{and_parts, and_from}
use Rattle.tb_stuck.proofs.Names.{BenchNames, MayCome}
use Rattle.tb_bus.specs.declared.action.Action.TheVariants as action
use Rattle.tb_bus.specs.declared.action.OwnAction.TheVariants as own
use Rattle.tb_bus.specs.declared.action.ToolAction.{ToolAction}
use Rattle.tb_bus.specs.declared.action.ToolAction.TheVariants as tool_action
use Rattle.tb_stuck.specs.Stuck.{Region, MayBeDone, EachTool, OfTool, NobodyTakes, NobodyReceives, NoAnswer, CantSpeak}

module _ (region : Region) (bus : Bus) where
  -- no event that waits matches
  abbrev pub NoneMatch : List Pattern → Tool → Type 0
  NoneMatch patterns tool = All (λ event. match_list patterns event ≡ None) tool.events

  -- none of the events that were received has these terms
  abbrev pub NoneIs : List Term → Tool → Type 0
  NoneIs terms tool = list_any (is_same_terms terms) tool.received ≡ false

  -- a tool before an entry and after it
  pub record ToolGoes (before tool : Tool) : Type 0 where
    pub term : term_of tool ≡ term_of before
    pub leaving : before.stage ≡ Leaving → tool.stage ≡ Leaving
    pub asked : NobodyTakes bus region before → is_closed before.eval ≡ false → is_closed tool.eval ≡ false
    pub answer : (patterns : List Pattern) → NoAnswer bus region patterns before before.eval → NoAnswer bus region patterns tool tool.eval
    pub events : before.stage ≡ Leaving → (patterns : List Pattern) → NoneMatch patterns before → NoneMatch patterns tool
    pub received : (terms : List Term) → NobodyReceives bus region terms before → NoneIs terms before → NoneIs terms tool

  -- a tool on a lane after an entry was there before, or is new
  abbrev pub LaneGoes : Lane → Lane → Type 0
  LaneGoes old new = (tool : Tool) → new.tool ≡ Some tool → ((before : Tool) × (old.tool ≡ Some before) × ToolGoes before tool) ⊎ (bus.bench.next_tool ≤ tool.number)

  pub record BenchGoes (next : BenchState) : Type 0 where
    pub more : bus.bench.next_tool ≤ next.next_tool
    pub lanes : (lane : ℕ) → LaneGoes (lane_at lane bus.bench) (lane_at lane next)

  pub tool-stays : (tool : Tool) → ToolGoes tool tool
  tool-stays tool = record { term = refl; leaving = λ e. e; asked = λ k e. e; answer = λ patterns k. k; events = λ e patterns h. h; received = λ terms k h. h }

  pub lane-stays : (old new : Lane) → new.tool ≡ old.tool → LaneGoes old new
  lane-stays old new e tool f = inl (tool, sym e ∙ f, tool-stays tool)

  pub lane-empty : (old new : Lane) → new.tool ≡ None → LaneGoes old new
  lane-empty old new e tool f = absurd (let t : ◌≡◌ {A = Option Tool} None (Some tool) = sym e ∙ f in cc)

  pub on_lane-goes : (change : Lane → Lane) (lane : ℕ) → LaneGoes (lane_at lane bus.bench) (change (lane_at lane bus.bench)) → BenchGoes (on_lane change lane bus.bench)
  on_lane-goes change lane goes = record { more = omega arith; lanes = λ other. by other (with_lane-or lane other (change (lane_at lane bus.bench)) bus.bench) }
    where
      by : (other : ℕ) → (lane_at other (on_lane change lane bus.bench) ≡ lane_at other bus.bench) ⊎ ((lane_at other (on_lane change lane bus.bench) ≡ change (lane_at lane bus.bench)) × (other - 1 ≡ lane - 1)) →
          LaneGoes (lane_at other bus.bench) (lane_at other (on_lane change lane bus.bench))
      by other (inl same) = subst (LaneGoes (lane_at other bus.bench)) (sym same) (lane-stays (lane_at other bus.bench) (lane_at other bus.bench) refl)
      by other (inr is) = subst (LaneGoes (lane_at other bus.bench)) (sym is.0) (subst (λ (old : Lane). LaneGoes old (change (lane_at lane bus.bench))) (sym (ap (λ (n : ℕ). slice_index_or bus.bench.lanes n unused) is.1)) goes)

  -- what each tool of a term passes before, it passes after

  each-next : (P Q : Tool → Type 0) (next : BenchState) (term : Term) → ((before tool : Tool) → ToolGoes before tool → P before → Q tool) → BenchGoes next → EachTool P bus.bench term → EachTool Q next term
  each-next P Q next term keeps goes k = record {
    now = λ lane tool e f. by lane tool f (goes.lanes lane tool e);
    later = λ name number l. let more = goes.more in k.later name number (omega (arith, l, more));
  }
    where
      by : (lane : ℕ) (tool : Tool) → term_of tool ≡ term → ((before : Tool) × (tool_at lane bus.bench ≡ Some before) × ToolGoes before tool) ⊎ (bus.bench.next_tool ≤ tool.number) → Q tool
      by lane tool f (inl old) = keeps old.0 tool old.2 (k.now lane old.0 old.1 (sym old.2.term ∙ f))
      by lane tool f (inr new) = absurd (k.later tool.name tool.number new f)

  of-next : (P Q : Tool → Type 0) (next : BenchState) (terms : List Term) → ((before tool : Tool) → ToolGoes before tool → P before → Q tool) → BenchGoes next → OfTool P bus.bench terms → OfTool Q next terms
  of-next P Q next [] keeps goes k = tt
  of-next P Q next (term ∷ terms) keeps goes k = each-next P Q next term keeps goes k

  takes-next : (before tool : Tool) → ToolGoes before tool → NobodyTakes bus region before → NobodyTakes bus region tool
  takes-next before tool goes k terms patterns may = k terms patterns (subst (λ (t : Term). MayBeDone bus.program.bodies region (action.Own (own.Speak (tool_action.TakeValue (t ∷ terms) patterns)))) goes.term may)

  receives-next : (before tool : Tool) → ToolGoes before tool → (terms : List Term) → NobodyReceives bus region terms before → NobodyReceives bus region terms tool
  receives-next before tool goes terms k more patterns may = k more patterns (subst (λ (t : Term). MayBeDone bus.program.bodies region (action.Own (own.Speak (tool_action.TakeEvent (t ∷ more) patterns)))) goes.term may)

  asked-next : (before tool : Tool) → ToolGoes before tool → (before.stage ≡ Leaving) ⊎ ((is_closed before.eval ≡ false) × NobodyTakes bus region before) → (tool.stage ≡ Leaving) ⊎ ((is_closed tool.eval ≡ false) × NobodyTakes bus region tool)
  asked-next before tool goes (inl e) = inl (goes.leaving e)
  asked-next before tool goes (inr k) = inr (goes.asked k.1 k.0, takes-next before tool goes k.1)

  acked-next : (terms : List Term) (before tool : Tool) → ToolGoes before tool → (before.stage ≡ Leaving) ⊎ (NoneIs terms before × NobodyReceives bus region terms before) → (tool.stage ≡ Leaving) ⊎ (NoneIs terms tool × NobodyReceives bus region terms tool)
  acked-next terms before tool goes (inl e) = inl (goes.leaving e)
  acked-next terms before tool goes (inr k) = inr (goes.received terms k.1 k.0, receives-next before tool goes terms k.1)

  abbrev kind_of_tool : ℕ → List ℕ
  kind_of_tool tool = name_of (slice_get bus.program.tools tool)

  is-at : (name : List ℕ) (stage : Stage) (tool : Tool) → is_at name stage tool ≡ true → (bytes_eq tool.name name ≡ true) × (is_same_stage tool.stage stage ≡ true)
  is-at name stage tool e = let it = and_parts (bytes_eq tool.name name) (is_same_stage tool.stage stage) e in (it.0, it.1)

  at-is : (name : List ℕ) (stage : Stage) (tool : Tool) → bytes_eq tool.name name ≡ true → is_same_stage tool.stage stage ≡ true → is_at name stage tool ≡ true
  at-is name stage tool e f = and_from (bytes_eq tool.name name) (is_same_stage tool.stage stage) e f

  stage-waiting : (stage : Stage) → is_same_stage stage Waiting ≡ true → stage ≡ Waiting
  stage-waiting Waiting e = refl
  stage-waiting Live e = absurd cc
  stage-waiting Leaving e = absurd cc

  there-before : (next : BenchState) → BenchNames region bus next → (lane : ℕ) → IsThere next lane → IsThere bus.bench lane
  there-before next names lane there = let long = names.long in let l = there.1 in (there.0, omega (arith, l, long))

  none-there : (name : List ℕ) (before : Tool) (stage : Stage) (lane : ℕ) → before.stage ≡ stage → (stage ≡ Waiting → ⊥) → IsThere bus.bench lane → tool_at lane bus.bench ≡ Some before → bytes_eq before.name name ≡ true →
      NoToolAt name Live bus.bench → NoToolAt name Leaving bus.bench → ⊥
  none-there name before Waiting lane e w there is named live leaving = w refl
  none-there name before Live lane e w there is named live leaving = live lane before (there, is, at-is name Live before named (ap (λ (s : Stage). is_same_stage s Live) e))
  none-there name before Leaving lane e w there is named live leaving = leaving lane before (there, is, at-is name Leaving before named (ap (λ (s : Stage). is_same_stage s Leaving) e))

  abbrev NobodyBrings : (ℕ → ℕ → ToolAction) → ℕ → Type 0
  NobodyBrings brings tool = (other at : ℕ) → MayBeDone bus.program.bodies region (action.Own (own.Speak (brings other at))) → bytes_eq (kind_of_tool other) (kind_of_tool tool) ≡ false

  none-taken : (next : BenchState) → BenchNames region bus next → (tool lane : ℕ) (other : Tool) → IsThere next lane → tool_at lane next ≡ Some other → bytes_eq other.name (kind_of_tool tool) ≡ true → (other.stage ≡ Waiting → ⊥) →
      NoToolAt (kind_of_tool tool) Live bus.bench → NoToolAt (kind_of_tool tool) Leaving bus.bench → NobodyBrings tool_action.Execute tool → NobodyBrings tool_action.Connect tool → ⊥
  none-taken next names tool lane other there is named w live leaving starts connects =
      elim ((names.lanes lane).taken other is w) [
        | inl had ↦ none-there (kind_of_tool tool) had.before had.before.stage lane refl had.passes (there-before next names lane there) had.there (ap (λ (n : List ℕ). bytes_eq n (kind_of_tool tool)) had.named ∙ named) live leaving
        | inr may ↦ brought may may.may
      ]
    where
      brought : (may : MayCome region bus other.name) → MayBeDone bus.program.bodies region (action.Own (own.Speak (tool_action.Execute may.kind may.at))) ⊎ MayBeDone bus.program.bodies region (action.Own (own.Speak (tool_action.Connect may.kind may.at))) → ⊥
      brought may (inl done) = let t = starts may.kind may.at done in let u : bytes_eq (kind_of_tool may.kind) (kind_of_tool tool) ≡ true = ap (λ (n : List ℕ). bytes_eq n (kind_of_tool tool)) may.is ∙ named in cc
      brought may (inr done) = let t = connects may.kind may.at done in let u : bytes_eq (kind_of_tool may.kind) (kind_of_tool tool) ≡ true = ap (λ (n : List ℕ). bytes_eq n (kind_of_tool tool)) may.is ∙ named in cc

  -- So an action with a tool that can't come still can't.
  pub speak-next : (next : BenchState) → BenchGoes next → BenchNames region bus next → (does : ToolAction) → CantSpeak bus region does → CantSpeak (record bus { bench = next }) region does
  speak-next next goes names (tool_action.Execute tool slot) k = k
  speak-next next goes names (tool_action.Connect tool slot) k = (
    λ lane other is.
        let at = is-at (kind_of_tool tool) Waiting other is.2 in
        elim ((names.lanes lane).waiting other is.1 (stage-waiting other.stage at.1)) [
          | inl had ↦ k.0 lane had.before (there-before next names lane is.0, had.there, at-is (kind_of_tool tool) Waiting had.before (ap (λ (n : List ℕ). bytes_eq n (kind_of_tool tool)) had.named ∙ at.0) (ap (λ (s : Stage). is_same_stage s Waiting) had.passes))
          | inr free ↦ k.1 lane free.0 free.1
        ],
    λ lane opened none. let old = (names.lanes lane).vacant (opened, none) in k.1 lane old.0 old.1,
  )
  speak-next next goes names (tool_action.DisconnectAny tool slot) k = (
    λ lane other is. let at = is-at (kind_of_tool tool) Live other is.2 in
        none-taken next names tool lane other is.0 is.1 at.0 (λ w. (let t : is_same_stage Waiting Live ≡ true = subst (λ (s : Stage). is_same_stage s Live ≡ true) w at.1 in cc)) k.0 k.1 k.2 k.3,
    λ lane other is. let at = is-at (kind_of_tool tool) Leaving other is.2 in
        none-taken next names tool lane other is.0 is.1 at.0 (λ w. (let t : is_same_stage Waiting Leaving ≡ true = subst (λ (s : Stage). is_same_stage s Leaving ≡ true) w at.1 in cc)) k.0 k.1 k.2 k.3,
    k.2,
    k.3,
  )
  speak-next next goes names (tool_action.Disconnect terms) k = of-next (λ tool. ⊥) (λ tool. ⊥) next terms (λ before tool g e. e) goes k
  speak-next next goes names (tool_action.Eval terms) k =
      of-next (λ tool. (tool.stage ≡ Leaving) ⊎ ((is_closed tool.eval ≡ false) × NobodyTakes bus region tool)) (λ tool. (tool.stage ≡ Leaving) ⊎ ((is_closed tool.eval ≡ false) × NobodyTakes bus region tool)) next terms asked-next goes k
  speak-next next goes names (tool_action.Do terms) k =
      of-next (λ tool. (tool.stage ≡ Leaving) ⊎ ((is_closed tool.eval ≡ false) × NobodyTakes bus region tool)) (λ tool. (tool.stage ≡ Leaving) ⊎ ((is_closed tool.eval ≡ false) × NobodyTakes bus region tool)) next terms asked-next goes k
  speak-next next goes names (tool_action.TakeValue terms patterns) k =
      of-next (λ tool. NoAnswer bus region patterns tool tool.eval) (λ tool. NoAnswer (record bus { bench = next }) region patterns tool tool.eval) next terms (λ before tool g e. same tool tool.eval (g.answer patterns e)) goes k
    where
      same : (tool : Tool) (e : Eval) → NoAnswer bus region patterns tool e → NoAnswer (record bus { bench = next }) region patterns tool e
      same tool Closed h = h
      same tool Asked h = h
      same tool (Answered value) h = h
  speak-next next goes names (tool_action.TakeEvent terms patterns) k =
      of-next (λ tool. (tool.stage ≡ Leaving) × NoneMatch patterns tool) (λ tool. (tool.stage ≡ Leaving) × NoneMatch patterns tool) next terms (λ before tool g e. (g.leaving e.0, g.events e.0 patterns e.1)) goes k
  speak-next next goes names (tool_action.Acknowledge terms) k =
      of-next (λ tool. (tool.stage ≡ Leaving) ⊎ (NoneIs (behind terms) tool × NobodyReceives bus region (behind terms) tool))
      (λ tool. (tool.stage ≡ Leaving) ⊎ (NoneIs (behind terms) tool × NobodyReceives bus region (behind terms) tool)) next terms (acked-next (behind terms)) goes k
  speak-next next goes names (tool_action.Terminate terms) k = of-next (λ tool. tool.stage ≡ Leaving) (λ tool. tool.stage ≡ Leaving) next terms (λ before tool g e. g.leaving e) goes k

  -- outputs and ends

  pub handed-goes : (lane : ℕ) → BenchGoes (handed_out lane bus.bench)
  handed-goes lane = on_lane-goes without_out lane (lane-stays (lane_at lane bus.bench) (without_out (lane_at lane bus.bench)) refl)

  answer-leaving : (tool : Tool) (patterns : List Pattern) (e : Eval) → NoAnswer bus region patterns tool e → NoAnswer bus region patterns (record tool { stage = Leaving }) e
  answer-leaving tool patterns Closed h = h
  answer-leaving tool patterns Asked h = refl
  answer-leaving tool patterns (Answered value) h = h

  departed-goes : (tool : Tool) (stage : Stage) → tool.stage ≡ stage → (after : Tool) → departed_by tool stage ≡ Some after → ToolGoes tool after
  departed-goes tool Waiting e after f = absurd (let t : ◌≡◌ {A = Option Tool} None (Some after) = f in cc)
  departed-goes tool Live e after f =
      let same : record tool { stage = Leaving } ≡ after = let t : ◌≡◌ {A = Option Tool} (Some (record tool { stage = Leaving })) (Some after) = f in cc in
      subst (ToolGoes tool) same (record { term = refl; leaving = λ e. refl; asked = λ k e. e; answer = λ patterns k. answer-leaving tool patterns tool.eval k; events = λ e patterns h. h; received = λ terms k h. h })
  departed-goes tool Leaving e after f =
      let same : tool ≡ after = let t : ◌≡◌ {A = Option Tool} (Some tool) (Some after) = f in cc in
      subst (ToolGoes tool) same (tool-stays tool)

  leaves-goes : (old : Option Tool) (tool : Tool) → departed old ≡ Some tool → (before : Tool) × (old ≡ Some before) × ToolGoes before tool
  leaves-goes None tool e = absurd (let t : ◌≡◌ {A = Option Tool} None (Some tool) = e in cc)
  leaves-goes (Some before) tool e = (before, refl, departed-goes before before.stage refl tool e)

  pub closed-goes : (lane : Lane) → LaneGoes lane (closed lane)
  closed-goes lane tool e = inl (leaves-goes lane.tool tool e)

  lost-goes : (lane : Lane) → LaneGoes lane (lost lane)
  lost-goes lane tool e = inl (leaves-goes lane.tool tool e)

  pub bench-stays : BenchGoes bus.bench
  bench-stays = record { more = omega arith; lanes = λ lane. lane-stays (lane_at lane bus.bench) (lane_at lane bus.bench) refl }

  while-goes : (up : Bool) (change : Lane → Lane) (lane : ℕ) → BenchGoes (on_lane change lane bus.bench) →
      BenchGoes (let a : lanes.Answer = if up then record { reply = Took; bench = on_lane change lane bus.bench } else record { reply = Dropped why.NotLive; bench = bus.bench } in a.bench)
  while-goes true change lane goes = goes
  while-goes false change lane goes = bench-stays

  pub gone-goes : (lane : ℕ) → BenchGoes (gone lane bus.bench).bench
  gone-goes lane = while-goes (lane_at lane bus.bench).up lost lane (on_lane-goes lost lane (lost-goes (lane_at lane bus.bench)))

  pub cut-goes : (lane : ℕ) → BenchGoes (cut lane bus.bench).bench
  cut-goes lane = while-goes (lane_at lane bus.bench).up closed lane (on_lane-goes closed lane (closed-goes (lane_at lane bus.bench)))
