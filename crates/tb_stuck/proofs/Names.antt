-- The names and stages of the tools of a bench, and which lanes are open, after a change.
use Rattle.std.proofs.Common.{◌≡◌, ℕ, ◌-◌, ◌⊎◌, inl, inr, List, [], ◌∷◌, length, slice_get, slice_index_or, Bool, true, false, not, ◌&&◌, Option, Some, None, option_map, if◌then◌else◌, refl, ap, sym, subst, ◌∙◌}
use Rattle.std.proofs.lemmas.List.{length-set}
use Rattle.tb_tools.specs.declared.stage.Stage.{Stage}
use Rattle.tb_tools.specs.declared.stage.Stage.TheVariants.{Waiting, Live, Leaving}
use Rattle.tb_tools.specs.Acts.{without_out, handed_out}
use Rattle.tb_tools.specs.Inputs as lanes
use Rattle.tb_tools.specs.Inputs.{departed_by, departed, closed, lost, gone, cut}
use Rattle.tb_log.specs.declared.entry.Out.TheVariants.{End}
use Rattle.tb_log.specs.declared.entry.Reply.TheVariants.{Took, Dropped}
use Rattle.tb_log.specs.declared.entry.Why.TheVariants as why
use Rattle.tb_tools.specs.Lanes.{Tool, Lane, BenchState, lane_at, on_lane, is_open, is_empty, unused, with_next_tool}
use Rattle.tb_tools.proofs.Staying.{with_lane-or}
use Rattle.tb_bus.specs.Buses.{Bus}
use Rattle.tb_bus.specs.Exchanges.{name_of}
use Rattle.tb_bus.specs.declared.action.Action.TheVariants as action
use Rattle.tb_bus.specs.declared.action.OwnAction.TheVariants as own
use Rattle.tb_bus.specs.declared.action.ToolAction.TheVariants as tool_action
use Rattle.tb_stuck.specs.Stuck.{Region, MayBeDone}
use Rattle.tb_stuck.proofs.Held.{IsShut}

module _ (region : Region) (bus : Bus) where
  -- a process outside may start or connect a tool of this name
  pub record MayCome (name : List ℕ) : Type 0 where
    pub kind : ℕ
    pub at : ℕ
    pub may : MayBeDone bus.program.bodies region (action.Own (own.Speak (tool_action.Execute kind at))) ⊎ MayBeDone bus.program.bodies region (action.Own (own.Speak (tool_action.Connect kind at)))
    pub is : name_of (slice_get bus.program.tools kind) ≡ name

  -- the lane had this tool, by the name, at a stage that passes
  pub record Had (Passes : Stage → Type 0) (old : Lane) (name : List ℕ) : Type 0 where
    pub before : Tool
    pub there : old.tool ≡ Some before
    pub passes : Passes before.stage
    pub named : before.name ≡ name

  abbrev pub IsWaiting : Stage → Type 0
  IsWaiting stage = stage ≡ Waiting

  abbrev pub IsTaken : Stage → Type 0
  IsTaken stage = stage ≡ Waiting → ⊥

  abbrev pub Vacant : Lane → Type 0
  Vacant lane = (is_open lane ≡ true) × (lane.tool ≡ None)

  abbrev pub ShutLane : Lane → Type 0
  ShutLane lane = (tool : Tool) → lane.tool ≡ Some tool → tool.stage ≡ Leaving → is_open lane ≡ false

  pub record LaneNames (old new : Lane) : Type 0 where
    pub vacant : Vacant new → Vacant old
    pub waiting : (tool : Tool) → new.tool ≡ Some tool → tool.stage ≡ Waiting → Had IsWaiting old tool.name ⊎ Vacant old
    pub taken : (tool : Tool) → new.tool ≡ Some tool → IsTaken tool.stage → Had IsTaken old tool.name ⊎ MayCome tool.name
    pub shut : ShutLane new

  pub record BenchNames (next : BenchState) : Type 0 where
    pub long : length next.lanes ≡ length bus.bench.lanes
    pub lanes : (lane : ℕ) → LaneNames (lane_at lane bus.bench) (lane_at lane next)

  -- the tool keeps its name and stage, and the lane stays as open as it is
  pub names-kept : (old new : Lane) → ShutLane old → is_open new ≡ is_open old → ((tool : Tool) → new.tool ≡ Some tool → (before : Tool) × (old.tool ≡ Some before) × (before.stage ≡ tool.stage) × (before.name ≡ tool.name)) →
      (new.tool ≡ None → old.tool ≡ None) → LaneNames old new
  names-kept old new shut opens has none = record {
    vacant = λ v. (sym opens ∙ v.0, none v.1);
    waiting = λ tool e w. let it = has tool e in inl (record { before = it.0; there = it.1; passes = it.2 ∙ w; named = it.3 });
    taken = λ tool e w. let it = has tool e in inl (record { before = it.0; there = it.1; passes = λ x. w (sym it.2 ∙ x); named = it.3 });
    shut = λ tool e l. let it = has tool e in opens ∙ shut it.0 it.1 (it.2 ∙ l);
  }

  pub names-stay : (old new : Lane) → ShutLane old → is_open new ≡ is_open old → new.tool ≡ old.tool → LaneNames old new
  names-stay old new shut opens same = names-kept old new shut opens (λ tool e. (tool, sym same ∙ e, refl, refl)) (λ e. sym same ∙ e)

  map-had : (o : Option Tool) (change : Tool → Tool) → ((tool : Tool) → (tool.stage ≡ (change tool).stage) × (tool.name ≡ (change tool).name)) → (tool : Tool) → option_map change o ≡ Some tool →
      (before : Tool) × (o ≡ Some before) × (before.stage ≡ tool.stage) × (before.name ≡ tool.name)
  map-had None change keeps tool e = absurd (let t : ◌≡◌ {A = Option Tool} None (Some tool) = e in cc)
  map-had (Some before) change keeps tool e =
      let same : change before ≡ tool = let t : ◌≡◌ {A = Option Tool} (Some (change before)) (Some tool) = e in cc in
      (before, refl, (keeps before).0 ∙ ap (λ (t : Tool). t.stage) same, (keeps before).1 ∙ ap (λ (t : Tool). t.name) same)

  map-none : (o : Option Tool) (change : Tool → Tool) → option_map change o ≡ None → o ≡ None
  map-none None change e = refl
  map-none (Some before) change e = absurd (let t : ◌≡◌ {A = Option Tool} (Some (change before)) None = e in cc)

  -- the tool changes, and keeps its name and stage
  pub names-mapped : (old new : Lane) (change : Tool → Tool) → ShutLane old → is_open new ≡ is_open old → new.tool ≡ option_map change old.tool → ((tool : Tool) → (tool.stage ≡ (change tool).stage) × (tool.name ≡ (change tool).name)) → LaneNames old new
  names-mapped old new change shut opens is keeps =
      names-kept old new shut opens (λ tool e. map-had old.tool change keeps tool (sym is ∙ e)) (λ e. map-none old.tool change (sym is ∙ e))

  -- the tool has left, and the lane isn't open
  pub names-left : (old new : Lane) → new.tool ≡ None → is_open new ≡ false → LaneNames old new
  names-left old new none ended = record {
    vacant = λ v. absurd (let t = v.0 in cc);
    waiting = λ tool e w. absurd (let t : ◌≡◌ {A = Option Tool} None (Some tool) = sym none ∙ e in cc);
    taken = λ tool e w. absurd (let t : ◌≡◌ {A = Option Tool} None (Some tool) = sym none ∙ e in cc);
    shut = λ tool e l. ended;
  }

  -- the lane has a new tool, which waits or is live
  pub names-live : (old new : Lane) (tool : Tool) → new.tool ≡ Some tool → tool.stage ≡ Live → Had IsTaken old tool.name ⊎ MayCome tool.name → LaneNames old new
  names-live old new tool is live may = record {
    vacant = λ v. absurd (let t : ◌≡◌ {A = Option Tool} (Some tool) None = sym is ∙ v.1 in cc);
    waiting = λ other e w. absurd (let t : ◌≡◌ {A = Option Tool} (Some tool) (Some other) = sym is ∙ e in
        let same : tool ≡ other = cc in let u : ◌≡◌ {A = Stage} Live Waiting = sym live ∙ ap (λ (t : Tool). t.stage) same ∙ w in cc);
    taken = λ other e w. let same : tool ≡ other = (let t : ◌≡◌ {A = Option Tool} (Some tool) (Some other) = sym is ∙ e in cc) in
        subst (λ (t : Tool). Had IsTaken old t.name ⊎ MayCome t.name) same may;
    shut = λ other e l. absurd (let t : ◌≡◌ {A = Option Tool} (Some tool) (Some other) = sym is ∙ e in
        let same : tool ≡ other = cc in let u : ◌≡◌ {A = Stage} Live Leaving = sym live ∙ ap (λ (t : Tool). t.stage) same ∙ l in cc);
  }

  pub names-waiting : (old new : Lane) (tool : Tool) → new.tool ≡ Some tool → tool.stage ≡ Waiting → Vacant old → LaneNames old new
  names-waiting old new tool is wait free = record {
    vacant = λ v. absurd (let t : ◌≡◌ {A = Option Tool} (Some tool) None = sym is ∙ v.1 in cc);
    waiting = λ other e w. inr free;
    taken = λ other e w. absurd (let t : ◌≡◌ {A = Option Tool} (Some tool) (Some other) = sym is ∙ e in
        let same : tool ≡ other = cc in w (sym (ap (λ (t : Tool). t.stage) same) ∙ wait));
    shut = λ other e l. absurd (let t : ◌≡◌ {A = Option Tool} (Some tool) (Some other) = sym is ∙ e in
        let same : tool ≡ other = cc in let u : ◌≡◌ {A = Stage} Waiting Leaving = sym wait ∙ ap (λ (t : Tool). t.stage) same ∙ l in cc);
  }

  -- a lane that is closed

  departs : (before : Tool) (stage : Stage) (tool : Tool) → before.stage ≡ stage → departed_by before stage ≡ Some tool → IsTaken before.stage × (before.name ≡ tool.name) × (tool.stage ≡ Leaving)
  departs before Waiting tool e f = absurd (let t : ◌≡◌ {A = Option Tool} None (Some tool) = f in cc)
  departs before Live tool e f =
      let same : record before { stage = Leaving } ≡ tool = let t : ◌≡◌ {A = Option Tool} (Some (record before { stage = Leaving })) (Some tool) = f in cc in
      (λ w. (let u : ◌≡◌ {A = Stage} Live Waiting = sym e ∙ w in cc), ap (λ (t : Tool). t.name) same, sym (ap (λ (t : Tool). t.stage) same))
  departs before Leaving tool e f =
      let same : before ≡ tool = let t : ◌≡◌ {A = Option Tool} (Some before) (Some tool) = f in cc in
      (λ w. (let u : ◌≡◌ {A = Stage} Leaving Waiting = sym e ∙ w in cc), ap (λ (t : Tool). t.name) same, sym (ap (λ (t : Tool). t.stage) same) ∙ e)

  pub names-closed : (old new : Lane) → is_open new ≡ false → new.tool ≡ departed old.tool → LaneNames old new
  names-closed old new ended is = record {
    vacant = λ v. absurd (let t = v.0 in cc);
    waiting = λ tool e w. absurd (let it = by old.tool tool refl (sym is ∙ e) in let u : ◌≡◌ {A = Stage} Leaving Waiting = sym it.1 ∙ w in cc);
    taken = λ tool e w. inl (by old.tool tool refl (sym is ∙ e)).0;
    shut = λ tool e l. ended;
  }
    where
      by : (o : Option Tool) (tool : Tool) → old.tool ≡ o → departed o ≡ Some tool → Had IsTaken old tool.name × (tool.stage ≡ Leaving)
      by None tool e f = absurd (let t : ◌≡◌ {A = Option Tool} None (Some tool) = f in cc)
      by (Some before) tool e f = let it = departs before before.stage tool refl f in (record { before = before; there = e; passes = it.0; named = it.1 }, it.2)

  -- benches

  pub names-same : IsShut bus.bench → BenchNames bus.bench
  names-same shut = record { long = refl; lanes = λ lane. names-stay (lane_at lane bus.bench) (lane_at lane bus.bench) (shut lane) refl refl }

  pub on_lane-names : IsShut bus.bench → (change : Lane → Lane) (lane : ℕ) → LaneNames (lane_at lane bus.bench) (change (lane_at lane bus.bench)) → BenchNames (on_lane change lane bus.bench)
  on_lane-names shut change lane goes = record {
    long = length-set bus.bench.lanes (lane - 1) (change (lane_at lane bus.bench));
    lanes = λ other. by other (with_lane-or lane other (change (lane_at lane bus.bench)) bus.bench);
  }
    where
      by : (other : ℕ) → (lane_at other (on_lane change lane bus.bench) ≡ lane_at other bus.bench) ⊎ ((lane_at other (on_lane change lane bus.bench) ≡ change (lane_at lane bus.bench)) × (other - 1 ≡ lane - 1)) →
          LaneNames (lane_at other bus.bench) (lane_at other (on_lane change lane bus.bench))
      by other (inl same) = subst (LaneNames (lane_at other bus.bench)) (sym same) (names-stay (lane_at other bus.bench) (lane_at other bus.bench) (shut other) refl refl)
      by other (inr is) = subst (LaneNames (lane_at other bus.bench)) (sym is.0)
          (subst (λ (old : Lane). LaneNames old (change (lane_at lane bus.bench))) (sym (ap (λ (n : ℕ). slice_index_or bus.bench.lanes n unused) is.1)) goes)

  pub next-names : (bench : BenchState) → BenchNames bench → BenchNames (with_next_tool bench)
  next-names bench goes = record { long = goes.long; lanes = goes.lanes }

  pub names-shut : (next : BenchState) → BenchNames next → IsShut next
  names-shut next goes lane = (goes.lanes lane).shut

  -- a lane that has ended isn't open
  pub ended-shut : (up ended : Bool) → ended ≡ true → (up && not ended) ≡ false
  ended-shut true true e = refl
  ended-shut true false e = absurd cc
  ended-shut false ended e = refl

  flushed-ended : (lane : Lane) (ended empty : Bool) → lane.ended ≡ ended → (let l : Lane = if ended && empty then lane else record lane { ended = true; outs = End ∷ [] } in l.ended) ≡ true
  flushed-ended lane true true e = e
  flushed-ended lane true false e = refl
  flushed-ended lane false empty e = refl

  pub closed-shut : (lane : Lane) → is_open (closed lane) ≡ false
  closed-shut lane = ended-shut lane.up (closed lane).ended (flushed-ended lane lane.ended (is_empty lane.outs) refl)

  -- outputs and ends

  pub handed-names : IsShut bus.bench → (lane : ℕ) → BenchNames (handed_out lane bus.bench)
  handed-names shut lane = on_lane-names shut without_out lane (names-stay (lane_at lane bus.bench) (without_out (lane_at lane bus.bench)) (shut lane) refl refl)

  while-names : IsShut bus.bench → (up : Bool) (change : Lane → Lane) (lane : ℕ) → BenchNames (on_lane change lane bus.bench) →
      BenchNames (let a : lanes.Answer = if up then record { reply = Took; bench = on_lane change lane bus.bench } else record { reply = Dropped why.NotLive; bench = bus.bench } in a.bench)
  while-names shut true change lane goes = goes
  while-names shut false change lane goes = names-same shut

  pub gone-names : IsShut bus.bench → (lane : ℕ) → BenchNames (gone lane bus.bench).bench
  gone-names shut lane = while-names shut (lane_at lane bus.bench).up lost lane (on_lane-names shut lost lane (names-closed (lane_at lane bus.bench) (lost (lane_at lane bus.bench)) refl refl))

  pub cut-names : IsShut bus.bench → (lane : ℕ) → BenchNames (cut lane bus.bench).bench
  cut-names shut lane = while-names shut (lane_at lane bus.bench).up closed lane (on_lane-names shut closed lane (names-closed (lane_at lane bus.bench) (closed (lane_at lane bus.bench)) (closed-shut (lane_at lane bus.bench)) refl))
