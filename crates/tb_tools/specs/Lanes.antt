-- The lanes of a bench: whether each lane is up and has ended, its tool, and its queued items; the initial bench, and the state of a
-- lane.
use Rattle.std.specs.Prelude.{◌≡◌, ℕ, ◌+◌, ◌-◌, pos, Bool, true, false, not, ◌&&◌, List, [], ◌∷◌, ◌++◌, length, map, replicate, slice_index_or, slice_set, Option, Some, None, is_none, option_map, if◌then◌else◌}
use Rattle.tb_terms.specs.declared.term.Term.{Term}
use Rattle.tb_terms.specs.declared.term.Term.TheVariants.{Int, Appl}
use Rattle.tb_log.specs.Shapes.{lane_count}
use Rattle.tb_log.specs.declared.entry.Out.{Out}
use Rattle.tb_log.specs.declared.entry.Out.TheVariants.{Start}
use Rattle.tb_tools.specs.declared.stage.Stage.{Stage}
use Rattle.tb_tools.specs.declared.stage.Stage.TheVariants as stage
use Rattle.tb_tools.specs.declared.stage.Eval.{Eval}
use Rattle.tb_tools.specs.declared.stage.Eval.TheVariants as eval
use Rattle.tb_tools.specs.declared.stage.LaneState.{LaneState}
use Rattle.tb_tools.specs.declared.stage.LaneState.TheVariants as state

-- a tool: its number and name, its stage, its evaluation, the waiting events in the order of arrival, and the events that were received
-- and not yet acknowledged, in the order in which they were received
pub record Tool : Type 0 where
  pub number : ℕ
  pub name : List ℕ
  pub stage : Stage
  pub eval : Eval
  pub events : List (List Term)
  pub received : List (List Term)

-- a lane: whether it is up, whether its end was queued after its last start, its tool, and the items that are queued for sending, in
-- order
pub record Lane : Type 0 where
  pub up : Bool
  pub ended : Bool
  pub tool : Option Tool
  pub outs : List Out

-- the lanes, of which the first has the number 1, and the number of the next tool
pub record BenchState : Type 0 where
  pub lanes : List Lane
  pub next_tool : ℕ

-- the greatest number that a tool can have
abbrev pub most_tools : ℕ
most_tools = 4000000

-- the term of a tool: its name with its number
abbrev pub tool_term : List ℕ → ℕ → Term
tool_term name number = Appl name (Int (pos number) ∷ [])

abbrev pub term_of : Tool → Term
term_of tool = tool_term tool.name tool.number

-- a lane that was never started
abbrev pub unused : Lane
unused = record { up = false; ended = false; tool = None; outs = [] }

abbrev pub is_same_stage : Stage → Stage → Bool
is_same_stage stage.Waiting stage.Waiting = true
is_same_stage stage.Waiting stage.Live = false
is_same_stage stage.Waiting stage.Leaving = false
is_same_stage stage.Live stage.Waiting = false
is_same_stage stage.Live stage.Live = true
is_same_stage stage.Live stage.Leaving = false
is_same_stage stage.Leaving stage.Waiting = false
is_same_stage stage.Leaving stage.Live = false
is_same_stage stage.Leaving stage.Leaving = true

-- the bench has all 16 lanes
abbrev pub HasLanes : BenchState → Type 0
HasLanes bench = length bench.lanes ≡ lane_count

-- the lane with this number
abbrev pub lane_at : ℕ → BenchState → Lane
lane_at lane bench = slice_index_or bench.lanes (lane - 1) unused

abbrev pub tool_at : ℕ → BenchState → Option Tool
tool_at lane bench = (lane_at lane bench).tool

-- there is a tool, and it passes the test
abbrev pub of_tool : (Tool → Bool) → Option Tool → Bool
of_tool test None = false
of_tool test (Some tool) = test tool

-- this lane has a tool at this stage
abbrev pub is_stage_at : Stage → ℕ → BenchState → Bool
is_stage_at stage lane bench = of_tool (λ tool. is_same_stage tool.stage stage) (tool_at lane bench)

-- the queued items of this lane
abbrev pub outs_at : ℕ → BenchState → List Out
outs_at lane bench = (lane_at lane bench).outs

-- this lane is replaced, and the others remain unchanged
abbrev pub with_lane : ℕ → Lane → BenchState → BenchState
with_lane lane new bench = record bench { lanes = slice_set bench.lanes (lane - 1) new }

-- this lane changes, and the others remain unchanged
abbrev pub on_lane : (Lane → Lane) → ℕ → BenchState → BenchState
on_lane change lane bench = with_lane lane (change (lane_at lane bench)) bench

-- the tool of a lane changes, if there is one
abbrev pub on_tool : (Tool → Tool) → Lane → Lane
on_tool change lane = record lane { tool = option_map change lane.tool }

-- the lane has this tool now
abbrev pub with_tool : Tool → Lane → Lane
with_tool tool lane = record lane { tool = Some tool }

abbrev pub without_tool : Lane → Lane
without_tool lane = record lane { tool = None }

-- the number of the next tool grows by 1
abbrev pub with_next_tool : BenchState → BenchState
with_next_tool bench = record bench { next_tool = bench.next_tool + 1 }

-- the item is queued after the others
abbrev pub with_out : Out → Lane → Lane
with_out out lane = record lane { outs = lane.outs ++ out ∷ [] }

abbrev pub is_empty : {A : Type 0} → List A → Bool
is_empty [] = true
is_empty (x ∷ xs) = false

-- the lane is up and hasn't ended
abbrev pub is_open : Lane → Bool
is_open lane = lane.up && not lane.ended

-- a lane can be started if and only if it isn't up, has no tool, and has no queued item
abbrev pub is_free : Lane → Bool
is_free lane = not lane.up && is_none lane.tool && is_empty lane.outs

-- after a start, the lane is up and hasn't ended, and the command is queued
abbrev pub started : List ℕ → Lane → Lane
started command lane = record lane { up = true; ended = false; outs = lane.outs ++ Start command ∷ [] }

-- a new tool: no evaluation is open, and there are no events
abbrev pub new_tool : List ℕ → ℕ → Stage → Tool
new_tool name number stage = record { number = number; name = name; stage = stage; eval = eval.Closed; events = []; received = [] }

-- The initial bench: the first lanes are started with the commands, and no lane has a tool.
abbrev pub opening : List (List ℕ) → BenchState
opening commands = record {
  lanes = map (λ command. started command unused) commands ++ replicate (lane_count - length commands) unused;
  next_tool = 1;
}

abbrev pub state_by_stage : Stage → LaneState
state_by_stage stage.Waiting = state.Waiting
state_by_stage stage.Live = state.Live
state_by_stage stage.Leaving = state.Leaving

-- the state of a lane without a tool
abbrev pub state_by_marks : Lane → LaneState
state_by_marks lane =
    if is_free lane then state.Free
    else (if is_open lane then state.Unnamed else state.Ending)

abbrev pub state_by_tool : Lane → Option Tool → LaneState
state_by_tool lane None = state_by_marks lane
state_by_tool lane (Some tool) = state_by_stage tool.stage

-- The state of a lane: the stage of its tool, if it has one. Without a tool: `Free` if the lane can be started; otherwise `Unnamed` if it
-- is up and hasn't ended; otherwise `Ending`.
abbrev pub lane_state : Lane → LaneState
lane_state lane = state_by_tool lane lane.tool
