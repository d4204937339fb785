-- The inputs from lanes: a tool's line, the end of its program, and a failed write. Each has a reply and a bench after it.
use Rattle.std.specs.Prelude.{ℕ, Bool, true, false, not, ◌&&◌, List, [], ◌∷◌, ◌++◌, Option, Some, None, is_some, is_none, option_and_then, if◌then◌else◌}
use Rattle.tb_terms.specs.declared.term.Term.{Term}
use Rattle.tb_log.specs.declared.entry.Out.TheVariants.{End}
use Rattle.tb_log.specs.declared.entry.ToolLine.{ToolLine}
use Rattle.tb_log.specs.declared.entry.ToolLine.TheVariants.{Value, Event, Connect, Disconnect, Bad}
use Rattle.tb_log.specs.declared.entry.Reply.{Reply}
use Rattle.tb_log.specs.declared.entry.Reply.TheVariants.{Took, Dropped}
use Rattle.tb_log.specs.declared.entry.Why.{Why}
use Rattle.tb_log.specs.declared.entry.Why.TheVariants as why
use Rattle.tb_tools.specs.declared.stage.Stage.{Stage}
use Rattle.tb_tools.specs.declared.stage.Stage.TheVariants as stage
use Rattle.tb_tools.specs.declared.stage.Eval.{Eval}
use Rattle.tb_tools.specs.declared.stage.Eval.TheVariants as eval
use Rattle.tb_tools.specs.Lanes.{Tool, Lane, BenchState, lane_at, on_lane, on_tool, is_empty, is_open, new_tool, with_tool, with_next_tool}

-- the reply to an input, and the bench after it
pub record Answer : Type 0 where
  pub reply : Reply
  pub bench : BenchState

-- A lane is cleared. If it has ended and has no queued item, nothing changes. Otherwise, only its end is queued, and the lane has ended.
abbrev pub flushed : Lane → Lane
flushed lane = if lane.ended && is_empty lane.outs then lane else record lane { ended = true; outs = End ∷ [] }

abbrev pub departed_by : Tool → Stage → Option Tool
departed_by tool stage.Waiting = None
departed_by tool stage.Live = Some (record tool { stage = stage.Leaving })
departed_by tool stage.Leaving = Some tool

-- the tool after it departs: a live tool is leaving, a waiting tool is forgotten, and a leaving tool stays
abbrev pub departed : Option Tool → Option Tool
departed tool = option_and_then (λ tool. departed_by tool tool.stage) tool

-- the lane is cleared, and its tool departs
abbrev pub closed : Lane → Lane
closed lane = record { up = lane.up; ended = (flushed lane).ended; tool = departed lane.tool; outs = (flushed lane).outs }

-- the lane is cleared, its tool departs, and the lane isn't up
abbrev pub lost : Lane → Lane
lost lane = record (closed lane) { up = false }

-- the answer to an input that a lane takes if and only if it is up
abbrev pub while_up : (Lane → Lane) → ℕ → BenchState → Answer
while_up change lane bench =
    if (lane_at lane bench).up then record { reply = Took; bench = on_lane change lane bench }
    else record { reply = Dropped why.NotLive; bench = bench }

-- The program on a lane has ended.
abbrev pub gone : ℕ → BenchState → Answer
gone = while_up lost

-- An item couldn't be written to the program on a lane.
abbrev pub cut : ℕ → BenchState → Answer
cut = while_up closed

abbrev pub is_value : ToolLine → Bool
is_value (Value value) = true
is_value (Event terms) = false
is_value (Connect name) = false
is_value Disconnect = false
is_value Bad = false

abbrev pub is_connect : ToolLine → Bool
is_connect (Value value) = false
is_connect (Event terms) = false
is_connect (Connect name) = true
is_connect Disconnect = false
is_connect Bad = false

abbrev pub is_bad : ToolLine → Bool
is_bad (Value value) = false
is_bad (Event terms) = false
is_bad (Connect name) = false
is_bad Disconnect = false
is_bad Bad = true

-- the tool was asked to evaluate a term and hasn't answered
abbrev pub is_asked : Eval → Bool
is_asked eval.Closed = false
is_asked eval.Asked = true
is_asked (eval.Answered value) = false

abbrev pub has_asked : Option Tool → Bool
has_asked None = false
has_asked (Some tool) = is_asked tool.eval

-- a row of a table: a condition, and the reason to drop a line if the condition holds
pub record Row : Type 0 where
  pub holds : Bool
  pub why : Why

-- the reason of the first row whose condition holds
abbrev pub first_that_holds : List Row → Option Why
first_that_holds [] = None
first_that_holds (row ∷ rows) = if row.holds then Some row.why else first_that_holds rows

-- The reasons to drop a line on a lane: the first row that holds gives the reason. `declared` states whether the script declares the name
-- in a connect request.
abbrev pub drops : Bool → ToolLine → Lane → List Row
drops declared line lane =
    record { holds = not (is_open lane); why = why.NotLive }
    ∷ record { holds = is_bad line; why = why.Bad }
    ∷ record { holds = is_connect line && is_some lane.tool; why = why.Named }
    ∷ record { holds = is_connect line && not declared; why = why.Stranger }
    ∷ record { holds = not (is_connect line) && is_none lane.tool; why = why.NotLive }
    ∷ record { holds = is_value line && not (has_asked lane.tool); why = why.Unasked }
    ∷ []

-- the reason why a lane drops a line; none if the lane takes the line
abbrev pub dropped : Bool → ToolLine → Lane → Option Why
dropped declared line lane = first_that_holds (drops declared line lane)

-- the tool of the lane has answered with this value
abbrev pub answered : Term → Lane → Lane
answered value = on_tool (λ tool. record tool { eval = eval.Answered value })

-- the event is at the end of the waiting events
abbrev pub with_event : List Term → Lane → Lane
with_event terms = on_tool (λ tool. record tool { events = tool.events ++ terms ∷ [] })

-- The bench after a line that isn't dropped.
abbrev pub with_line : ToolLine → ℕ → BenchState → BenchState
with_line (Value value) lane bench = on_lane (answered value) lane bench
with_line (Event terms) lane bench = on_lane (with_event terms) lane bench
-- the lane has a waiting tool with the next number
with_line (Connect name) lane bench = with_next_tool (on_lane (with_tool (new_tool name bench.next_tool stage.Waiting)) lane bench)
with_line Disconnect lane bench = on_lane closed lane bench
with_line Bad lane bench = bench

abbrev pub line_by : Option Why → ToolLine → ℕ → BenchState → Answer
line_by None line lane bench = record { reply = Took; bench = with_line line lane bench }
line_by (Some why) line lane bench = record { reply = Dropped why; bench = bench }

-- The program on a lane has sent a line. A line that is dropped changes nothing.
abbrev pub put_line : Bool → ToolLine → ℕ → BenchState → Answer
put_line declared line lane bench = line_by (dropped declared line (lane_at lane bench)) line lane bench
