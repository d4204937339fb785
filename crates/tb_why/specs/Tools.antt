-- The reason why an atom that speaks with a tool, or sets a variable to a tool, can't happen: the first of its conditions that fails.
use Rattle.std.specs.Prelude.{ℕ, Bool, List, [], ◌∷◌, Option, Some, None, is_some, if◌then◌else◌}
use Rattle.tb_terms.specs.declared.term.Term.{Term}
use Rattle.tb_terms.specs.declared.pattern.Pattern.{Pattern}
use Rattle.tb_terms.specs.Sizes.{is_within_limits}
use Rattle.tb_body.specs.declared.program.Tool.{Tool as ToolKind}
use Rattle.tb_tools.specs.declared.stage.Stage.{Stage}
use Rattle.tb_tools.specs.declared.stage.Stage.TheVariants.{Leaving}
use Rattle.tb_tools.specs.Acts.{answer_at, can_eval, can_leave, is_live_at, is_taken_at}
use Rattle.tb_tools.specs.Finding.{find_tool, first_at, free_lane, oldest_event, oldest_received}
use Rattle.tb_tools.specs.Inputs.{has_asked}
use Rattle.tb_tools.specs.Lanes.{BenchState, Tool, tool_at, tool_term}
use Rattle.tb_bus.specs.Exchanges.{Setting, behind, term_on, value_on}
use Rattle.tb_bus.specs.Slots.{fits_slot}
use Rattle.tb_why.specs.declared.reason.Reason.{Reason}
use Rattle.tb_why.specs.declared.reason.Reason.TheVariants.{NoCommand, NoLane, NoneAt, ToolTooLarge, WrongTool, NoTool, AtStage, EvalOpen, AnswerWaits, Ended, NotAsked, NotAnswered, AnswerDiffers, NoEvent, NotReceived}

-- no reason if the condition holds, and this reason if not
abbrev pub unless : Bool → Reason → Option Reason
unless holds reason = if holds then None else Some reason

-- conditions: the term of the tool is within the limits, and the slot takes it
abbrev pub fits_reason : Setting → ℕ → Term → Option Reason
fits_reason setting slot term = if is_within_limits term then unless (fits_slot setting.body slot term) WrongTool else Some ToolTooLarge

-- conditions: a lane is free, and the slot takes the new tool
abbrev pub lane_reason : Setting → ℕ → List ℕ → Option ℕ → Option Reason
lane_reason setting slot name None = Some NoLane
lane_reason setting slot name (Some lane) = fits_reason setting slot (tool_term name setting.bench.next_tool)

-- conditions of `execute`: the tool has a command, a lane is free, and the slot takes the new tool; a script always declares the tool
abbrev pub command_reason : Setting → ℕ → List ℕ → Option (List ℕ) → Option Reason
command_reason setting slot name None = Some NoCommand
command_reason setting slot name (Some command) = lane_reason setting slot name (free_lane setting.bench)

abbrev pub execute_reason : Setting → ℕ → Option ToolKind → Option Reason
execute_reason setting slot None = Some NoCommand
execute_reason setting slot (Some kind) = command_reason setting slot kind.name kind.command

-- conditions of `rec-connect`, and of `rec-disconnect` for a variable: the bus has a tool of this name at the stage, and the slot takes the
-- one with the smallest number; a script always declares the tool
abbrev pub term_reason : Setting → ℕ → Option Term → Option Reason
term_reason setting slot None = Some WrongTool
term_reason setting slot (Some term) = fits_reason setting slot term

abbrev pub found_reason : Setting → Stage → ℕ → Option ℕ → Option Reason
found_reason setting stage slot None = Some (NoneAt stage)
found_reason setting stage slot (Some lane) = term_reason setting slot (term_on lane setting.bench)

abbrev pub kind_reason : Setting → Stage → ℕ → Option ToolKind → Option Reason
kind_reason setting stage slot None = Some (NoneAt stage)
kind_reason setting stage slot (Some kind) = found_reason setting stage slot (first_at kind.name stage setting.bench)

-- the stage of the tool of a lane; the lane always has one
abbrev pub stage_of : Option Tool → Stage
stage_of None = Leaving
stage_of (Some tool) = tool.stage

-- the reason that the tool of the lane is at its present stage
abbrev pub at_stage : BenchState → ℕ → Reason
at_stage bench lane = AtStage lane (stage_of (tool_at lane bench))

-- conditions: some lane has the tool, and the conditions on this lane hold
abbrev pub tool_reason : (ℕ → Option Reason) → Option ℕ → Option Reason
tool_reason on_lane None = Some NoTool
tool_reason on_lane (Some lane) = on_lane lane

-- the lane of the tool that is the first of the terms
abbrev pub lane_named : BenchState → List Term → Option ℕ
lane_named bench [] = None
lane_named bench (tool ∷ terms) = find_tool tool bench

-- condition: the tool of the lane is leaving
abbrev pub leaving_reason : BenchState → ℕ → Option Reason
leaving_reason bench lane = unless (can_leave lane bench) (at_stage bench lane)

-- condition: the tool of the lane is live
abbrev pub live_reason : BenchState → ℕ → Option Reason
live_reason bench lane = unless (is_live_at lane bench) (at_stage bench lane)

-- the reason if an evaluation is open: its answer hasn't come, or no process has received the answer
abbrev pub open_reason : BenchState → ℕ → Reason
open_reason bench lane = if is_some (answer_at lane bench) then AnswerWaits lane else EvalOpen lane

-- conditions: the tool of the lane is live, and no evaluation is open
abbrev pub idle_reason : BenchState → ℕ → Option Reason
idle_reason bench lane = if is_live_at lane bench then unless (can_eval lane bench) (open_reason bench lane) else Some (at_stage bench lane)

-- the reason if nothing that matches has come: `Ended` if the tool is leaving, because nothing more comes from it; if not, the given one
abbrev pub missing : BenchState → ℕ → Reason → Reason
missing bench lane reason = if can_leave lane bench then Ended lane else reason

-- conditions of `rec-value`: the tool is live or leaving, an evaluation is open, the tool has answered, and the answer matches
abbrev pub answer_reason : BenchState → List Pattern → ℕ → Option Term → Option Reason
answer_reason bench patterns lane None = Some (missing bench lane (if has_asked (tool_at lane bench) then NotAnswered lane else NotAsked lane))
answer_reason bench patterns lane (Some value) = unless (is_some (value_on patterns bench lane)) (AnswerDiffers lane)

abbrev pub value_reason : BenchState → List Pattern → ℕ → Option Reason
value_reason bench patterns lane = if is_taken_at lane bench then answer_reason bench patterns lane (answer_at lane bench) else Some (at_stage bench lane)

-- conditions of `rec-event`: the tool is live or leaving, and a waiting event of the tool matches
abbrev pub event_reason : BenchState → List Pattern → ℕ → Option Reason
event_reason bench patterns lane = if is_taken_at lane bench then unless (is_some (oldest_event patterns lane bench)) (missing bench lane (NoEvent lane)) else Some (at_stage bench lane)

-- conditions of `snd-ack-event`: the tool is live, and a received event has exactly the terms after the first
abbrev pub received_reason : BenchState → List Term → ℕ → Option Reason
received_reason bench terms lane = if is_live_at lane bench then unless (is_some (oldest_received (behind terms) lane bench)) (NotReceived lane) else Some (at_stage bench lane)
