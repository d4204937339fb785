use Rattle.tb_tools.specs.declared.stage.Stage.TheVariants as stage
use Rattle.tb_tools.specs.Lanes.{with_tool, without_tool, new_tool, started}
use Rattle.tb_tools.specs.Acts.{with_live_tool, with_question, without_answer, with_received, with_acknowledged, ended_with, last_line, without_out}
use Rattle.tb_tools.proofs.Staying.{on_lane-others}
use Rattle.tb_tools.proofs.laws.acts_leave_other_lanes.Goals as goal

pub returns-clause-execute : goal.returns-clause-execute
returns-clause-execute c = λ name command lane other bench. on_lane-others (λ old. with_tool (new_tool name bench.next_tool stage.Live) (started command old)) lane other bench

pub returns-clause-connect : goal.returns-clause-connect
returns-clause-connect c = on_lane-others with_live_tool

pub returns-clause-leave : goal.returns-clause-leave
returns-clause-leave c = on_lane-others without_tool

pub returns-clause-eval : goal.returns-clause-eval
returns-clause-eval c = λ term. on_lane-others (with_question term)

pub returns-clause-value : goal.returns-clause-value
returns-clause-value c = on_lane-others without_answer

pub returns-clause-event : goal.returns-clause-event
returns-clause-event c = λ place. on_lane-others (with_received place)

pub returns-clause-ack : goal.returns-clause-ack
returns-clause-ack c = λ place. on_lane-others (with_acknowledged place)

pub returns-clause-terminate : goal.returns-clause-terminate
returns-clause-terminate c = λ reason. on_lane-others (λ lane. without_tool (ended_with (last_line reason) lane))

pub returns-clause-take_out : goal.returns-clause-take_out
returns-clause-take_out c = on_lane-others without_out
