use Rattle.std.proofs.Common.{[], ◌∷◌, ◌++◌, refl, codes}
use Rattle.std.specs.List.{remove}
use Rattle.tb_tools.specs.declared.stage.Stage.TheVariants as stage
use Rattle.tb_tools.specs.declared.stage.Eval.TheVariants as eval
use Rattle.tb_tools.specs.Lanes.{with_out, with_tool, without_tool, new_tool, started}
use Rattle.tb_tools.specs.Acts.{event_at, with_live_tool, with_question, without_answer, with_received, with_acknowledged, ended_with, last_line, tool_line, without_out}
use Rattle.tb_tools.proofs.Numbering.{on_lane-numbered, on_tool-keeps, same-keeps, without_tool-keeps, acknowledged-keeps, new-numbered, down-numbered}
use Rattle.tb_tools.proofs.laws.acts_keep_numbers.Goals as goal

pub returns-clause-execute : goal.returns-clause-execute
returns-clause-execute c = λ name command lane bench. new-numbered (λ old. with_tool (new_tool name bench.next_tool stage.Live) (started command old)) name stage.Live lane bench (λ old. refl)

pub returns-clause-connect : goal.returns-clause-connect
returns-clause-connect c = on_lane-numbered with_live_tool (on_tool-keeps (λ tool. record tool { stage = stage.Live }) (λ tool. refl))

pub returns-clause-leave : goal.returns-clause-leave
returns-clause-leave c = on_lane-numbered without_tool (without_tool-keeps without_tool (λ lane. refl))

pub returns-clause-eval : goal.returns-clause-eval
returns-clause-eval c = λ term. on_lane-numbered (with_question term)
    (λ lane. on_tool-keeps (λ tool. record tool { eval = eval.Asked }) (λ tool. refl) (with_out (tool_line (codes "rec-eval") (term ∷ [])) lane))

pub returns-clause-value : goal.returns-clause-value
returns-clause-value c = on_lane-numbered without_answer (on_tool-keeps (λ tool. record tool { eval = eval.Closed }) (λ tool. refl))

pub returns-clause-do_action : goal.returns-clause-do_action
returns-clause-do_action c = λ term. on_lane-numbered (with_out (tool_line (codes "rec-do") (term ∷ []))) (same-keeps (with_out (tool_line (codes "rec-do") (term ∷ []))) (λ lane. refl))

pub returns-clause-event : goal.returns-clause-event
returns-clause-event c = λ place. on_lane-numbered (with_received place)
    (on_tool-keeps (λ tool. record tool { events = remove tool.events place; received = tool.received ++ event_at place tool.events ∷ [] }) (λ tool. refl))

pub returns-clause-ack : goal.returns-clause-ack
returns-clause-ack c = λ place. on_lane-numbered (with_acknowledged place) (acknowledged-keeps place)

pub returns-clause-terminate : goal.returns-clause-terminate
returns-clause-terminate c = λ reason. on_lane-numbered (λ lane. without_tool (ended_with (last_line reason) lane)) (without_tool-keeps (λ lane. without_tool (ended_with (last_line reason) lane)) (λ lane. refl))

pub returns-clause-down : goal.returns-clause-down
returns-clause-down c = down-numbered

pub returns-clause-take_out : goal.returns-clause-take_out
returns-clause-take_out c = on_lane-numbered without_out (same-keeps without_out (λ lane. refl))
