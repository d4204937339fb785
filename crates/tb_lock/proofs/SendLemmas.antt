-- What a core holds may go to another thread.
use denote.Param.Send.{IsSend, IsSync, sendable, view_send, view_sync}
use denote.Param.SendFields.{declared_send, declared_sync, variants_send}
use denote.RattleType.{RattleType}
use Rattle.std.proofs.Crossing.{crosses, send as global_send}
use Rattle.tb_process_steps.specs.declared.walker.Walker.{Ghosts}
use Rattle.std.proofs.option.Option.TheSendSync.{the_send as option_send}
use Rattle.std.specs.contracts.option.Option as option
use Rattle.atomic_table.proofs.owned.Table.TheSendSync.{the_sync as table_sync}
use Rattle.tb_bells.specs.contracts.gate.Gate as gate
use Rattle.tb_lock.specs.contracts.notices.Notices as notices
use Rattle.tb_lock.specs.contracts.shared.Shared as shared
use Rattle.tb_lock.specs.contracts.shared.Shared.TheInside as shared_inside
use Rattle.tb_search.proofs.apart.Apart.TheSendSync.{the_send as apart_send}
use Rattle.sqlite_items.proofs.items.Items.TheSendSync.{the_send as items_send}
use Rattle.tb_terms.proofs.name.Name.TheSendSync.{the_send as name_send}
use Rattle.tb_terms.proofs.text.Text.TheSendSync.{the_send as text_send}
use Rattle.tb_log.specs.contracts.log.Log as log
use Rattle.tb_log.specs.contracts.entry.ToolLine as tool_line
use Rattle.tb_log.specs.contracts.entry.Input as input
use Rattle.tb_log.specs.contracts.entry.Out as out
use Rattle.tb_log.specs.contracts.entry.Label as label
use Rattle.tb_log.specs.contracts.kept.KeptStep as kept_step
use Rattle.tb_log.specs.contracts.kept.Kept as kept
use Rattle.tb_log.specs.contracts.kept.Other as other
use Rattle.tb_bus.specs.contracts.origin.Origin as origin
use Rattle.tb_bus.specs.contracts.action.OwnAction as own_action
use Rattle.tb_bus.specs.contracts.action.ToolAction as tool_action
use Rattle.tb_bus.specs.contracts.action.Action as action
use Rattle.tb_search.specs.contracts.living.Ready as ready
use Rattle.tb_search.specs.contracts.living.Living as living
use Rattle.tb_search.specs.contracts.marks.Marks as marks
use Rattle.tb_living.specs.contracts.buffers.Buffers as buffers
use Rattle.tb_core.specs.contracts.machine.Core as core
use Rattle.tb_core.specs.contracts.bus.LiveBus as live_bus
use Rattle.tb_core.specs.contracts.machine.Core.TheInside as core_inside
use Rattle.tb_process_steps.specs.contracts.fired.Left as left
use Rattle.tb_process_steps.specs.contracts.plan.Plan as plan
use Rattle.tb_process_steps.specs.contracts.rewriter.Rewriter as rewriter
use Rattle.tb_process_steps.specs.contracts.rewriter.RewriterWalker.TheImpl.{ghosts}
use Rattle.tb_tools.specs.contracts.handout.Handout as handout
use Rattle.tb_tools.specs.contracts.handout.KeptOut as kept_out
use Rattle.tb_tools.specs.contracts.events.Events as events
use Rattle.tb_tools.specs.contracts.stage.Eval as eval
use Rattle.tb_tools.specs.contracts.stage.Stage as stage
use Rattle.tb_tools.specs.contracts.tool.LaneTool.TheInside as lane_tool_inside
use Rattle.tb_tools.specs.contracts.tool.LaneTool as lane_tool
use Rattle.tb_tools.specs.contracts.lane.LaneRow as lane
use Rattle.tb_tools.specs.contracts.bench.Bench as bench
use Rattle.tb_notes.specs.contracts.inbox.Inbox as inbox
use Rattle.tb_index.proofs.index.Index.TheSendSync.{the_send as index_send}
use Rattle.tb_process_steps.proofs.SendLemmas.{number_send, byte_send, term_row, term_send, terms_send, texts_send, pattern_send, patterns_send, binds_send, program_send, rewriter_send, plan_send}

origin_send : IsSend origin.the_row
origin_send = declared_send origin.the_type (program_send, (texts_send, (number_send, tt)))

-- the log
tool_line_send : IsSend tool_line.the_row
tool_line_send = variants_send tool_line.enum ((term_send, tt), ((terms_send, tt), ((name_send, tt), (tt, (tt, tt)))))

input_send : IsSend input.the_row
input_send = variants_send input.enum (tt, (tt, ((byte_send, (tool_line_send, tt)), ((byte_send, tt), ((byte_send, tt), tt)))))

kept_step_send : IsSend kept_step.the_row
kept_step_send = declared_send kept_step.the_type (search sendable depth 60, (search sendable depth 40, (search sendable depth 40, (number_send, (number_send, tt)))))

kept_send : IsSend kept.the_row
kept_send = variants_send kept.enum ((kept_step_send, tt), ((kept_step_send, tt), (tt, ((number_send, tt), tt))))

out_row : IsSend out.the_field.row
out_row = search (sendable, text_send, term_row) depth 40

out_send : IsSend out.the_row
out_send = variants_send out.enum ((text_send, tt), ((term_send, tt), (tt, tt)))

label_send : IsSend label.the_row
label_send = declared_send label.the_type (search sendable depth 60, (search sendable depth 40, (search sendable depth 40, (terms_send, tt))))

other_send : IsSend other.the_row
other_send = variants_send other.enum ((label_send, tt), ((input_send, (search sendable depth 40, tt)), ((byte_send, (out_send, tt)), tt)))

log_send : IsSend log.the_row
log_send = search (sendable, crosses, kept_send, term_send, other_send) depth 40

-- notes and lanes
inbox_send : IsSend inbox.the_row
inbox_send = search (sendable, crosses, items_send, term_send, pattern_send) depth 40

handout_row : IsSend handout.the_field.row
handout_row = search (sendable, out_row) depth 40

kept_out_send : IsSend kept_out.the_row
kept_out_send = search (sendable, handout_row) depth 30

events_send : IsSend events.the_row
events_send = search (sendable, crosses, terms_send) depth 40

eval_row : IsSend eval.the_field.row
eval_row = search (sendable, term_row) depth 40

eval_send : IsSend eval.the_row
eval_send = variants_send eval.enum (tt, (tt, ((term_send, tt), tt)))

stage_send : IsSend stage.the_row
stage_send = search sendable depth 40

lane_tool_send : IsSend lane_tool.the_row
lane_tool_send = view_send _ _ _ _ _ (declared_send lane_tool_inside.the_type (number_send, (name_send, (term_send, (stage_send, (eval_send, (events_send, (events_send, tt))))))))

lane_send : IsSend lane.the_row
lane_send = search (sendable, crosses, lane_tool_send, kept_out_send) depth 40

bench_send : IsSend bench.the_row
bench_send = search (sendable, crosses, lane_send) depth 40

-- processes that are alive
tool_action_send : IsSend tool_action.the_row
tool_action_send =
    let n = number_send in let ts = terms_send in let ps = patterns_send in
    variants_send tool_action.enum ((n, (n, tt)), ((n, (n, tt)), ((n, (n, tt)), ((ts, tt), ((ts, tt), ((ts, (ps, tt)), ((ts, tt), ((ts, (ps, tt)), ((ts, tt), ((ts, tt), tt))))))))))

own_action_send : IsSend own_action.the_row
own_action_send =
    let n = number_send in let ts = terms_send in let ps = patterns_send in
    variants_send own_action.enum (tt, ((ts, (binds_send, tt)), ((term_send, tt), ((ts, tt), ((ps, tt), ((ps, tt), ((ps, tt), ((ps, tt), ((n, (ts, (n, tt))), ((tool_action_send, tt), ((term_send, tt), tt)))))))))))

action_send : IsSend action.the_row
action_send = variants_send action.enum ((own_action_send, tt), ((terms_send, tt), ((patterns_send, tt), tt)))

ready_send : IsSend ready.the_row
ready_send = declared_send ready.the_type (search sendable depth 20, (number_send, (action_send, tt)))

marks_send : IsSend marks.the_row
marks_send = search sendable depth 30

living_send : (W : RattleType) → IsSend W → IsSend (living.the_row W)
living_send W s = search (sendable, crosses, inbox_send, ready_send) depth 40

buffers_send : IsSend buffers.the_row
buffers_send = search (sendable, crosses, terms_send, patterns_send, binds_send) depth 40

-- waiting threads, and hints
gate_sync : IsSync gate.the_row
gate_sync = search (sendable, crosses) depth 40

notices_sync : IsSync notices.the_row
notices_sync = search (sendable, crosses) depth 40

module _ (W Plan Taken : RattleType) (g : Ghosts W.Denot Plan.Denot Taken.Denot) (w : IsSend W) (p : IsSend Plan) where
  live_bus_send : IsSend (live_bus.the_row W Plan Taken)
  live_bus_send = declared_send (live_bus.the_type W Plan Taken)
      (origin_send, (search (sendable, items_send) depth 20, (search (sendable, crosses, apart_send, living_send) depth 20, (search (sendable, crosses) depth 20, (search sendable depth 20, (search sendable depth 20, (marks_send, (bench_send, (index_send, (search (sendable, crosses) depth 40, (search (sendable, crosses) depth 20, (search sendable depth 20, tt))))))))))))

  pub core_send : IsSend (core.the_row W Plan Taken g)
  core_send = view_send _ _ _ _ _ (declared_send (core_inside.the_type W Plan Taken g) (global_send, (live_bus_send, (log_send, (search sendable depth 20, (buffers_send, tt))))))

  core_option_send : IsSend (option.the_row (core.the_row W Plan Taken g))
  core_option_send = option_send (core.the_row W Plan Taken g) core_send

  -- so threads may share a bus
  pub shared_sync : IsSync (shared.the_row W Plan Taken g)
  shared_sync = view_sync _ _ _ _ _ (declared_sync (shared_inside.the_type W Plan Taken g) (search (sendable, crosses, table_sync, core_option_send) depth 20, (gate_sync, (notices_sync, tt))))

-- and one over rewriters
pub bus_sync : IsSync (shared.the_row rewriter.the_row plan.the_row left.the_row ghosts)
bus_sync = shared_sync rewriter.the_row plan.the_row left.the_row ghosts rewriter_send plan_send
