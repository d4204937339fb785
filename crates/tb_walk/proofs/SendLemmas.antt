-- A walk, its code and what it takes may go to another thread.
use denote.Param.Send.{IsSend, sendable}
use denote.Param.SendFields.{declared_send}
use Rattle.std.proofs.Crossing.{crosses}
use Rattle.sqlite_items.proofs.boxed.Boxed.TheSendSync.{the_send as boxed_send}
use Rattle.sqlite_items.proofs.items.Items.TheSendSync.{the_send as items_send}
use Rattle.tb_process_steps.proofs.SendLemmas.{expr_row, setting_send, body_send, store_send}
use Rattle.tb_code.specs.contracts.node.Node as node
use Rattle.tb_code.specs.contracts.code.Code as code
use Rattle.tb_code.specs.contracts.entry.Entry as entry
use Rattle.tb_code.specs.contracts.entry.Span as span
use Rattle.tb_walk.specs.contracts.branch.Branch as branch
use Rattle.tb_walk.specs.contracts.sight.Sight as sight
use Rattle.tb_walk.specs.contracts.taken.Outcome as outcome
use Rattle.tb_walk.specs.contracts.taken.Taken as taken
use Rattle.tb_walk.specs.contracts.walk.Walk as walk

node_send : IsSend node.the_row
node_send = search (sendable, crosses, expr_row, setting_send) depth 40

entry_send : IsSend entry.the_row
entry_send = search sendable depth 30

span_send : IsSend span.the_row
span_send = search sendable depth 30

pub code_send : IsSend code.the_row
code_send = declared_send code.the_type (body_send, (items_send node.the_row node_send, (items_send entry.the_row entry_send, (items_send span.the_row span_send, tt))))

branch_send : IsSend branch.the_row
branch_send = search sendable depth 30

sight_send : IsSend sight.the_row
sight_send = search (sendable, crosses, store_send) depth 40

outcome_send : IsSend outcome.the_row
outcome_send = search (sendable, crosses, store_send) depth 40

pub taken_send : IsSend taken.the_row
taken_send = search (sendable, crosses, boxed_send, outcome_send) depth 40

pub walk_send : IsSend walk.the_row
walk_send = search (sendable, crosses, items_send, branch_send, store_send, sight_send) depth 40
