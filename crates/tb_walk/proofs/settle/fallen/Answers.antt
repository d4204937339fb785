use Rattle.std.proofs.Common.{Some}
use Rattle.tb_process_steps.specs.Processes.{fresh}
use Rattle.tb_walk.proofs.EndingLemmas.{falls_so}
use Rattle.tb_walk.proofs.settle.fallen.Goals as goal

pub returns-clause-after : goal.returns-clause-after
returns-clause-after c =
    falls_so (fresh c.args.code.now.body.tree) c.args.ticks c.args.row.now c.args.at c.before-2.result.now c.after.result.now c.before-2.ensures c.after.ensures
    (Some c.args.frame) c.what_ends-ending.result.fallen c.what_ends-ending.result.next c.what_ends-ending.ensures.rest
