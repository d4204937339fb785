use Rattle.std.proofs.Common.{None}
use Rattle.tb_process_steps.specs.Processes.{fresh}
use Rattle.tb_walk.specs.Helpers.Reads.{branch}
use Rattle.tb_walk.proofs.EndingLemmas.{ends_so, none_so}
use Rattle.tb_walk.proofs.settle.left_by.Goals as goal

pub returns-in-None-clause-after : goal.returns-in-None-clause-after
returns-in-None-clause-after c =
    ends_so (fresh c.args.code.now.body.tree) c.args.ticks c.args.row.now c.args.at (branch 0 0) c.node.result.now c.args.code.now.nodes None _
    c.args.code.now.numbered c.requires.within c.node.ensures.node c.in-None.is (none_so (fresh c.args.code.now.body.tree) c.args.ticks c.args.row.now c.args.at c.requires.within)
