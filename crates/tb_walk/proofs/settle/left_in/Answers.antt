use Rattle.tb_process_steps.specs.Processes.{fresh}
use Rattle.tb_walk.proofs.EndingLemmas.{enters_so, leaves_so}
use Rattle.tb_walk.proofs.settle.left_in.Goals as goal

pub returns-then-any_there-clause-after : goal.returns-then-any_there-clause-after
returns-then-any_there-clause-after c =
    leaves_so (fresh c.args.code.now.body.tree) c.args.ticks c.args.row.now c.args.at c.before-2.result.now c.after.result.now c.before-2.ensures c.after.ensures
    c.args.frame c.first_part-first.result.bound c.first_part-first.ensures.bound c.any_there.result c.any_there.ensures c.requires.within c.if-any_there.true

pub returns-clause-after : goal.returns-clause-after
returns-clause-after c =
    enters_so (fresh c.args.code.now.body.tree) c.args.ticks c.args.row.now c.args.at c.before-2.result.now c.after.result.now c.before-2.ensures c.after.ensures
    c.args.frame c.first_part-first.result.bound c.first_part-first.ensures.bound c.any_there.result c.any_there.ensures c.requires.within
    c.first_part-first.result.falls c.first_part-first.result.next c.if-any_there.false c.first_part-first.ensures.falls c.if-first.false c.first_part-first.ensures.next
