use Rattle.std.proofs.Common.{List, sym, subst}
use Rattle.tb_process_steps.specs.Processes.{fresh}
use Rattle.tb_walk.specs.Helpers.Reads.{branch}
use Rattle.tb_walk.specs.Helpers.Takings.{IsSettled, row_after}
use Rattle.tb_walk.specs.declared.branch.Branch.{Branch}
use Rattle.tb_walk.specs.declared.settle.Step.TheVariants as step
use Rattle.tb_walk.proofs.EndingLemmas.{end_settles, settled_on}
use Rattle.tb_walk.proofs.TakeLemmas.{ended_begins, entered_begins, left_ended, left_entered}
use Rattle.tb_walk.proofs.take.step_by.Goals as goal

pub left_by-requires-clause-within : goal.left_by-requires-clause-within
left_by-requires-clause-within c = c.requires.0

pub left_by-requires-clause-there : goal.left_by-requires-clause-there
left_by-requires-clause-there c = λ b h. (c.requires.1 b h).0

pub parted-requires-clause-within : goal.parted-requires-clause-within
parted-requires-clause-within c = c.requires.0

pub parted-requires-clause-there : goal.parted-requires-clause-there
parted-requires-clause-there c = λ b h. (c.requires.1 b h).0

pub returns-in-Ended : goal.returns-in-Ended
returns-in-Ended c = λ b here.
    (let whole = fresh c.args.code.now.body.tree in
    let row = c.args.row.now in
    let sight = c.args.sight.now in
    let e = left_ended whole c.args.ticks b sight.position sight.behind (c.requires.1 b here).1 c.in-Ended.is in
    let after = end_settles whole c.args.ticks row sight.branch (row_after row c.left_by.result) (λ d h. ended_begins whole c.args.ticks d sight.position sight.behind (c.requires.1 d h).1 c.in-Ended.is) c.left_by.ensures.after in
    subst (λ (l : List Branch). IsSettled whole c.args.ticks row sight.branch l c.left_by.result) (sym e) (record { within = c.left_by.ensures.within; after = after }))

pub returns-in-Entered : goal.returns-in-Entered
returns-in-Entered c = λ b here.
    (let whole = fresh c.args.code.now.body.tree in
    let row = c.args.row.now in
    let sight = c.args.sight.now in
    let next = branch c.in-Entered.position c.args.ticks in
    let e = left_entered whole c.args.ticks b sight.position sight.behind (c.requires.1 b here).1 c.in-Entered.position c.in-Entered.is in
    let settled = settled_on whole c.args.ticks row sight.branch next (λ d h. entered_begins whole c.args.ticks d sight.position sight.behind (c.requires.1 d h).1 c.in-Entered.position c.in-Entered.is) c.requires.0 in
    subst (λ (l : List Branch). IsSettled whole c.args.ticks row sight.branch l (step.Put sight.branch next)) (sym e) settled)
