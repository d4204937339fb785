use Rattle.std.proofs.Common.{◌+◌, ◌<◌, List, remove, length, ap, ◌∙◌, arith}
use Rattle.tb_walk.specs.declared.branch.Branch.{Branch}
use Rattle.tb_walk.proofs.EndingLemmas.{removed_behind}
use Rattle.tb_walk.proofs.settle.remove_behind.Goals as goal

pub loop-turn-preserved : goal.loop-turn-preserved
loop-turn-preserved c =
    let within : c.args.at + 1 + c.loop-turn._turn < length c.args.row.now = (let h = c.requires in let t = c.loop-turn-test.true in omega arith) in
    c.remove.ensures.rest ∙ ap (λ (l : List Branch). remove l (c.args.at + 1)) c.loop-turn.invariant ∙ removed_behind c.args.row.now c.args.at c.loop-turn._turn within
