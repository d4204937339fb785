use Rattle.std.proofs.Common.{◌≡◌, length, ap, ◌∙◌, arith}
use Rattle.tb_process_steps.specs.Processes.{fresh}
use Rattle.tb_code.specs.Positions.{size}
use Rattle.tb_code.proofs.Parts.{length-positions}
use Rattle.tb_code.proofs.code.Code.first.Goals as goal

pub overflow_add-result : goal.overflow_add-result
overflow_add-result c =
    let same : length c.args.self.now.nodes ≡ size (fresh c.args.self.now.body.tree) = ap length c.args.self.now.numbered ∙ length-positions (fresh c.args.self.now.body.tree) in
    let count = c.len-positions.ensures in
    let there = c.requires in
    omega arith
