use Rattle.std.proofs.Common.{◌≡◌, length, ap, ◌∙◌, arith}
use Rattle.tb_process_steps.specs.Processes.{fresh}
use Rattle.tb_code.specs.Positions.{size}
use Rattle.tb_code.proofs.Parts.{has_parts, frame_before, length-positions, op_here}
use Rattle.tb_code.proofs.code.Code.node.Goals as goal

pub node_of-requires : goal.node_of-requires
node_of-requires c =
    let same : length c.args.self.now.nodes ≡ size (fresh c.args.self.now.body.tree) = ap length c.args.self.now.numbered ∙ length-positions (fresh c.args.self.now.body.tree) in
    let there = c.requires in
    omega arith

pub returns-clause-op : goal.returns-clause-op
returns-clause-op c = op_here (fresh c.args.self.now.body.tree) c.args.self.now.nodes c.args.at c.node_of.result.now c.args.self.now.numbered c.node_of.ensures

pub returns-clause-parts : goal.returns-clause-parts
returns-clause-parts c = has_parts (fresh c.args.self.now.body.tree) c.args.self.now.nodes c.args.at c.node_of.result.now c.args.self.now.numbered c.requires c.node_of.ensures

pub returns-clause-frame : goal.returns-clause-frame
returns-clause-frame c = frame_before (fresh c.args.self.now.body.tree) c.args.self.now.nodes c.args.at c.node_of.result.now c.args.self.now.numbered c.requires c.node_of.ensures
