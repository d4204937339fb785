use Rattle.tb_process_steps.specs.Processes.{fresh}
use Rattle.tb_code.specs.Positions.{node}
use Rattle.tb_code.specs.declared.node.Op.TheVariants as op
use Rattle.tb_code.proofs.Tables.{added_two, added_until}
use Rattle.tb_code.proofs.code.+add_tree.Goals as goal

pub add_two-returns : goal.add_two-returns
add_two-returns t c =
    added_two c.args.two c.args.nodes.now c.open_node.new.nodes c.add_tree.new.nodes c.add_tree-2.new.nodes c.set_node.new.nodes (node (op.At 0) c.args.frame) c.op.result
    (fresh c.args.x.now) (fresh c.args.y.now) c.frame_of_first.result c.args.frame c.in_ok-here.here c.len-right.result
    c.in_ok-here.ensures.here c.in_ok-here.ensures.opened c.frame_of_first.ensures c.in_ok-add_tree.ensures c.len-right.ensures c.in_ok-add_tree-2.ensures c.op.ensures c.set_node.ensures

pub add_until-returns : goal.add_until-returns
add_until-returns t c =
    added_until c.args.nodes.now c.open_node.new.nodes c.add_tree.new.nodes c.push_node.new.nodes c.add_tree-2.new.nodes c.set_node.new.nodes (node (op.At 0) c.args.frame)
    (fresh c.args.x.now) (fresh c.args.y.now) c.args.frame c.in_ok-here.here c.len-waits.result
    c.in_ok-here.ensures.here c.in_ok-here.ensures.opened c.in_ok-add_tree.ensures c.len-waits.ensures c.in_ok-push_node.ensures c.in_ok-add_tree-2.ensures c.set_node.ensures
