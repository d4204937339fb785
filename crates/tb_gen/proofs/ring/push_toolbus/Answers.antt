use Rattle.std.proofs.Common.{codes, ◌-◌}
use Rattle.tb_gen.specs.Ring.{node, later, nodes_text}
use Rattle.tb_gen.proofs.Nodes.{put-four}
use Rattle.tb_gen.proofs.ring.push_toolbus.Goals as goal

pub returns : goal.returns
returns c =
    put-four c.args.into.now.items (codes "toolbus(First") (nodes_text 2 (c.args.n - 2)) (later (node c.args.n 1)) (codes ")\n") c.push_text.new.into.items c.push_nodes.new.into.items c.push_later.new.into.items c.push_text-2.new.into.items
    c.in_ok-push_text.ensures c.in_ok-push_nodes.ensures c.in_ok-push_later.ensures c.in_ok-push_text-2.ensures
