use Rattle.tb_process_steps.proofs.fire.+fire_node.Given as goal

-- the parts of a node have smaller indices than the node
abbrev pub decreases-fire_node : goal.decreases-fire_node
decreases-fire_node l = l.node
