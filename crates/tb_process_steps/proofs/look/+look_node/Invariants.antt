use Rattle.tb_process_steps.proofs.look.+look_node.Given as goal

-- the parts of a node have smaller indices than the node
abbrev pub decreases-look_node : goal.decreases-look_node
decreases-look_node l = l.node
