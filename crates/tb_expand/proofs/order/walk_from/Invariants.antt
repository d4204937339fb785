use Rattle.tb_expand.specs.Helpers.Walks.{HasBegun, left_in}
use Rattle.tb_expand.proofs.order.walk_from.Given as goal

-- the position was visited, and each position that is new was new before
abbrev pub invariant-loop-position : goal.invariant-loop-position
invariant-loop-position l = HasBegun l.graph l.fn.walk l.walk l.root

abbrev pub decreases-loop-position : goal.decreases-loop-position
decreases-loop-position l = left_in l.graph l.walk.visits
