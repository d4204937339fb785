use Rattle.std.proofs.Common.{◌≡◌, ◌≤◌, take, length}
use Rattle.tb_expand.specs.Scopes.{seen_as, of_blocks}
use Rattle.tb_expand.proofs.scope.seen_as.Given as goal

abbrev pub invariant-loop-left : goal.invariant-loop-left
invariant-loop-left l = (l.left ≤ length l.blocks) × (seen_as l.name (of_blocks (take l.left l.blocks)) ≡ seen_as l.name (of_blocks l.blocks))

abbrev pub decreases-loop-left : goal.decreases-loop-left
decreases-loop-left l = l.left
