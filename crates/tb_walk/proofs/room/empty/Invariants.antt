use Rattle.std.proofs.Common.{length}
use Rattle.tb_walk.proofs.room.empty.Given as goal

abbrev pub decreases-loop-one : goal.decreases-loop-one
decreases-loop-one g l = length l.items
