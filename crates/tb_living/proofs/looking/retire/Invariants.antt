use Rattle.std.proofs.Common.{length}
use Rattle.tb_living.proofs.looking.retire.Given as goal

abbrev pub decreases-loop-one : goal.decreases-loop-one
decreases-loop-one l = length l.ready.items
