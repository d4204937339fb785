use Rattle.std.proofs.Common.{length}
use Rattle.tb_living.proofs.buffers.keep_list.Given as goal

abbrev pub decreases-loop-item : goal.decreases-loop-item
decreases-loop-item g l = length l.list
