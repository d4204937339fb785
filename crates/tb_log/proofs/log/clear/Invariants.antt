use Rattle.std.proofs.Common.{length}
use Rattle.tb_log.proofs.log.clear.Given as goal

abbrev pub decreases-loop-term : goal.decreases-loop-term
decreases-loop-term l = length l.terms
