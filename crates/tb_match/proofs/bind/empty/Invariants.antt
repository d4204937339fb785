use Rattle.std.proofs.Common.{length}
use Rattle.tb_match.proofs.bind.empty.Given as goal

abbrev pub decreases-loop-bind : goal.decreases-loop-bind
decreases-loop-bind l = length l.binds
