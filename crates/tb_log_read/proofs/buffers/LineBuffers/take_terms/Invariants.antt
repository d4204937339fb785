use Rattle.std.proofs.Common.{length}
use Rattle.tb_log_read.proofs.buffers.LineBuffers.take_terms.Given as goal

abbrev pub decreases-loop-term : goal.decreases-loop-term
decreases-loop-term l = length l.terms
