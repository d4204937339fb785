-- What is gone from the rest was written.
use Rattle.std.proofs.Common.{length}
use Rattle.tb_edge.proofs.Transfers.{IsWritten}
use Rattle.tb_edge.proofs.real_sink.write_whole.Given as goal

abbrev pub invariant-loop-rest : goal.invariant-loop-rest
invariant-loop-rest g l = IsWritten (g.W.Write.contents l.initial.writer) (g.W.Write.contents l.writer) l.piece l.rest

abbrev pub decreases-loop-rest : goal.decreases-loop-rest
decreases-loop-rest g l = length l.rest
