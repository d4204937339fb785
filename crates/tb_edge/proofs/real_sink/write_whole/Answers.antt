use Rattle.tb_edge.proofs.Transfers.{IsWritten-more}
use Rattle.tb_edge.proofs.real_sink.write_whole.Goals as goal

pub loop-rest-preserved : goal.loop-rest-preserved
loop-rest-preserved g c = IsWritten-more _ _ _ _ _ c.in-Some.count c.loop-rest.invariant c.in-Some.ensures.prefix
