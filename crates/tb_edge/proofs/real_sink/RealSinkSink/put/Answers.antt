use Rattle.std.proofs.Common.{rules}
use Rattle.tb_edge.proofs.Puts.{puts}
use Rattle.tb_edge.proofs.real_sink.RealSinkSink.put.Goals as goal

pub returns-clause-prefix : goal.returns-clause-prefix
returns-clause-prefix g c = search (rules, puts)
