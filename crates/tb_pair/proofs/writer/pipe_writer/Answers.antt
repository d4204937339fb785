use Rattle.rtrb.specs.Ring.{sent}
use Rattle.tb_pair.proofs.WriterLemmas.{written_all}
use Rattle.tb_pair.proofs.writer.pipe_writer.Goals as goal

pub returns-clause-work : goal.returns-clause-work
returns-clause-work g c =
    written_all c.put.new.self.flows c.args.seat.now c.write_all-end.new.seat (sent c.args.pipe.now.end) (sent c.write_all-end.new.pipe.end) (sent c.put.new.self.end) c.write_all-end.new.pipe.flows c.write_all-end.result c.write_all-end.ensures.work c.put.ensures.put
