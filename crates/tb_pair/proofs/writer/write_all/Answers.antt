use Rattle.rtrb.specs.Ring.{sent}
use Rattle.tb_pair.proofs.RingLemmas.{producer_same}
use Rattle.tb_pair.proofs.WriterLemmas.{written_on, written_none}
use Rattle.tb_pair.proofs.writer.write_all.Goals as goal

pub returns-in-Ok-clause-work : goal.returns-in-Ok-clause-work
returns-in-Ok-clause-work g c =
    let h = c.in-Ok.ensures in
    written_on c.args.seat.now c.name_itself.new.seat c.write_on.new.seat h.0 (sent c.args.pipe.now.end) (sent c.write_on.new.pipe.end) c.args.pipe.now.flows c.write_on.new.pipe.flows c.write_on.result h.1 h.2 c.write_on.ensures.work

pub returns-in-Err : goal.returns-in-Err
returns-in-Err g c = record {
  ring = producer_same c.args.pipe.now.end;
  work = written_none c.args.seat.now c.name_itself.new.seat (sent c.args.pipe.now.end) c.args.pipe.now.flows c.in-Err.end c.in-Err.ensures;
}
