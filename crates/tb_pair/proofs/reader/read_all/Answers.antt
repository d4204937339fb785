use Rattle.rtrb.specs.Ring.{received}
use Rattle.tb_pair.proofs.RingLemmas.{consumer_same}
use Rattle.tb_pair.proofs.ReaderLemmas.{read_behind, read_refused, dropped_here}
use Rattle.tb_pair.proofs.reader.read_all.Goals as goal

pub returns-in-Ok-clause-work : goal.returns-in-Ok-clause-work
returns-in-Ok-clause-work g c =
    let h = c.in-Ok.ensures in
    read_behind c.args.seat.now c.name_itself.new.seat c.read_on.new.seat h.0 (received c.args.pipe.now.end) (received c.read_on.new.pipe.end) c.in-Ok.reads c.read_on.result h.1 h.2 (λ e. dropped_here h.0 (h.3 e)) h.4 c.read_on.ensures.work

pub returns-in-Err : goal.returns-in-Err
returns-in-Err g c = record {
  ring = consumer_same c.args.pipe.now.end;
  work = read_refused c.args.seat.now c.name_itself.new.seat (received c.args.pipe.now.end) c.in-Err.end c.in-Err.ensures;
}
