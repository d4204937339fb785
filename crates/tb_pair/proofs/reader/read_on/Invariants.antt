use Rattle.rtrb.specs.Ring.{received, SameConsumer}
use Rattle.tb_pair.specs.Helpers.Reading.{ReadsOn}
use Rattle.tb_pair.proofs.reader.read_on.Given as goal

abbrev pub invariant-loop : goal.invariant-loop
invariant-loop g l = SameConsumer l.fn.pipe.end l.pipe.end × ReadsOn l.fn.seat l.seat (received l.fn.pipe.end) (received l.pipe.end) l.fn.reads l.reads
