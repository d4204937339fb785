use Rattle.rtrb.specs.Ring.{sent, SameProducer}
use Rattle.tb_pair.specs.Helpers.Writing.{WritesOn}
use Rattle.tb_pair.proofs.writer.write_on.Given as goal

abbrev pub invariant-loop : goal.invariant-loop
invariant-loop g l = SameProducer l.fn.pipe.end l.pipe.end × WritesOn l.fn.seat l.seat (sent l.fn.pipe.end) (sent l.pipe.end) l.fn.pipe.flows l.pipe.flows
