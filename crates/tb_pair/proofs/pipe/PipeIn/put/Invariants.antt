use Rattle.std.proofs.Common.{◌≡◌, true}
use Rattle.rtrb.specs.Ring.{sent, SameProducer}
use Rattle.tb_pair.proofs.pipe.PipeIn.put.Given as goal

abbrev pub invariant-loop : goal.invariant-loop
invariant-loop g l = (l.self.flows ≡ true) × (l.piece ≡ l.initial.piece) × (sent l.self.end ≡ sent l.fn.self.end) × SameProducer l.fn.self.end l.self.end
