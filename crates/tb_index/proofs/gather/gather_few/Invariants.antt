use Rattle.std.proofs.Common.{◌&&◌, nat_lt}
use Rattle.tb_index.specs.Helpers.Pairs.{in_few, slot_of, AreGathered}
use Rattle.tb_index.proofs.gather.gather_few.Given as goal

abbrev pub invariant-loop-slot : goal.invariant-loop-slot
invariant-loop-slot l = AreGathered l.initial.found l.found l.sent (λ mark proc. nat_lt (slot_of mark) l.slot && in_few l.few mark proc)
