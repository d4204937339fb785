use Rattle.std.proofs.Common.{take}
use Rattle.tb_index.specs.Helpers.Pairs.{in_slot, AreGathered}
use Rattle.tb_index.proofs.gather.gather_slot.Given as goal

abbrev pub invariant-loop-pair : goal.invariant-loop-pair
invariant-loop-pair l = AreGathered l.initial.found l.found l.sent (in_slot (take l.pair-index l.pairs) l.slot)
