use Rattle.std.proofs.Common.{take}
use Rattle.tb_index.specs.Helpers.Pairs.{is_in, IsFirst}
use Rattle.tb_index.proofs.slot.next_in.Given as goal

abbrev pub invariant-loop-pair : goal.invariant-loop-pair
invariant-loop-pair l = IsFirst (is_in (take l.pair-index l.pairs) l.mark) l.from l.found
