use Rattle.std.proofs.Common.{◌+◌}
use Rattle.tb_index.proofs.BitLemmas.{Empty}
use Rattle.tb_index.proofs.bits.next_behind.Given as goal

abbrev pub invariant-loop-other : goal.invariant-loop-other
invariant-loop-other l = Empty l.words (l.at + 1) l.other
