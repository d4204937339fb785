use Rattle.std.proofs.Common.{◌≡◌, fold, take}
use Rattle.tb_index.specs.Marks.{mixed}
use Rattle.tb_index.proofs.mark.name_head.Given as goal

abbrev pub invariant-loop-byte : goal.invariant-loop-byte
invariant-loop-byte l = l.hash ≡ fold mixed 7 (take l.byte-index l.name)
