use Rattle.std.proofs.Common.{◌≡◌, drop}
use Rattle.tb_index.specs.Helpers.Pairs.{has_open}
use Rattle.tb_index.proofs.mark.has_open.Given as goal

abbrev pub invariant-loop-other : goal.invariant-loop-other
invariant-loop-other l = has_open (drop l.other-index l.marks) ≡ has_open l.marks
