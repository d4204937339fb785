use Rattle.std.proofs.Common.{◌≡◌, drop}
use Rattle.tb_index.specs.Helpers.Pairs.{has_count}
use Rattle.tb_index.proofs.mark.has_count.Given as goal

abbrev pub invariant-loop-other : goal.invariant-loop-other
invariant-loop-other l = has_count (drop l.other-index l.marks) l.count ≡ has_count l.marks l.count
