use Rattle.std.proofs.Common.{◌≡◌, take}
use Rattle.tb_terms.proofs.pattern.+same.Given as goal

abbrev pub invariant-same_all-loop-position : goal.invariant-same_all-loop-position
invariant-same_all-loop-position l = take l.position l.a ≡ take l.position l.b
