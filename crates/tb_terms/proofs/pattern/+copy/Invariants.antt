use Rattle.std.proofs.Common.{◌≡◌, take}
use Rattle.tb_terms.proofs.pattern.+copy.Given as goal

abbrev pub invariant-copy_all-loop-pattern : goal.invariant-copy_all-loop-pattern
invariant-copy_all-loop-pattern l = l.copies ≡ take l.pattern-index l.patterns
