use Rattle.std.proofs.Common.{◌≡◌, take}
use Rattle.tb_terms.proofs.term.+copy.Given as goal

abbrev pub invariant-copy_all-loop-term : goal.invariant-copy_all-loop-term
invariant-copy_all-loop-term l = l.copies.items ≡ take l.term-index l.terms
