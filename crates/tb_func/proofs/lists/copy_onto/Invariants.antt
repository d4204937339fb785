use Rattle.std.proofs.Common.{◌≡◌, ◌++◌, take}
use Rattle.tb_func.proofs.lists.copy_onto.Given as goal

abbrev pub invariant-loop-term : goal.invariant-loop-term
invariant-loop-term l = l.onto ≡ l.initial.onto ++ take l.term-index l.terms
