use Rattle.std.proofs.Common.{IsTrue, take}
use Rattle.std.specs.List.{list_all}
use Rattle.tb_terms.specs.Proper.{is_proper}
use Rattle.tb_func.proofs.printing.show_all_proper.Given as goal

abbrev pub invariant-loop-term : goal.invariant-loop-term
invariant-loop-term l = IsTrue (list_all is_proper (take l.term-index l.terms))
