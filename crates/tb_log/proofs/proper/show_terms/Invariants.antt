use Rattle.std.proofs.Common.{take, IsTrue}
use Rattle.std.specs.List.{list_all}
use Rattle.tb_terms.specs.Proper.{is_proper}
use Rattle.tb_log.proofs.proper.show_terms.Given as goal

abbrev pub invariant-loop-term : goal.invariant-loop-term
invariant-loop-term l = IsTrue (list_all is_proper (take l.term-index l.terms))
