use Rattle.std.proofs.Common.{take, IsTrue}
use Rattle.std.specs.List.{list_all}
use Rattle.tb_terms.specs.Proper.{is_proper}
use Rattle.tb_log.specs.Seens.{number_terms}
use Rattle.tb_log.proofs.proper.show_numbers.Given as goal

abbrev pub invariant-loop-number : goal.invariant-loop-number
invariant-loop-number l = IsTrue (list_all is_proper (number_terms (take l.number-index l.numbers)))
