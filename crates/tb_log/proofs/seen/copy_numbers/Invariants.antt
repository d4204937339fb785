use Rattle.std.proofs.Common.{◌≡◌, take}
use Rattle.tb_log.specs.Seens.{number_terms}
use Rattle.tb_log.proofs.seen.copy_numbers.Given as goal

abbrev pub invariant-loop-number : goal.invariant-loop-number
invariant-loop-number l = l.copies.items ≡ number_terms (take l.number-index l.numbers)
