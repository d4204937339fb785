use Rattle.tb_read.proofs.Numerals.{real_fault, range_fault}
use Rattle.tb_read.proofs.laws.numeral_faults.Goals as goal

pub returns-clause-real : goal.returns-clause-real
returns-clause-real c = real_fault

pub returns-clause-range : goal.returns-clause-range
returns-clause-range c = range_fault
