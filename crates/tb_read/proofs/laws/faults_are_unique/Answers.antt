use Rattle.tb_read.proofs.Outcomes.{fault_one, no_fault}
use Rattle.tb_read.proofs.laws.faults_are_unique.Goals as goal

pub returns-clause-one : goal.returns-clause-one
returns-clause-one c = fault_one 65536 64

pub returns-clause-none : goal.returns-clause-none
returns-clause-none c = λ bytes t f reads within. no_fault 65536 64 bytes t f reads (within.size, within.levels)
