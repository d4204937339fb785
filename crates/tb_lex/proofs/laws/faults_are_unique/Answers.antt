use Rattle.tb_lex.proofs.Runs.{fault_one, no_fault}
use Rattle.tb_lex.proofs.laws.faults_are_unique.Goals as goal

pub returns-clause-one : goal.returns-clause-one
returns-clause-one c = fault_one

pub returns-clause-none : goal.returns-clause-none
returns-clause-none c = no_fault
