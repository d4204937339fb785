use Rattle.tb_parse.proofs.Outcomes.{fault_one, script_has_none}
use Rattle.tb_parse.proofs.laws.faults_are_unique.Goals as goal

pub returns-clause-one : goal.returns-clause-one
returns-clause-one c = fault_one

pub returns-clause-none : goal.returns-clause-none
returns-clause-none c = script_has_none
