use Rattle.tb_source_laws.proofs.Expanded.{in-script, in-program}
use Rattle.tb_source_laws.proofs.laws.without_the_symbol_there_is_no_disrupt.Goals as goal

pub returns-clause-script : goal.returns-clause-script
returns-clause-script c = in-script

pub returns-clause-program : goal.returns-clause-program
returns-clause-program c = in-program
