use Rattle.tb_syntax.proofs.Balanced.{each_proc_balances, each_script_balances}
use Rattle.tb_syntax.proofs.laws.parens_are_balanced.Goals as goal

pub returns-clause-proc : goal.returns-clause-proc
returns-clause-proc c = each_proc_balances

pub returns-clause-script : goal.returns-clause-script
returns-clause-script c = each_script_balances
