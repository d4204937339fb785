use Rattle.tb_top.proofs.Completeness.{run-completes}
use Rattle.tb_top.proofs.laws.a_run_of_an_accepted_script_ends.Goals as goal

pub returns : goal.returns
returns c = run-completes (Unit {0})
