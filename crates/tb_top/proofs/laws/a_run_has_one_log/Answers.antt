use Rattle.tb_top.proofs.OneLog.{run-one_log}
use Rattle.tb_top.proofs.laws.a_run_has_one_log.Goals as goal

pub returns : goal.returns
returns c = run-one_log
