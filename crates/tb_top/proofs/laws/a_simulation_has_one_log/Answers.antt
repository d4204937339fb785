use Rattle.tb_top.proofs.OneLog.{sim-one_log}
use Rattle.tb_top.proofs.laws.a_simulation_has_one_log.Goals as goal

pub returns : goal.returns
returns c = sim-one_log
