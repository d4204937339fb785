use Rattle.tb_top.proofs.Completeness.{sim-completes}
use Rattle.tb_top.proofs.laws.a_simulation_that_ends_is_put.Goals as goal

pub returns : goal.returns
returns c = sim-completes (Unit {0})
