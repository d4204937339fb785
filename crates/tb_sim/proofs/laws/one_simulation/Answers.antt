use Rattle.tb_sim.specs.Simulation.{sim_start}
use Rattle.tb_sim.proofs.SimTraces.{one-sim}
use Rattle.tb_sim.proofs.laws.one_simulation.Goals as goal

pub returns : goal.returns
returns c = λ limits bus feed log other end last h g. one-sim limits (sim_start bus feed) log other end last h g
