use Rattle.tb_sim.specs.Simulation.{sim_start}
use Rattle.tb_sim.proofs.SimEnds.{sim-ends}
use Rattle.tb_sim.proofs.laws.each_bus_has_a_simulation.Goals as goal

pub returns : goal.returns
returns c = λ limits bus feed. sim-ends limits (sim_start bus feed)
