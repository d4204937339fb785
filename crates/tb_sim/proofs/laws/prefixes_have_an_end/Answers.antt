use Rattle.tb_sim.specs.Simulation.{sim_start}
use Rattle.tb_sim.proofs.SimEnds.{prefix-ends, sim-prefix}
use Rattle.tb_sim.proofs.laws.prefixes_have_an_end.Goals as goal

pub returns-clause-ends : goal.returns-clause-ends
returns-clause-ends c = λ limits bus feed log h. prefix-ends limits (sim_start bus feed) log h

pub returns-clause-prefix : goal.returns-clause-prefix
returns-clause-prefix c = λ limits bus feed log more end h. sim-prefix limits (sim_start bus feed) log more end h
