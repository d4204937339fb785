use Rattle.tb_sim.specs.Simulation.{sim_start}
use Rattle.tb_sim.proofs.SimTraces.{prefix-trace, sim-trace}
use Rattle.tb_sim.proofs.laws.simulations_log_traces.Goals as goal

pub returns-clause-on_the_way : goal.returns-clause-on_the_way
returns-clause-on_the_way c = λ limits bus feed log lanes forms h. prefix-trace limits (sim_start bus feed) log lanes forms h

pub returns-clause-at_the_end : goal.returns-clause-at_the_end
returns-clause-at_the_end c = λ limits bus feed log end lanes forms h. sim-trace limits (sim_start bus feed) log end lanes forms h
