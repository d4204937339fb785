use Rattle.tb_bus.proofs.StayLemmas.{no-steps, stays-down, outs-down, stays-empty}
use Rattle.tb_bus.proofs.laws.a_bus_that_is_down_stays_down.Goals as goal

pub returns : goal.returns
returns c = record { steps = no-steps; stays = stays-down; outs = outs-down; empty = stays-empty }
