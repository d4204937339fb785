use Rattle.tb_bus.proofs.DownLemmas.{down-is}
use Rattle.tb_bus.proofs.laws.three_steps_take_a_bus_down.Goals as goal

pub returns : goal.returns
returns c = down-is
