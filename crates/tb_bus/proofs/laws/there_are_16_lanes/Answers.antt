use Rattle.tb_bus.proofs.LaneLemmas.{reached-lanes}
use Rattle.tb_bus.proofs.laws.there_are_16_lanes.Goals as goal

pub returns : goal.returns
returns c = reached-lanes
