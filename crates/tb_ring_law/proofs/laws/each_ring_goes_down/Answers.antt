use Rattle.tb_ring_law.proofs.GoesDown.{ring-goes-down}
use Rattle.tb_ring_law.proofs.laws.each_ring_goes_down.Goals as goal

pub returns : goal.returns
returns c = ring-goes-down
