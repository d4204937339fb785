use Rattle.tb_bus.proofs.BusShapes.{reached-in_shape}
use Rattle.tb_bus.proofs.shapes.what_waits_is_in_shape.Goals as goal

pub returns : goal.returns
returns c = reached-in_shape
