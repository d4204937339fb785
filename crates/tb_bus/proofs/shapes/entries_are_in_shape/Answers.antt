use Rattle.tb_bus.proofs.BusShapes.{entry-in_shape, trace-in_shape}
use Rattle.tb_bus.proofs.shapes.entries_are_in_shape.Goals as goal

pub returns : goal.returns
returns c = record { legal = entry-in_shape; trace = trace-in_shape }
