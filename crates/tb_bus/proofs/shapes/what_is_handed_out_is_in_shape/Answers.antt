use Rattle.tb_bus.proofs.SizeLemmas.{out-in_shape}
use Rattle.tb_bus.proofs.shapes.what_is_handed_out_is_in_shape.Goals as goal

pub returns : goal.returns
returns c = out-in_shape
