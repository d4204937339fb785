use Rattle.tb_transfer_laws.proofs.Dropping.{dropped-in}
use Rattle.tb_transfer_laws.proofs.laws.a_step_of_the_right_side_drops_the_left_side.Goals as goal

pub returns : goal.returns
returns c = dropped-in
