use Rattle.tb_read.proofs.Ended.{has_one}
use Rattle.tb_read.proofs.laws.each_text_has_one.Goals as goal

pub returns : goal.returns
returns c = has_one
