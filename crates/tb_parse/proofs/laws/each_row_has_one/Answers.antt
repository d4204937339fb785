use Rattle.tb_parse.proofs.Outcomes.{each_has_one}
use Rattle.tb_parse.proofs.laws.each_row_has_one.Goals as goal

pub returns : goal.returns
returns c = each_has_one
