use Rattle.tb_syntax.proofs.Looser.{each_looser_enclosed}
use Rattle.tb_syntax.proofs.laws.looser_stands_in_parens.Goals as goal

pub returns : goal.returns
returns c = each_looser_enclosed
