use Rattle.tb_lex.proofs.Runs.{has_one}
use Rattle.tb_lex.proofs.laws.each_text_has_one.Goals as goal

pub returns : goal.returns
returns c = has_one
