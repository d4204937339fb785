use Rattle.tb_lex.proofs.Runs.{lexes_one}
use Rattle.tb_lex.proofs.laws.lexing_is_unique.Goals as goal

pub returns : goal.returns
returns c = lexes_one
