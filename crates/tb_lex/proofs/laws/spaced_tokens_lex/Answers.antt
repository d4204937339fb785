use Rattle.tb_lex.proofs.Apart.{spaced_lexes}
use Rattle.tb_lex.proofs.laws.spaced_tokens_lex.Goals as goal

pub returns : goal.returns
returns c = spaced_lexes
