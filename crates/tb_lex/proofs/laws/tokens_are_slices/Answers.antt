use Rattle.tb_lex.proofs.Slices.{lexes_slices}
use Rattle.tb_lex.proofs.laws.tokens_are_slices.Goals as goal

pub returns : goal.returns
returns c = lexes_slices
