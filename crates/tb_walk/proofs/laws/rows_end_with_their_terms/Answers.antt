use Rattle.tb_walk.proofs.WalkLemmas.{end_together}
use Rattle.tb_walk.proofs.laws.rows_end_with_their_terms.Goals as goal

pub returns : goal.returns
returns c = λ code walk on. end_together code walk on
