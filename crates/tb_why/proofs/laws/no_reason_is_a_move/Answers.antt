use Rattle.tb_why.proofs.PossibleLemmas.{reasons-right}
use Rattle.tb_why.proofs.laws.no_reason_is_a_move.Goals as goal

pub returns : goal.returns
returns c = λ bus proc offered up sorts. reasons-right bus proc offered sorts up
