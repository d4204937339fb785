use Rattle.tb_walk.proofs.WalkLemmas.{is_done_as}
use Rattle.tb_walk.proofs.walk.WalkWalker.is_done.Goals as goal

pub returns : goal.returns
returns c = λ plan on. is_done_as plan c.args.self.now c.is_empty.result on c.is_empty.ensures
