use Rattle.std.proofs.Common.{◌∙◌}
use Rattle.tb_walk.proofs.WalkLemmas.{found_length, is_fresh}
use Rattle.tb_walk.proofs.walk.WalkWalker.offer_count.Goals as goal

pub returns-clause-all : goal.returns-clause-all
returns-clause-all c = λ plan on.
    (let walk = c.args.self.now in
    let all = on.found (is_fresh walk.fresh walk.found c.requires) in
    c.len.ensures ∙ found_length plan walk on all.0 walk.found all.1)
