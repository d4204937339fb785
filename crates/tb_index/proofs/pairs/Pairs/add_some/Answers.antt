use Rattle.std.proofs.Common.{◌==◌, take, ap, ◌∙◌}
use Rattle.std.proofs.lemmas.Bool.{eqb-true}
use Rattle.tb_index.specs.Marks.{has_mark, is_mark}
use Rattle.tb_index.specs.Helpers.Pairs.{has}
use Rattle.tb_index.proofs.PairLemmas as pairs
use Rattle.tb_index.proofs.pairs.Pairs.add_some.Goals as goal

pub returns-in-Err-clause-err : goal.returns-in-Err-clause-err
returns-in-Err-clause-err c = λ mark its. pairs.undone _ _ _ (has_mark c.args.marks.now mark) (has_mark (take c.loop-mark.mark-index c.args.marks.now) mark) (has_mark c.args.but.now mark) (its == c.args.proc)
    (c.remove_but.ensures mark its)
    (c.in-Err.ensures.err mark its ∙ c.loop-mark.invariant mark its)
    (λ e. ap (has c.args.self.now mark) (eqb-true its c.args.proc e) ∙ c.requires mark)
    (pairs.any-take (is_mark mark) c.loop-mark.mark-index c.args.marks.now)
