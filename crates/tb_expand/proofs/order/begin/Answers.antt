use Rattle.std.proofs.Common.{subst, sym}
use Rattle.tb_expand.specs.declared.walk.Walk.{Walk}
use Rattle.tb_expand.specs.Helpers.Walks.{HasBegun}
use Rattle.tb_expand.proofs.Walking.{begun_new}
use Rattle.tb_expand.proofs.order.begin.Goals as goal

pub returns-in_ok-open-in-New : goal.returns-in_ok-open-in-New
returns-in_ok-open-in-New c = λ graph within rest.
    let walk = c.args.walk.now in
    let root = c.args.root in
    subst (λ (new : Walk). HasBegun graph walk new root) (sym c.in_ok-open-in-New.ensures) (begun_new graph walk rest root c.in-New.ensures)
