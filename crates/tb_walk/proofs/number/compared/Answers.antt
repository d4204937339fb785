use Rattle.std.proofs.Common.{◌≡◌, rules, FitsSigned, w64}
use Rattle.std.proofs.lemmas.Int.{to_z-of_z}
use Rattle.tb_walk.specs.Helpers.Numbers.{ordered}
use Rattle.tb_walk.proofs.NumberLemmas.{call-orders}
use Rattle.tb_walk.proofs.number.compared.Goals as goal

pub returns : goal.returns
returns c =
    let x_fits : FitsSigned w64 c.in_ok-x.x = search rules in
    let y_fits : FitsSigned w64 c.in_ok-y.y = search rules in
    let x = to_z-of_z w64 c.in_ok-x.x x_fits in
    let y = to_z-of_z w64 c.in_ok-y.y y_fits in
    let e : c.ordered.result ≡ ordered c.args.func c.in_ok-x.x c.in_ok-y.y = rw (x, y) at c.ordered.ensures in
    call-orders c.args.store.now c.args.func c.args.first.now c.args.second.now c.in_ok-x.x c.in_ok-y.y c.in_ok-x.ensures c.in_ok-y.ensures c.ordered.result e
