use Rattle.std.proofs.Common.{◌≡◌, rules, FitsSigned, w64}
use Rattle.std.proofs.lemmas.Int.{to_z-of_z}
use Rattle.tb_walk.specs.Helpers.Numbers.{numbered}
use Rattle.tb_walk.proofs.NumberLemmas.{call-numbers}
use Rattle.tb_walk.proofs.number.call.Goals as goal

pub returns : goal.returns
returns c =
    let x_fits : FitsSigned w64 c.in_ok-x.x = search rules in
    let y_fits : FitsSigned w64 c.in_ok-y.y = search rules in
    let x = to_z-of_z w64 c.in_ok-x.x x_fits in
    let y = to_z-of_z w64 c.in_ok-y.y y_fits in
    let e : c.numbered.result ≡ numbered c.args.func c.in_ok-x.x c.in_ok-y.y = rw (x, y) at c.numbered.ensures in
    call-numbers c.args.store.now c.args.func c.args.first.now c.args.second.now c.in_ok-x.x c.in_ok-y.y c.in_ok-x.ensures c.in_ok-y.ensures c.numbered.result e
