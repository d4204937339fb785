use Rattle.std.proofs.Common.{◌≡◌, List, Some, length, map, slice_get, refl, arith, ap, sym, subst, ◌∙◌}
use Rattle.std.proofs.lemmas.Option.{same_Some}
use Rattle.tb_living.specs.Lives.{IsLive, proc_in}
use Rattle.tb_living.proofs.ReadLemmas.{read-there, read-through}
use Rattle.tb_living.proofs.ReadLemmas.{all-there as live-there}
use Rattle.tb_why.specs.Standing.{standing_of}
use Rattle.tb_why.proofs.LookLemmas.{all-there, one-more}
use Rattle.tb_why.proofs.WaitLemmas.{stand-is}
use Rattle.tb_why.proofs.looking.stand.Goals as goal

pub standing-requires : goal.standing-requires
standing-requires g c =
    let bus = c.args.bus.now in
    let all = c.as_slice-living-items.result.now in
    let at = c.loop-living.living-index in
    let living = c.get.result.now in
    let is = read-through all at living c.living-item.result c.get.ensures c.living-item.is in
    let here = subst (λ (xs : List _). slice_get xs at ≡ Some living) c.as_slice-living-items.ensures.value (read-there all at living c.loop-living-test.true is) in
    live-there (IsLive g.W.Walker.view bus.plans bus.ticks) bus.living.items at living c.requires.live here

pub loop-living-preserved : goal.loop-living-preserved
loop-living-preserved g c =
    let view = g.W.Walker.view in
    let bus = c.args.bus.now in
    let all = c.as_slice-living-items.result.now in
    let at = c.loop-living.living-index in
    let living = c.get.result.now in
    let is = read-through all at living c.living-item.result c.get.ensures c.living-item.is in
    let here = subst (λ (xs : List _). slice_get xs at ≡ Some living) c.as_slice-living-items.ensures.value (read-there all at living c.loop-living-test.true is) in
    one-more (λ living. standing_of (map view.body_of bus.plans) bus.ticks (proc_in view bus.plans living)) bus.living.items at (length all) c.loop-living.all c.push.new.self c.in_ok-standing.field-0
    c.loop-living-test.true (ap (λ (xs : List _). length xs) c.as_slice-living-items.ensures.value) c.loop-living.invariant c.in_ok-push.ensures.ok
    (λ other there. c.in_ok-standing.ensures ∙ ap (λ one. standing_of (map view.body_of bus.plans) bus.ticks (proc_in view bus.plans one)) (same_Some living other (sym here ∙ there)))

pub returns : goal.returns
returns g c =
    let view = g.W.Walker.view in
    let bus = c.args.bus.now in
    all-there (λ living. standing_of (map view.body_of bus.plans) bus.ticks (proc_in view bus.plans living)) bus.living.items c.loop-living.living-index (length bus.living.items) c.loop-living.all (omega arith) refl c.loop-living.invariant
    ∙ stand-is view bus c.requires.planned
