use Rattle.std.proofs.Common.{◌<◌, ◌≡◌, Some, length, add-one, arith, ap, sym, subst, ◌∙◌}
use Rattle.tb_living.specs.Ticking.{AreTicked, CanTick, HasTicked, IsBefore}
use Rattle.tb_living.proofs.ReadLemmas.{plan-within, read-is}
use Rattle.tb_living.proofs.TickLemmas.{AreTickedBelow, all-ticked, can-next, next-there, ticked-more, written}
use Rattle.tb_living.proofs.ticking.tick_all.Goals as goal

pub bounds-as_slice-living : goal.bounds-as_slice-living
bounds-as_slice-living g c =
    let news = c.loop-living.living-items in
    let at = c.loop-living.living-index in
    let within : at < length news = omega arith in
    let can = subst (CanTick g.W.Walker.view c.args.plans.now) (sym c.get_mut-living.ensures.value) (can-next g.W.Walker.view c.args.plans.now at c.args.all.now.items news c.living-item.result c.requires c.loop-living.invariant within) in
    plan-within c.args.plans.now c.as_slice.result.now c.get_mut-living.result.now.body can.0 c.as_slice.ensures can.1

pub offset_bounds-as_slice-living : goal.offset_bounds-as_slice-living
offset_bounds-as_slice-living g c = let within = bounds-as_slice-living g c in omega arith

pub tick_one-requires : goal.tick_one-requires
tick_one-requires g c =
    let news = c.loop-living.living-items in
    let at = c.loop-living.living-index in
    let within : at < length news = omega arith in
    let living = c.get_mut-living.result.now in
    let can = subst (CanTick g.W.Walker.view c.args.plans.now) (sym c.get_mut-living.ensures.value) (can-next g.W.Walker.view c.args.plans.now at c.args.all.now.items news c.living-item.result c.requires c.loop-living.invariant within) in
    let plan = read-is c.args.plans.now c.as_slice.result.now living.body c.index-as_slice-living.result can.0 c.as_slice.ensures can.1 c.index-as_slice-living.is in
    subst (λ p. IsBefore g.W.Walker.view p living) (sym plan) can.2

pub loop-living-preserved : goal.loop-living-preserved
loop-living-preserved g c =
    let view = g.W.Walker.view in
    let olds = c.args.all.now.items in
    let news = c.loop-living.living-items in
    let at = c.loop-living.living-index in
    let within : at < length news = omega arith in
    let living = c.get_mut-living.result.now in
    let can = subst (CanTick view c.args.plans.now) (sym c.get_mut-living.ensures.value) (can-next view c.args.plans.now at olds news c.living-item.result c.requires c.loop-living.invariant within) in
    let plan = read-is c.args.plans.now c.as_slice.result.now living.body c.index-as_slice-living.result can.0 c.as_slice.ensures can.1 c.index-as_slice-living.is in
    rw add-one
    (ticked-more view c.args.plans.now at olds news living c.tick_one.new.living c.loop-living.invariant
    (next-there view c.args.plans.now at olds news c.living-item.result c.loop-living.invariant within ∙ ap (λ l. Some l) (sym c.get_mut-living.ensures.value))
    (can.0, can.1, subst (λ p. HasTicked view p living c.tick_one.new.living) plan c.tick_one.ensures))

pub returns : goal.returns
returns g c =
    let view = g.W.Walker.view in
    let plans = c.args.plans.now in
    let olds = c.args.all.now.items in
    let news = c.loop-living.living-items in
    let read : length c.deref_mut-living-items.result.now ≡ length olds = ap length c.deref_mut-living-items.ensures.value in
    let long : length news ≡ length olds = c.loop-living.auto.living-items ∙ read in
    let len : c.args.all.now.len ≡ length olds = sym c.deref_mut-living-items.ensures.len ∙ read in
    let past : c.loop-living.living-index ≡ length olds = omega arith in
    subst (AreTicked view plans olds) (sym (written olds news c.args.all.now.len long len))
    (all-ticked view plans olds news (subst (λ at. AreTickedBelow view plans at olds news) past c.loop-living.invariant))
