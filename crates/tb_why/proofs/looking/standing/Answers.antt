use Rattle.std.proofs.Common.{Some, ap, sym, subst, ◌∙◌, arith}
use Rattle.tb_process_steps.specs.Walks.{Walking, seen_offers}
use Rattle.tb_living.proofs.ReadLemmas.{plan-within, read-is}
use Rattle.tb_why.proofs.LookLemmas.{standing-looked}
use Rattle.tb_why.proofs.looking.standing.Goals as goal

pub bounds-as_slice-living : goal.bounds-as_slice-living
bounds-as_slice-living g c = plan-within c.args.plans.now c.as_slice.result.now c.args.living.now.body c.requires.0 c.as_slice.ensures c.requires.1

pub offset_bounds-as_slice-living : goal.offset_bounds-as_slice-living
offset_bounds-as_slice-living g c = let within = bounds-as_slice-living g c in omega arith

pub look-requires : goal.look-requires
look-requires g c =
    let view = g.W.Walker.view in
    let live = c.requires in
    let read = c.index-as_slice-living.result in
    let plan = read-is c.args.plans.now c.as_slice.result.now c.args.living.now.body read live.0 c.as_slice.ensures live.1 c.index-as_slice-living.is in
    subst (λ (p : _). view.is_on p c.in_ok-walker.walker) (sym plan) (subst (λ (w : _). view.is_on live.0 w) (sym c.in_ok-walker.ensures) live.2.is_on)

pub returns : goal.returns
returns g c =
    let view = g.W.Walker.view in
    let live = c.requires in
    let now = c.args.now in
    let read = c.index-as_slice-living.result in
    let looked = c.look.new.self in
    let stays = c.look.ensures.stays in
    let plan = read-is c.args.plans.now c.as_slice.result.now c.args.living.now.body read live.0 c.as_slice.ensures live.1 c.index-as_slice-living.is in
    let saw = c.in_ok-look.ensures.seen ∙ ap (λ (w : Walking). Some (seen_offers (view.body_of read).atoms now w)) (sym stays) in
    standing-looked view c.args.plans.now now c.args.living.now live read c.in_ok-walker.walker looked c.in_ok-offers.offers plan c.in_ok-walker.ensures stays (c.in_ok-offers.ensures now saw)
