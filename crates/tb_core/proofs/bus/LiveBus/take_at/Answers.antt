use Rattle.std.proofs.Common.{arith, subst}
use Rattle.std.proofs.lemmas.Option.{slice_get_within}
use Rattle.std.proofs.lemmas.Result.{IfOk-weaker}
use Rattle.tb_process_steps.specs.Walks.{offers_of}
use Rattle.tb_search.specs.Candidates.{rows_of}
use Rattle.tb_search.specs.Views.{offer_of}
use Rattle.tb_core.specs.Helpers.LiveBuses.{Leaves, procs_in}
use Rattle.tb_core.proofs.ReadLemmas.{live-at}
use Rattle.tb_living.proofs.ReadLemmas.{plan-within, read-is, read-through}
use Rattle.tb_core.proofs.FreshLemmas.{OfferAt, offer-read}
use Rattle.tb_core.proofs.bus.LiveBus.take_at.Given.{Over}
use Rattle.tb_core.proofs.bus.LiveBus.take_at.Goals.{After-index-2}
use Rattle.tb_core.proofs.bus.LiveBus.take_at.Goals as goal

offer-there : (g : Over) (c : After-index-2 g) → OfferAt g.W.Walker.view c.args.self.now c.args.at c.args.index c.get-living.result.now c.index-as_slice-living.result c.index-2.result.now
offer-there g c =
    let bus = c.args.self.now in
    let living = c.get-living.result.now in
    let it = live-at g.W.Walker.view bus c.args.at living c.requires.sound c.requires.within (read-through c.args.self.now.living.items c.args.at _ _ c.get-living.ensures c.index.ensures) in
    let plan = read-is bus.plans c.as_slice.result.now living.body c.index-as_slice-living.result it.plan c.as_slice.ensures it.planned c.index-as_slice-living.is in
    offer-read g.W.Walker.view bus c.args.at c.args.index living it c.index-as_slice-living.result c.index-2.result.now c.requires.fresh c.requires.index_within plan c.index-2.ensures

pub bounds-as_slice-living : goal.bounds-as_slice-living
bounds-as_slice-living g c =
    let bus = c.args.self.now in
    let living = c.get-living.result.now in
    let it = live-at g.W.Walker.view bus c.args.at living c.requires.sound c.requires.within (read-through c.args.self.now.living.items c.args.at _ _ c.get-living.ensures c.index.ensures) in
    plan-within bus.plans c.as_slice.result.now living.body it.plan c.as_slice.ensures it.planned

pub offset_bounds-as_slice-living : goal.offset_bounds-as_slice-living
offset_bounds-as_slice-living g c = let within = bounds-as_slice-living g c in omega arith

pub take-requires-clause-on : goal.take-requires-clause-on
take-requires-clause-on g c = (offer-there g c).on

pub take-requires-clause-within : goal.take-requires-clause-within
take-requires-clause-within g c =
    let bus = c.args.self.now in
    let plan = c.index-as_slice-living.result in
    let walker = c.get-living.result.now.walker in
    slice_get_within (offers_of (g.W.Walker.view.walking plan walker)) c.index-2.result.now.offer (offer_of (procs_in g.W.Walker.view bus) (rows_of bus.living.items) c.args.at c.args.index) (offer-there g c).here

pub returns : goal.returns
returns g c =
    let bus = c.args.self.now in
    let view = g.W.Walker.view in
    let living = c.get-living.result.now in
    let it = live-at view bus c.args.at living c.requires.sound c.requires.within (read-through c.args.self.now.living.items c.args.at _ _ c.get-living.ensures c.index.ensures) in
    let plan = read-is bus.plans c.as_slice.result.now living.body c.index-as_slice-living.result it.plan c.as_slice.ensures it.planned c.index-as_slice-living.is in
    let offered = offer_of (procs_in view bus) (rows_of bus.living.items) c.args.at c.args.index in
    let here = (offer-there g (goal.at.returns g c).After-index-2).here in
    IfOk-weaker c.take.result _ (λ taken. Leaves view bus c.args.at taken offered)
    (λ taken h. (living, it.here, (it.plan, it.planned, subst (λ p. view.leaves p living.walker taken offered) plan (h offered here)))) c.take.ensures.taken
