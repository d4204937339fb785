use Rattle.tb_living.proofs.ActionLemmas.{offer-seen, readies-filled, timeless-all, timeless-more}
use Rattle.tb_living.proofs.looking.fill.Goals as goal

pub loop-at-preserved : goal.loop-at-preserved
loop-at-preserved g c now looked =
    let view = g.W.Walker.view in
    let walking = view.walking c.args.plan.now c.args.walker.now in
    let so_far = c.loop-at.invariant now looked in (
      readies-filled c.args.body.now.atoms now walking (view.seen c.args.walker.now) c.loop-at.at c.offer_count-at-end.result c.args.body.now.sorts c.loop-at.ready.items c.push_ready.new.ready.items
          c.loop-at-test.true looked c.offer_count-at-end.ensures.seen c.requires.sorts so_far.0
          (λ offered here sorts. c.in_ok-timed.ensures.ready now offered here (offer-seen c.args.body.now.atoms now walking (view.seen c.args.walker.now) c.loop-at.at offered c.offer-offer.result looked c.offer-offer.ensures here) sorts),
      λ none.
          let both = c.in_ok-timed.ensures.timed none in
          timeless-more c.args.body.now.atoms now walking (view.seen c.args.walker.now) c.loop-at.at c.offer_count-at-end.result c.offer-offer.result
          c.loop-at-test.true looked c.offer_count-at-end.ensures.seen c.offer-offer.ensures both.1 (so_far.1 both.0),
    )

pub returns-clause-timed : goal.returns-clause-timed
returns-clause-timed g c now looked none =
    let view = g.W.Walker.view in
    timeless-all c.args.body.now.atoms now (view.walking c.args.plan.now c.args.walker.now) (view.seen c.args.walker.now) c.loop-at.at c.offer_count-at-end.result
    c.loop-at-test.false looked c.offer_count-at-end.ensures.seen ((c.loop-at.invariant now looked).1 none)
