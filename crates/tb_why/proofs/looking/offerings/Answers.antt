use Rattle.tb_process_steps.specs.Walks.{offers_of}
use Rattle.tb_why.specs.Standing.{offering_of}
use Rattle.tb_why.proofs.LookLemmas.{all-there, one-more}
use Rattle.tb_why.proofs.looking.offerings.Goals as goal

pub loop-k-preserved : goal.loop-k-preserved
loop-k-preserved g c now saw =
    let view = g.W.Walker.view in
    let plan = c.args.plan.now in
    one-more (offering_of (view.body_of plan).atoms now) (offers_of (view.walking plan c.args.walker.now)) c.loop-k.k c.offer_count-k-end.result c.loop-k.offers c.push.new.self c.in_ok-offering.field-0
    c.loop-k-test.true (c.offer_count-k-end.ensures.all plan c.requires.on) (c.loop-k.invariant now saw) c.in_ok-push.ensures.ok (λ offered here. c.in_ok-offering.ensures now offered saw here)

pub returns : goal.returns
returns g c now saw =
    let view = g.W.Walker.view in
    let plan = c.args.plan.now in
    all-there (offering_of (view.body_of plan).atoms now) (offers_of (view.walking plan c.args.walker.now)) c.loop-k.k c.offer_count-k-end.result c.loop-k.offers
    c.loop-k-test.false (c.offer_count-k-end.ensures.all plan c.requires.on) (c.loop-k.invariant now saw)
