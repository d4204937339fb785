use Rattle.tb_why.proofs.LookLemmas.{offering-is}
use Rattle.tb_why.proofs.looking.offering.Goals as goal

pub returns : goal.returns
returns g c now offered saw here =
    let view = g.W.Walker.view in
    offering-is (view.body_of c.args.plan.now).atoms now (view.walking c.args.plan.now c.args.walker.now) (view.seen c.args.walker.now) c.args.k offered c.offer-atom.result c.in_ok-sent.sent c.in_ok-patterns.patterns
    saw here c.offer-atom.ensures c.in_ok-sent.ensures c.in_ok-patterns.ensures
