use Rattle.std.proofs.Common.{◌∙◌, sym}
use Rattle.tb_bus.specs.Actions.{action_in}
use Rattle.tb_living.proofs.ActionLemmas.{ready-pushed, ready-unpushed}
use Rattle.tb_living.proofs.looking.push_any.Goals as goal

pub returns-in_ok-push-in-Some : goal.returns-in_ok-push-in-Some
returns-in_ok-push-in-Some g c offered here same act sorts =
    ready-pushed c.args.k c.args.number offered c.in-Some.action (action_in offered.store c.args.atom.now.act) c.args.ready.now.items c.push.new.ready.items same
    (sym (c.in_ok-action.ensures offered here act sorts) ∙ c.in-Some.is) c.in_ok-push-in-Some.ensures

pub returns-in-None : goal.returns-in-None
returns-in-None g c offered here same act sorts =
    ready-unpushed c.args.k offered (action_in offered.store c.args.atom.now.act) c.args.ready.now.items (sym (c.in_ok-action.ensures offered here act sorts) ∙ c.in-None.is)
