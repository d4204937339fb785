use Rattle.std.proofs.Common.{◌≡◌, ◌++◌, subst, sym}
use Rattle.tb_process_steps.specs.Walks.{offers_of, patterns_by, sent_by}
use Rattle.tb_bus.specs.declared.action.Action.TheVariants as action
use Rattle.tb_search.specs.Candidates.{ready_one}
use Rattle.tb_living.specs.Helpers.Parts.{message_by}
use Rattle.tb_living.proofs.ActionLemmas.{found-pushed, found-unpushed}
use Rattle.tb_living.proofs.looking.push_message.Goals as goal

pub returns-in_ok-push-in-Some : goal.returns-in_ok-push-in-Some
returns-in_ok-push-in-Some g c offered here same =
    let view = g.W.Walker.view in
    let atoms = (view.body_of c.args.plan.now).atoms in
    subst (λ part. c.push.new.ready.items ≡ c.args.ready.now.items ++ ready_one c.args.k offered (message_by part atoms offered)) (sym c.in-Sends.is)
    (found-pushed action.Send (sent_by atoms) (offers_of (view.walking c.args.plan.now c.args.walker.now)) c.args.k c.args.atom offered c.in_ok-terms-in-Sends.field-0 c.in-Some.terms c.args.ready.now.items c.push.new.ready.items
    c.in_ok-terms-in-Sends.ensures c.in-Some.is here same c.in_ok-push-in-Some.ensures)

pub returns-in-None : goal.returns-in-None
returns-in-None g c offered here same =
    let view = g.W.Walker.view in
    let atoms = (view.body_of c.args.plan.now).atoms in
    subst (λ part. c.args.ready.now.items ≡ c.args.ready.now.items ++ ready_one c.args.k offered (message_by part atoms offered)) (sym c.in-Sends.is)
    (found-unpushed action.Send (sent_by atoms) (offers_of (view.walking c.args.plan.now c.args.walker.now)) c.args.k offered c.in_ok-terms-in-Sends.field-0 c.args.ready.now.items
    c.in_ok-terms-in-Sends.ensures c.in-None.is here)

pub returns-in_ok-push-in-Some-2 : goal.returns-in_ok-push-in-Some-2
returns-in_ok-push-in-Some-2 g c offered here same =
    let view = g.W.Walker.view in
    let atoms = (view.body_of c.args.plan.now).atoms in
    subst (λ part. c.push-in-Some-2.new.ready.items ≡ c.args.ready.now.items ++ ready_one c.args.k offered (message_by part atoms offered)) (sym c.in-Receives.is)
    (found-pushed action.Receive (patterns_by atoms) (offers_of (view.walking c.args.plan.now c.args.walker.now)) c.args.k c.args.atom offered c.in_ok-patterns-in-Receives.field-0 c.in-Some-2.patterns c.args.ready.now.items c.push-in-Some-2.new.ready.items
    c.in_ok-patterns-in-Receives.ensures c.in-Some-2.is here same c.in_ok-push-in-Some-2.ensures)

pub returns-in-None-2 : goal.returns-in-None-2
returns-in-None-2 g c offered here same =
    let view = g.W.Walker.view in
    let atoms = (view.body_of c.args.plan.now).atoms in
    subst (λ part. c.args.ready.now.items ≡ c.args.ready.now.items ++ ready_one c.args.k offered (message_by part atoms offered)) (sym c.in-Receives.is)
    (found-unpushed action.Receive (patterns_by atoms) (offers_of (view.walking c.args.plan.now c.args.walker.now)) c.args.k offered c.in_ok-patterns-in-Receives.field-0 c.args.ready.now.items
    c.in_ok-patterns-in-Receives.ensures c.in-None-2.is here)
