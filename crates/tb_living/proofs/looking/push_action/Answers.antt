use Rattle.std.proofs.Common.{◌≡◌, ◌++◌, ◌∙◌, OnOk, ap, option_map, subst}
use Rattle.tb_body.specs.declared.body.Body.{Body}
use Rattle.tb_process_steps.specs.Walks.{patterns_by, sent_by}
use Rattle.tb_search.specs.Candidates.{ready_one}
use Rattle.tb_bus.specs.declared.action.Action.TheVariants as action
use Rattle.tb_living.proofs.ActionLemmas.{receives-in, sends-in}
use Rattle.tb_living.proofs.looking.push_action.Goals as goal

pub returns-in-SndMsg : goal.returns-in-SndMsg
returns-in-SndMsg g c offered here same act sorts =
    let atoms = c.args.body.now.atoms in
    let is : (λ (b : Body). sent_by b.atoms offered) (g.W.Walker.view.body_of c.args.plan.now) ≡ sent_by atoms offered = ap (λ (b : Body). sent_by b.atoms offered) c.requires.body in
    subst (λ found. OnOk c.push_message.result (c.push_message.new.ready.items ≡ c.args.ready.now.items ++ ready_one c.args.k offered found))
    (ap (option_map action.Send) is ∙ sends-in atoms offered c.args.atom.now.act c.in-SndMsg.field-0 act c.in-SndMsg.is) (c.push_message.ensures offered here same)

pub returns-in-RecMsg : goal.returns-in-RecMsg
returns-in-RecMsg g c offered here same act sorts =
    let atoms = c.args.body.now.atoms in
    let is : (λ (b : Body). patterns_by b.atoms offered) (g.W.Walker.view.body_of c.args.plan.now) ≡ patterns_by atoms offered = ap (λ (b : Body). patterns_by b.atoms offered) c.requires.body in
    subst (λ found. OnOk c.push_message-in-RecMsg.result (c.push_message-in-RecMsg.new.ready.items ≡ c.args.ready.now.items ++ ready_one c.args.k offered found))
    (ap (option_map action.Receive) is ∙ receives-in atoms offered c.args.atom.now.act c.in-RecMsg.field-0 act c.in-RecMsg.is) (c.push_message-in-RecMsg.ensures offered here same)
