use Rattle.tb_process_steps.proofs.PlanLemmas.{added}
use Rattle.tb_process_steps.proofs.plan.push_node.Goals as goal

pub returns : goal.returns
returns c =
    added c.args.nodes.now c.args.node c.push.new.self c.len-at.result c.requires.all c.requires.behind c.in_ok-push.ensures.ok c.len-at.ensures
