use Rattle.tb_process_steps.proofs.RewriterLemmas.{starts}
use Rattle.tb_process_steps.proofs.rewriter.RewriterWalker.start.Goals as goal

pub returns-clause-term : goal.returns-clause-term
returns-clause-term c = starts c.args.plan.now.nodes c.args.plan.now.root c.args.plan.now.body.tree c.args.store c.args.plan.now.whole
