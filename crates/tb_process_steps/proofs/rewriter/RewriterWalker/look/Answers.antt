use Rattle.std.proofs.Common.{Some, ap}
use Rattle.tb_process_steps.specs.Helpers.Rewritings.{walking_of}
use Rattle.tb_process_steps.specs.Walks.{offers_of}
use Rattle.tb_process_steps.proofs.RewriterLemmas.{found_kept, found_seen}
use Rattle.tb_process_steps.proofs.rewriter.RewriterWalker.look.Goals as goal

pub returns-clause-on : goal.returns-clause-on
returns-clause-on c =
    let base = c.args.self.now.store in
    let os = offers_of (walking_of c.args.plan.now c.args.self.now) in
    record {
      parts = c.requires.parts;
      found = λ fresh. found_kept c.args.plan.now.body.atoms c.args.now base c.in_ok-found.found os c.in_ok-found.ensures;
    }

pub returns-clause-seen : goal.returns-clause-seen
returns-clause-seen c =
    let base = c.args.self.now.store in
    let os = offers_of (walking_of c.args.plan.now c.args.self.now) in
    ap Some (found_seen c.args.plan.now.body.atoms c.args.now base c.in_ok-found.found os c.in_ok-found.ensures)
