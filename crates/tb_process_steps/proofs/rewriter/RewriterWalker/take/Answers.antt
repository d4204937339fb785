use Rattle.std.proofs.Common.{sym, ap, ◌∙◌}
use Rattle.tb_process_steps.specs.Helpers.Selections.{selected_of}
use Rattle.tb_process_steps.specs.Helpers.Rewritings.{walking_of}
use Rattle.tb_process_steps.specs.Walks.{offers_of}
use Rattle.tb_process_steps.proofs.RewriterLemmas.{hit_inside, taken_left}
use Rattle.tb_process_steps.proofs.rewriter.RewriterWalker.take.Goals as goal

pub returns-in-Taken : goal.returns-in-Taken
returns-in-Taken c =
    record {
      taken = taken_left c.args.plan.now c.args.self.now c.args.k c.in_ok-term.field-0 (record { term = c.in-Taken.term; own = c.in-Taken.own }) c.in-Taken.is c.in_ok-term.ensures.selected c.in_ok-term.ensures.on;
    }

pub returns-in-Past : goal.returns-in-Past
returns-in-Past c =
    let over = sym c.in_ok-term.ensures.selected ∙ ap (selected_of c.args.plan.now.nodes c.args.self.now.ticks c.args.self.now.store) c.in-Past.is in
    absurd (hit_inside c.args.k (offers_of (walking_of c.args.plan.now c.args.self.now)) c.in-Past.field-0 c.requires.within over)
