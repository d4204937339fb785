use Rattle.std.proofs.Common.{◌≡◌, sym, ◌∙◌}
use Rattle.tb_process_steps.specs.Helpers.Selections.{selected, selected_of}
use Rattle.tb_process_steps.specs.Helpers.Runnings.{term_of}
use Rattle.tb_process_steps.proofs.RewriterLemmas.{hits_some, hits_none}
use Rattle.tb_process_steps.proofs.rewriter.Rewriter.taken.Goals as goal

pub returns-in_ok-fired-in-Some-clause-selected : goal.returns-in_ok-fired-in-Some-clause-selected
returns-in_ok-fired-in-Some-clause-selected c =
    let fired : selected_of c.args.plan.now.nodes c.args.self.now.ticks c.args.self.now.store c.in_ok-fired-in-Some.fired ≡ selected (term_of c.args.plan.now.nodes c.args.self.now.ticks c.in-Some.term) c.args.self.now.store c.args.k = c.in_ok-fired-in-Some.ensures.selected in
    fired ∙ sym (hits_some c.args.plan.now c.args.self.now c.in-Some.term c.args.k c.in-Some.is)

pub returns-in-None-clause-selected : goal.returns-in-None-clause-selected
returns-in-None-clause-selected c = sym (hits_none c.args.plan.now c.args.self.now c.args.k c.in-None.is)
