use Rattle.std.proofs.Common.{Some, ap, sym, ◌∙◌}
use Rattle.tb_process_steps.specs.Helpers.Selections.{On, selected_of, selected_with}
use Rattle.tb_process_steps.specs.Offers.{right_of}
use Rattle.tb_process_steps.specs.Processes.{Process}
use Rattle.tb_process_steps.specs.Helpers.Runnings.{term_of}
use Rattle.tb_process_steps.specs.Helpers.OfferViews.{or_own}
use Rattle.tb_process_steps.specs.declared.fired.Fired.{Fired}
use Rattle.tb_process_steps.proofs.fire.on_the_right.Goals as goal

pub returns-in_ok-whole-in-Taken-clause-selected : goal.returns-in_ok-whole-in-Taken-clause-selected
returns-in_ok-whole-in-Taken-clause-selected c = λ nodes ticks base.
    let term = c.in_ok-whole-in-Taken.ensures.term nodes ticks in
    ap (λ (p : Process). On (Some p) (or_own c.in-Taken.own base)) term
    ∙ ap (λ (f : Fired). selected_with (λ right. Some (right_of (term_of nodes ticks c.args.left.now) right)) (selected_of nodes ticks base f)) (sym c.in-Taken.is)
