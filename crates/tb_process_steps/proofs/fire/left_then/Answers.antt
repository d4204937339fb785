use Rattle.std.proofs.Common.{Option, ap, sym, ◌∙◌, option_map}
use Rattle.tb_process_steps.specs.Offers.{followed}
use Rattle.tb_process_steps.specs.Helpers.Plans.{process_at}
use Rattle.tb_process_steps.specs.Helpers.Runnings.{term_of}
use Rattle.tb_process_steps.specs.declared.running.Running.{Running}
use Rattle.tb_process_steps.proofs.EntryLemmas.{entered_now}
use Rattle.tb_process_steps.proofs.TermLemmas.{term-Whole}
use Rattle.tb_process_steps.proofs.fire.left_then.Goals as goal

pub returns-in-None-clause-term : goal.returns-in-None-clause-term
returns-in-None-clause-term c = λ nodes.
    term-Whole nodes c.args.ticks (record { node = c.args.node; entered = c.args.ticks })
    ∙ entered_now nodes c.args.ticks c.args.node
    ∙ ap (λ (left : Option Running). followed (option_map (term_of nodes c.args.ticks) left) (process_at nodes c.args.node)) (sym c.in-None.is)
