use Rattle.std.proofs.Common.{Some, ap}
use Rattle.tb_process_steps.specs.Helpers.Selections.{On}
use Rattle.tb_process_steps.specs.Processes.{Process}
use Rattle.tb_process_steps.specs.Helpers.OfferViews.{or_own}
use Rattle.tb_process_steps.proofs.fire.taken_beside.Goals as goal

pub returns-clause-selected : goal.returns-clause-selected
returns-clause-selected c = λ nodes ticks base. ap (λ (p : Process). On (Some p) (or_own c.args.own base)) (c.in_ok-whole.ensures.term nodes ticks)
