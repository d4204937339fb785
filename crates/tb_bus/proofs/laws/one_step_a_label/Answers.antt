use Rattle.tb_bus.proofs.ReachedLemmas.{one-step-a-label}
use Rattle.tb_bus.proofs.laws.one_step_a_label.Goals as goal

pub returns : goal.returns
returns c = one-step-a-label
