use Rattle.tb_why.proofs.StepLemmas.{reasons-shown}
use Rattle.tb_why.proofs.laws.no_reason_is_a_step.Goals as goal

pub returns : goal.returns
returns c = reasons-shown
