use Rattle.tb_process_steps.proofs.Behind.{reached-behind}
use Rattle.tb_process_steps.proofs.laws.ages_behind_are_new.Goals as goal

pub returns : goal.returns
returns c = λ tree ticks term r. reached-behind r
