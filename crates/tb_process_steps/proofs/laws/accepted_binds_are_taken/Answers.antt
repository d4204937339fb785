use Rattle.tb_process_steps.proofs.Taken.{binds-taken}
use Rattle.tb_process_steps.proofs.laws.accepted_binds_are_taken.Goals as goal

pub returns : goal.returns
returns c = binds-taken
