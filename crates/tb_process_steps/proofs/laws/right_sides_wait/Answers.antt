use Rattle.tb_process_steps.proofs.TransferLaws.{right_waits}
use Rattle.tb_process_steps.proofs.laws.right_sides_wait.Goals as goal

pub returns : goal.returns
returns c = right_waits
