use Rattle.tb_process_steps.proofs.TransferLaws.{is_alone, right_alone, left_gone}
use Rattle.tb_process_steps.proofs.laws.right_sides_are_alone.Goals as goal

pub returns-clause-alone : goal.returns-clause-alone
returns-clause-alone c = is_alone

pub returns-clause-atoms : goal.returns-clause-atoms
returns-clause-atoms c = right_alone

pub returns-clause-gone : goal.returns-clause-gone
returns-clause-gone c = left_gone
