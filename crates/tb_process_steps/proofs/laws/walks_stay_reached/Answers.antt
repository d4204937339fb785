use Rattle.tb_process_steps.proofs.Going.{entering-reached, fired-reached, ticked-reached}
use Rattle.tb_process_steps.proofs.laws.walks_stay_reached.Goals as goal

pub returns-clause-entering : goal.returns-clause-entering
returns-clause-entering c = entering-reached

pub returns-clause-fired : goal.returns-clause-fired
returns-clause-fired c = fired-reached

pub returns-clause-ticked : goal.returns-clause-ticked
returns-clause-ticked c = ticked-reached
