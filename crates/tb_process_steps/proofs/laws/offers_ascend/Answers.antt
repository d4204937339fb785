use Rattle.tb_process_steps.proofs.Ascending.{offers-ascend, offered-once, offered-there}
use Rattle.tb_process_steps.proofs.laws.offers_ascend.Goals as goal

pub returns-clause-ascend : goal.returns-clause-ascend
returns-clause-ascend c = offers-ascend

pub returns-clause-once : goal.returns-clause-once
returns-clause-once c = offered-once

pub returns-clause-there : goal.returns-clause-there
returns-clause-there c = offered-there
