use Rattle.tb_process_steps.proofs.AgedOffers.{sent-aged, patterns-aged, accepted-aged, ready-aged}
use Rattle.tb_process_steps.proofs.laws.ageing_keeps_terms.Goals as goal

pub returns-clause-sent : goal.returns-clause-sent
returns-clause-sent c = sent-aged

pub returns-clause-patterns : goal.returns-clause-patterns
returns-clause-patterns c = patterns-aged

pub returns-clause-accepted : goal.returns-clause-accepted
returns-clause-accepted c = accepted-aged

pub returns-clause-ready : goal.returns-clause-ready
returns-clause-ready c = ready-aged
