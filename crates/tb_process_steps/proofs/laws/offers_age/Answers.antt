use Rattle.tb_process_steps.proofs.AgedOffers.{offers-age, offers_of-age, length-ticked, ticked-at}
use Rattle.tb_process_steps.proofs.laws.offers_age.Goals as goal

pub returns-clause-term : goal.returns-clause-term
returns-clause-term c = offers-age

pub returns-clause-walking : goal.returns-clause-walking
returns-clause-walking c = offers_of-age

pub returns-clause-count : goal.returns-clause-count
returns-clause-count c = length-ticked

pub returns-clause-at : goal.returns-clause-at
returns-clause-at c = ticked-at
