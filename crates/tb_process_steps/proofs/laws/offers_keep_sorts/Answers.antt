use Rattle.tb_process_steps.proofs.Sorts.{offer-keeps, sorts-with_binds, well_sorted-with_binds}
use Rattle.tb_process_steps.proofs.laws.offers_keep_sorts.Goals as goal

pub returns-clause-sorts : goal.returns-clause-sorts
returns-clause-sorts c = λ term store offered h. (offer-keeps term store offered h).sorts

pub returns-clause-values : goal.returns-clause-values
returns-clause-values c = λ term store offered h k. (offer-keeps term store offered h).values k

pub returns-clause-fired_sorts : goal.returns-clause-fired_sorts
returns-clause-fired_sorts c = λ binds ticks offered. sorts-with_binds offered.store binds

pub returns-clause-fired_values : goal.returns-clause-fired_values
returns-clause-fired_values c = λ binds ticks offered h k. well_sorted-with_binds offered.store binds h k
