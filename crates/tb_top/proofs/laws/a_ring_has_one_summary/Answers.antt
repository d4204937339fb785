use Rattle.tb_top.proofs.AskedRings.{asked-summary}
use Rattle.tb_top.proofs.Summaries.{ring-summary}
use Rattle.tb_top.proofs.laws.a_ring_has_one_summary.Goals as goal

pub returns-clause-words : goal.returns-clause-words
returns-clause-words c = asked-summary

pub returns-clause-numbers : goal.returns-clause-numbers
returns-clause-numbers c = ring-summary
