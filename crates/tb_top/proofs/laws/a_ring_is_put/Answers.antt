use Rattle.tb_top.proofs.AskedRings.{asked-completes}
use Rattle.tb_top.proofs.Completeness.{ring-completes}
use Rattle.tb_top.proofs.laws.a_ring_is_put.Goals as goal

pub returns-clause-words : goal.returns-clause-words
returns-clause-words c = asked-completes (Unit {0})

pub returns-clause-numbers : goal.returns-clause-numbers
returns-clause-numbers c = ring-completes (Unit {0})
