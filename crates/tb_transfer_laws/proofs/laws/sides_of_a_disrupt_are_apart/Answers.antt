use Rattle.tb_transfer_laws.proofs.Dropping.{apart-in, gone-in}
use Rattle.tb_transfer_laws.proofs.laws.sides_of_a_disrupt_are_apart.Goals as goal

pub returns-clause-apart : goal.returns-clause-apart
returns-clause-apart c = apart-in

pub returns-clause-gone : goal.returns-clause-gone
returns-clause-gone c = gone-in
