use Rattle.tb_match.proofs.Least.{least, agreed_with}
use Rattle.tb_match.proofs.laws.matches_are_least.Goals as goal

pub returns-clause-agrees : goal.returns-clause-agrees
returns-clause-agrees c = agreed_with

pub returns-clause-least : goal.returns-clause-least
returns-clause-least c = least
