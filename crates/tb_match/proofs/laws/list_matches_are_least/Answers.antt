use Rattle.tb_match.proofs.Least.{list-least, list-agreed_with}
use Rattle.tb_match.proofs.laws.list_matches_are_least.Goals as goal

pub returns-clause-agrees : goal.returns-clause-agrees
returns-clause-agrees c = list-agreed_with

pub returns-clause-least : goal.returns-clause-least
returns-clause-least c = list-least
