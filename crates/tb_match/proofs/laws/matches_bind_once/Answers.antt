use Rattle.tb_match.proofs.Once.{match_term-once, match_list-once}
use Rattle.tb_match.proofs.laws.matches_bind_once.Goals as goal

pub returns-clause-term : goal.returns-clause-term
returns-clause-term c = match_term-once

pub returns-clause-list : goal.returns-clause-list
returns-clause-list c = match_list-once
