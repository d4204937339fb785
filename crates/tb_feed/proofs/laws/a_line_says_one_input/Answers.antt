use Rattle.tb_feed.proofs.LineLemmas.{says-one, says-may}
use Rattle.tb_feed.proofs.laws.a_line_says_one_input.Goals as goal

pub returns-clause-one : goal.returns-clause-one
returns-clause-one c = says-one

pub returns-clause-may_be_fed : goal.returns-clause-may_be_fed
returns-clause-may_be_fed c = says-may
