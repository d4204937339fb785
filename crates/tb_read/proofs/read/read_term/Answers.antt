use Rattle.tb_read.proofs.Outcomes.{within_limits}
use Rattle.tb_read.proofs.read.read_term.Goals as goal

pub returns-clause-found : goal.returns-clause-found
returns-clause-found c = within_limits c.args.bytes.now c.read_within.result c.read_within.ensures.found

pub returns-clause-only : goal.returns-clause-only
returns-clause-only c = λ term reads within. c.read_within.ensures.only term reads (within.size, within.levels)
