use Rattle.tb_read.proofs.Outcomes.{only_term, exact_fault}
use Rattle.tb_read.proofs.read.read_within.Goals as goal

pub returns-clause-only : goal.returns-clause-only
returns-clause-only c = only_term c.args.limits.size c.args.limits.levels c.args.bytes.now c.read.result c.read.ensures.found c.read.ensures.fault

pub returns-clause-exact : goal.returns-clause-exact
returns-clause-exact c = exact_fault c.args.limits.size c.args.limits.levels c.args.bytes.now c.read.result c.read.ensures.found c.read.ensures.fault
