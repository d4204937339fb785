use Rattle.tb_log_read.proofs.Logs.{only_log, exact_line}
use Rattle.tb_log_read.proofs.log.read_log.Goals as goal

pub returns-clause-only : goal.returns-clause-only
returns-clause-only c = only_log c.args.bytes.now c.read.result c.read.ensures.found c.read.ensures.fault

pub returns-clause-exact : goal.returns-clause-exact
returns-clause-exact c = exact_line c.args.bytes.now c.read.result c.read.ensures.found c.read.ensures.fault
