use Rattle.tb_log_read.proofs.Logs.{log_not_stopped, stops_one}
use Rattle.tb_log_read.proofs.laws.bytes_stop_once.Goals as goal

pub returns-clause-one : goal.returns-clause-one
returns-clause-one c = stops_one

pub returns-clause-none : goal.returns-clause-none
returns-clause-none c = log_not_stopped
