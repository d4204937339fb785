use Rattle.tb_log_read.proofs.LineReadings.{line_one}
use Rattle.tb_log_read.proofs.Logs.{same_logs}
use Rattle.tb_log_read.proofs.laws.log_text_is_one_to_one.Goals as goal

pub returns-clause-logs : goal.returns-clause-logs
returns-clause-logs c = same_logs

pub returns-clause-lines : goal.returns-clause-lines
returns-clause-lines c = line_one
