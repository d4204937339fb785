use Rattle.tb_pair_top.proofs.TwoLogs.{pair-two_logs}
use Rattle.tb_pair_top.proofs.laws.a_pair_has_two_logs.Goals as goal

pub returns : goal.returns
returns c = pair-two_logs
