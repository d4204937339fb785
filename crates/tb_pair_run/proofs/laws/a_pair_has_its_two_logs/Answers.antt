use Rattle.tb_pair_run.proofs.LogLemmas.{two_logs}
use Rattle.tb_pair_run.proofs.laws.a_pair_has_its_two_logs.Goals as goal

pub returns : goal.returns
returns c = two_logs
