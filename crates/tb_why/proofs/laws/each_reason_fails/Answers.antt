use Rattle.tb_why.proofs.FirstLemmas.{fails-so}
use Rattle.tb_why.proofs.laws.each_reason_fails.Goals as goal

pub returns : goal.returns
returns c = fails-so
