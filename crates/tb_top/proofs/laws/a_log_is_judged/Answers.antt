use Rattle.tb_top.proofs.Completeness.{verify-completes}
use Rattle.tb_top.proofs.laws.a_log_is_judged.Goals as goal

pub returns : goal.returns
returns c = verify-completes (Unit {0})
