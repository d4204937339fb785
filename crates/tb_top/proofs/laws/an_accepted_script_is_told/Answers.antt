use Rattle.tb_top.proofs.Completeness.{check-completes}
use Rattle.tb_top.proofs.laws.an_accepted_script_is_told.Goals as goal

pub returns : goal.returns
returns c = check-completes (Unit {0})
