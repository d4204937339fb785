use Rattle.tb_pair_top.proofs.Completeness.{pair-completes}
use Rattle.tb_pair_top.proofs.laws.a_pair_of_accepted_scripts_ends.Goals as goal

pub returns : goal.returns
returns c = pair-completes (Unit {0})
