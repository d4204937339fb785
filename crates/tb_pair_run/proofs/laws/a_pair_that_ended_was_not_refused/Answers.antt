use Rattle.tb_core.proofs.FullLemmas.{full-now}
use Rattle.tb_pair_run.proofs.EndedLemmas.{not_both}
use Rattle.tb_pair_run.proofs.laws.a_pair_that_ended_was_not_refused.Goals as goal

pub returns : goal.returns
returns c = not_both full-now
