use Rattle.tb_core.proofs.FullLemmas.{full-now}
use Rattle.tb_run.proofs.EndedLemmas.{not_both}
use Rattle.tb_run.proofs.laws.a_run_that_ended_was_not_refused.Goals as goal

pub returns : goal.returns
returns c = not_both full-now
