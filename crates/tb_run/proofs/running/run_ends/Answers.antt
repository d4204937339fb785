use Rattle.tb_run.proofs.NothingLemmas.{unbegun}
use Rattle.tb_run.proofs.OutsideLemmas.{runs_back}
use Rattle.tb_run.proofs.running.run_ends.Goals as goal

pub returns-in_default-clause-runs : goal.returns-in_default-clause-runs
returns-in_default-clause-runs g c = unbegun c.args.ticks _ c.args.core c.requires.log

pub returns-in-Err-clause-runs : goal.returns-in-Err-clause-runs
returns-in-Err-clause-runs g c = runs_back c.args.ticks _ _ c.args.core.origin c.args.core c.in-Err.refused.core _ c.in-Err.ensures.err (unbegun c.args.ticks _ c.args.core c.requires.log)
