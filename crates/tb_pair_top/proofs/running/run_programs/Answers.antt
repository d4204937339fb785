use Rattle.tb_pair_top.proofs.Parts.{outcome-by}
use Rattle.tb_pair_top.proofs.running.run_programs.Goals as goal

pub returns-in-Ok-clause-outcome : goal.returns-in-Ok-clause-outcome
returns-in-Ok-clause-outcome g c = outcome-by c.args.ticks _ _ _ _ _ _ c.run_cores.result c.in-Ok.ensures.first.origin c.in-Ok.ensures.second.origin c.run_cores.ensures.outcome
