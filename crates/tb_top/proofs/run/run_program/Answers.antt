use Rattle.tb_top.proofs.Parts.{live-by}
use Rattle.tb_top.proofs.run.run_program.Goals as goal

pub returns-in-Ok-clause-outcome : goal.returns-in-Ok-clause-outcome
returns-in-Ok-clause-outcome g c = live-by c.args.ticks _ _ _ _ c.run_core.result c.in-Ok.ensures.origin c.run_core.ensures.outcome
