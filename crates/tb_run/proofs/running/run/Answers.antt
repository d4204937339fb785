use Rattle.std.proofs.Common.{rules}
use Rattle.tb_run.proofs.NothingLemmas.{unbegun}
use Rattle.tb_run.proofs.OutsideLemmas.{runs_lanes, views_of}
use Rattle.tb_run.proofs.running.run.Goals as goal

pub returns-in_default-clause-runs : goal.returns-in_default-clause-runs
returns-in_default-clause-runs g c = unbegun c.args.ticks _ c.args.core c.requires.log

pub returns-clause-runs : goal.returns-clause-runs
returns-clause-runs g c =
    runs_lanes c.args.ticks _ _ _ _ _ _ _
    (views_of _ _ _ _ (λ pair. pair.inlet) (λ pair. pair.outlet) c.args.lanes.now.items _ _ (search rules) (search rules))
    (views_of _ _ _ _ (λ pair. pair.inlet) (λ pair. pair.outlet) c.pair_lanes.new.pairs.items _ _ (search rules) (search rules))
    c.run_ends-answer.ensures.runs
