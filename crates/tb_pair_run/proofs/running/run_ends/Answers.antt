use Rattle.std.proofs.Common.{refl, ap, ◌∙◌}
use Rattle.tb_core.specs.Cores.{CoreState}
use Rattle.tb_pair_run.proofs.OutsideLemmas.{not_begun}
use Rattle.tb_pair_run.proofs.running.run_ends.Goals as goal

pub returns-in-Err-clause-runs : goal.returns-in-Err-clause-runs
returns-in-Err-clause-runs g c =
    not_begun c.args.ticks _ c.args.first.origin c.args.second.origin c.in-Err.refused.core c.args.second (ap (λ (k : CoreState). k.origin) c.in-Err.ensures.err) refl
    (ap (λ (k : CoreState). k.log) c.in-Err.ensures.err ∙ c.requires.log) c.requires.other_log
