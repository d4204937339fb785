-- The logs of a pair are the only ones with their texts.
use Rattle.std.proofs.Common.{◌≡◌, ◌<◌, ◌^◌, ℕ, ap, arith}
use Rattle.tb_log.specs.LogText.{log_text}
use Rattle.tb_log_read.specs.Lines.{IsLog}
use Rattle.tb_log_read.proofs.Logs.{same_logs}
use Rattle.tb_bus.proofs.BusShapes.{trace-in_shape}
use Rattle.tb_bus.specs.declared.origin.Origin.{Origin}
use Rattle.tb_core.specs.Cores.{CoreState}
use Rattle.tb_pair_run.specs.Outcomes.{IsLogOf, PairRuns}
use Rattle.tb_pair_run.specs.Views.{PairView}
use Rattle.tb_pair_run.specs.declared.ends.PairWhy.{PairWhy}

is_log : (origin : Origin) (back : CoreState) → origin.limit < 2 ^ 64 → IsLogOf origin back → IsLog back.log
is_log origin back few it = record {
  few = (let limit : back.origin.limit ≡ origin.limit = ap (λ (o : Origin). o.limit) it.origin_is in let within = it.within in omega (arith, within, limit, few));
  proper = it.proper;
  shape = trace-in_shape back.origin back.log it.history.trace;
}

pub two_logs : (most most' : ℕ) (old new old' new' : PairView) (origin others_origin origin' others_origin' : Origin) (back others_back back' others_back' : CoreState) (it it' : PairWhy)
    → origin.limit < 2 ^ 64 → others_origin.limit < 2 ^ 64 → origin'.limit < 2 ^ 64 → others_origin'.limit < 2 ^ 64
    → PairRuns most old new origin others_origin back others_back it → PairRuns most' old' new' origin' others_origin' back' others_back' it'
    → log_text back.log ≡ log_text back'.log → log_text others_back.log ≡ log_text others_back'.log → (back.log ≡ back'.log) × (others_back.log ≡ others_back'.log)
two_logs most most' old new old' new' origin others_origin origin' others_origin' back others_back back' others_back' it it' few others_few few' others_few' runs runs' same others_same = (
  same_logs back.log back'.log (is_log origin back few runs.first) (is_log origin' back' few' runs'.first) same,
  same_logs others_back.log others_back'.log (is_log others_origin others_back others_few runs.second) (is_log others_origin' others_back' others_few' runs'.second) others_same,
)
