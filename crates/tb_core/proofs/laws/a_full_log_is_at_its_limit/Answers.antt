use Rattle.tb_core.proofs.FullLemmas.{full-now, full-later}
use Rattle.tb_core.proofs.laws.a_full_log_is_at_its_limit.Goals as goal

pub returns : goal.returns
returns c = record { full = full-now; later = full-later }
