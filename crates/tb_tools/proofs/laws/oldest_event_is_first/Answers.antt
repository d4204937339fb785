use Rattle.tb_tools.proofs.Oldest.{oldest-first}
use Rattle.tb_tools.proofs.laws.oldest_event_is_first.Goals as goal

pub returns : goal.returns
returns c = oldest-first
