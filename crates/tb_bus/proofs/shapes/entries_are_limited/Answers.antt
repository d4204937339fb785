use Rattle.tb_bus.proofs.SizeLemmas.{entry-limited}
use Rattle.tb_bus.proofs.shapes.entries_are_limited.Goals as goal

pub returns : goal.returns
returns c = entry-limited
