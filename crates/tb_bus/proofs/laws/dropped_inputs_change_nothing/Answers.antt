use Rattle.tb_bus.proofs.DownLemmas.{dropped-leaves}
use Rattle.tb_bus.proofs.laws.dropped_inputs_change_nothing.Goals as goal

pub returns : goal.returns
returns c = dropped-leaves
