use Rattle.tb_bus.proofs.ReachedLemmas.{one-bus-after}
use Rattle.tb_bus.proofs.laws.one_bus_after_an_entry.Goals as goal

pub returns : goal.returns
returns c = one-bus-after
