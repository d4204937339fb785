use Rattle.tb_iface.proofs.SortedBuses.{stored-sorts, stored-values}
use Rattle.tb_iface.proofs.laws_heard.values_have_the_sorts_of_their_slots.Goals as goal

pub returns : goal.returns
returns c = record { sorts = stored-sorts; values = stored-values }
