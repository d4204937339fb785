use Rattle.tb_bus.proofs.ApartLemmas.{numbers-ascend, numbers-above, numbers-below}
use Rattle.tb_bus.proofs.laws.processes_stand_by_their_numbers.Goals as goal

pub returns : goal.returns
returns c = record { ascend = numbers-ascend; above = numbers-above; below = numbers-below }
