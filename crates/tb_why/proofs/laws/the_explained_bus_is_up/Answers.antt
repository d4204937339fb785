use Rattle.std.proofs.Common.{refl}
use Rattle.tb_bus.specs.Buses.{start}
use Rattle.tb_why.proofs.FollowLemmas.{stays-up}
use Rattle.tb_why.proofs.laws.the_explained_bus_is_up.Goals as goal

pub returns : goal.returns
returns c = λ origin log trace. stays-up (start origin) log trace refl
