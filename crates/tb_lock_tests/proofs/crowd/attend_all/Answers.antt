use denote.Param.Send.{sendable}
use Rattle.std.proofs.Crossing.{crosses}
use Rattle.tb_lock.proofs.SendLemmas.{bus_sync}
use Rattle.tb_lock_tests.proofs.crowd.attend_all.Goals as goal

pub for_each_mut-requires-sync-F : goal.for_each_mut-requires-sync-F
for_each_mut-requires-sync-F g c κs within = search (bus_sync, sendable, crosses) depth 30
