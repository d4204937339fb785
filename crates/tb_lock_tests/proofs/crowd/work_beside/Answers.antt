use denote.Param.Send.{sendable}
use Rattle.std.proofs.Crossing.{crosses}
use Rattle.tb_lock.proofs.seat.Seat.TheSendSync.{the_send as seat_send}
use Rattle.tb_lock.proofs.SendLemmas.{bus_sync}
use Rattle.tb_lock_tests.proofs.crowd.work_beside.Goals as goal

pub join-requires-send-F : goal.join-requires-send-F
join-requires-send-F g c κs within = search (bus_sync, seat_send, sendable, crosses) depth 30
