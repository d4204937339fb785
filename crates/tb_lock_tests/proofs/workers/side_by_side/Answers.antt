use denote.Param.Send.{sendable}
use Rattle.std.proofs.Crossing.{crosses}
use Rattle.tb_lock.proofs.seat.Seat.TheSendSync.{the_send as seat_send}
use Rattle.tb_lock.proofs.SendLemmas.{shared_sync}
use Rattle.tb_lock_tests.proofs.workers.side_by_side.Goals as goal

pub join-requires-send-F : goal.join-requires-send-F
join-requires-send-F g c κs within = search (sendable, crosses, seat_send, shared_sync) depth 30
