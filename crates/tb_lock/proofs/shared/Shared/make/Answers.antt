use Rattle.std.proofs.Common.{refl, arith}
use Rattle.tb_lock.specs.Seats.{Idle}
use Rattle.tb_lock.specs.Helpers.Rule.{opening_seat}
use Rattle.tb_lock.proofs.CallLemmas.{is_seat}
use Rattle.tb_lock.proofs.shared.Shared.make.Goals as goal

pub invariant_of-seat : goal.invariant_of-seat
invariant_of-seat g c = is_seat c.open.new.holder.me (record (opening_seat c.args.core.origin) { stage = Idle }) c.into_badge.result.views c.open.ensures.opened c.into_badge.ensures.2 refl (omega arith)
