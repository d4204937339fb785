use Rattle.std.proofs.Common.{◌≡◌, sym, ap, ◌∙◌}
use Rattle.tb_lock.specs.Seats.{SeatView, first_seat}
use Rattle.tb_pair_run.proofs.IdleLemmas.{unparted}
use Rattle.tb_pair_run.proofs.SettleLemmas.{first_so}
use Rattle.tb_pair_run.proofs.working.run_workers.Goals as goal

pub returns-in_default-clause-come : goal.returns-in_default-clause-come
returns-in_default-clause-come g c =
    unparted c.args.ticks _ c.args.one.seat c.args.other.seat
    (first_so c.args.one.post.now.shared c.args.one.seat c.args.one.seat c.requires.one)
    (first_so c.args.other.post.now.shared c.args.other.seat c.args.other.seat c.requires.other)
