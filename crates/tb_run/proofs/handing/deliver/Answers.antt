use Rattle.std.proofs.Common.{sym, subst}
use Rattle.tb_core.specs.Cores.{HandIn}
use Rattle.tb_lock.specs.Calls.{IsReply}
use Rattle.tb_run.specs.Seats.{Hands}
use Rattle.tb_run.proofs.SeatLemmas.{hands_ok, hands_err, refused_by}
use Rattle.tb_run.proofs.handing.deliver.Goals as goal

pub returns-in-Ok : goal.returns-in-Ok
returns-in-Ok g c =
    let laws = c.calls_add_their_own.ensures in
    subst (Hands c.args.input c.args.seat.now c.hand_in.new.seat) (sym c.end_of.ensures)
    (hands_ok laws.seen laws.added c.args.input c.args.seat.now c.hand_in.new.seat c.in-Ok.reply c.requires.right c.in-Ok.ensures)

pub returns-in-Err : goal.returns-in-Err
returns-in-Err g c =
    let laws = c.calls_add_their_own.ensures in
    hands_err c.args.input c.args.seat.now c.refused.new.seat c.refused.result
    (refused_by laws.seen laws.added (IsReply c.args.input) (HandIn c.args.input) c.args.seat.now c.hand_in.new.seat c.refused.new.seat c.in-Err.fault c.refused.result c.requires.form c.requires.right c.in-Err.ensures c.refused.ensures)
