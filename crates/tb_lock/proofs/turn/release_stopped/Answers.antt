use Rattle.std.proofs.Common.{arith, ap, ◌∙◌}
use Rattle.tb_lock.specs.Helpers.Plays.{HolderState}
use Rattle.tb_lock.proofs.NoteLemmas.{stops}
use Rattle.tb_lock.proofs.TurnLemmas.{put_back, noted_stop, may_pass_stopped}
use Rattle.tb_lock.proofs.turn.release_stopped.Goals as goal

pub load-requires : goal.load-requires
load-requires g c =
    let may = c.requires.may in
    let words = c.requires.board.0 in
    let back = put_back c.args.holder.now.me c.exchange-empty.new.seat.me c.args.core may.slot c.exchange-empty.ensures.3 in (
      c.exchange-empty.ensures.0 ∙ c.requires.holder,
      omega arith,
      stops c.args.board.now.key.origin c.args.board.now.table_id.slots c.exchange-empty.new.seat.id c.exchange-empty.new.seat.me may.ticket may.mark (ap (λ (m : HolderState). m.0.stage) back ∙ may.stage),
    )

pub pass-requires-clause-may : goal.pass-requires-clause-may
pass-requires-clause-may g c =
    let may = c.requires.may in
    let back = put_back c.args.holder.now.me c.exchange-empty.new.seat.me c.args.core may.slot c.exchange-empty.ensures.3 in
    may_pass_stopped c.load.new.seat.me c.args.holder.now.me.0 c.args.core may.ticket may.origin may.log may.stopped
    (noted_stop c.exchange-empty.new.seat.me c.load.new.seat.me c.load.result may.ticket may.mark c.args.holder.now.me.0 c.args.core back may.stage c.load.ensures.2)
