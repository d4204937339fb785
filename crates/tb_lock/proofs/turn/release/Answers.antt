use Rattle.std.proofs.Common.{[], arith, ap, sym, subst, ◌∙◌}
use Rattle.tb_lock.specs.Seats.{Idle}
use Rattle.tb_lock.specs.Helpers.Plays.{HolderState, Adds}
use Rattle.tb_lock.proofs.NoteLemmas.{notes}
use Rattle.tb_lock.proofs.TurnLemmas.{put_back, noted, may_pass_noted}
use Rattle.tb_lock.proofs.turn.release.Goals as goal

pub load-requires : goal.load-requires
load-requires g c =
    let may = c.requires.may in
    let words = c.requires.board.0 in
    let back = put_back c.args.holder.now.me c.exchange-empty.new.seat.me c.args.core may.slot c.exchange-empty.ensures.3 in (
      c.exchange-empty.ensures.0 ∙ c.requires.holder,
      omega arith,
      notes c.args.board.now.key.origin c.args.board.now.table_id.slots c.exchange-empty.new.seat.id c.exchange-empty.new.seat.me may.ticket c.args.core may.logged
          (ap (λ (m : HolderState). m.0.stage) back ∙ may.stage) (ap (λ (m : HolderState). m.1) back) (subst (λ (m : HolderState). Adds m.0 c.args.core may.logged) (sym back) may.adds),
    )

pub pass-requires-clause-may : goal.pass-requires-clause-may
pass-requires-clause-may g c =
    let may = c.requires.may in
    let back = put_back c.args.holder.now.me c.exchange-empty.new.seat.me c.args.core may.slot c.exchange-empty.ensures.3 in
    may_pass_noted c.load.new.seat.me c.args.holder.now.me.0 c.args.core may.ticket may.stage may.adds.origin
    (noted c.exchange-empty.new.seat.me c.load.new.seat.me c.load.result c.args.holder.now.me.0 c.args.core back c.load.ensures.2)

pub returns-clause-releases : goal.returns-clause-releases
returns-clause-releases g c =
    let back = put_back c.args.holder.now.me c.exchange-empty.new.seat.me c.args.core c.requires.may.slot c.exchange-empty.ensures.3 in
    let n = noted c.exchange-empty.new.seat.me c.load.new.seat.me c.load.result c.args.holder.now.me.0 c.args.core back c.load.ensures.2 in
    (n.0, n.1, c.pass.ensures.passes ∙ ap (λ (m : HolderState). (record m.0 { stage = Idle }, [])) n.2)
