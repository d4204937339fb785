use Rattle.std.proofs.Common.{arith, ap, ◌∙◌}
use Rattle.tb_lock.specs.Helpers.Plays.{HolderState, joining}
use Rattle.tb_lock.proofs.ShareLemmas.{joins, looks}
use Rattle.tb_lock.proofs.TurnLemmas.{united_by}
use Rattle.tb_lock.proofs.share.unite.Goals as goal

pub join_seat-requires : goal.join_seat-requires
join_seat-requires g c =
    let words = c.requires.board.0 in
    let idle = c.requires.idle in (
      c.requires.holders.0,
      c.requires.holders.1,
      idle.2,
      omega arith,
      joins c.args.board.now.key.origin c.args.holder.now.id c.args.other.id c.args.holder.now.me.0 c.args.other.me.0 idle.1 idle.3 c.requires.room.0,
    )

pub load-requires : goal.load-requires
load-requires g c =
    let words = c.requires.board.0 in
    let seat = c.args.holder.now.me.0 in
    let other = c.args.other.me.0 in (
      c.join_seat.ensures.0 ∙ c.requires.holders.0,
      omega arith,
      looks c.args.board.now.key.origin c.args.board.now.table_id.slots c.join_seat.new.seat.id c.join_seat.new.seat.me seat.seen other.seen seat.rights other.rights (ap (λ (m : HolderState). m.0.stage) c.join_seat.ensures.2),
    )

pub returns-clause-holder : goal.returns-clause-holder
returns-clause-holder g c =
    let seat = c.args.holder.now.me.0 in
    let other = c.args.other.me.0 in
    let is = c.join_seat.ensures.2 ∙ ap (λ slots. (joining seat other, slots)) c.requires.idle.0 in
    let t = united_by c.join_seat.new.seat.me c.load.new.seat.me c.load.result seat other is c.requires.idle.1 c.load.ensures.2 in
    (c.load.ensures.0 ∙ c.join_seat.ensures.0, ap (λ (m : HolderState). m.1) t.0)

pub returns-clause-joins : goal.returns-clause-joins
returns-clause-joins g c =
    let seat = c.args.holder.now.me.0 in
    let other = c.args.other.me.0 in
    let is = c.join_seat.ensures.2 ∙ ap (λ slots. (joining seat other, slots)) c.requires.idle.0 in
    (united_by c.join_seat.new.seat.me c.load.new.seat.me c.load.result seat other is c.requires.idle.1 c.load.ensures.2).1
