use Rattle.std.proofs.Common.{◌<◌, arith, ap, sym, subst, ◌∙◌}
use Rattle.tb_lock.specs.Seats.{SeatView}
use Rattle.tb_lock.specs.Helpers.Plays.{IsSeat}
use Rattle.tb_lock.proofs.CallLemmas.{opened}
use Rattle.tb_lock.proofs.shared.Shared.join.Goals as goal

pub into_seat-holder-requires : goal.into_seat-holder-requires
into_seat-holder-requires g c =
    let i : IsSeat c.seat.inside.badge.views = c.seat.invariant in
    (i.0, ap (λ b. b.views) c.replace.ensures.value ∙ i.1)

pub invariant_of-seat : goal.invariant_of-seat
invariant_of-seat g c =
    let o = opened c.seat.inside.badge.table_id c.seat.inside.badge.views c.args.seat.now c.into_seat-holder.result.me.0 c.seat.view_is c.seat.invariant (ap (λ b. b.views) (sym c.replace.ensures.value) ∙ c.into_seat-holder.ensures.2) in
    let joins = c.unite.ensures.joins in
    let room = o.room in (
      c.unite.new.holder.me.0,
      c.into_badge.ensures.2,
      ap (λ (s : SeatView). s.stage) joins.seat ∙ o.idle,
      subst (λ (s : SeatView). 0 < s.room) (sym joins.seat) (omega arith),
    )
