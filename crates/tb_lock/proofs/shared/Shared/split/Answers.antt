use Rattle.std.proofs.Common.{◌<◌, arith, ap, sym, subst, ◌∙◌}
use Rattle.tb_lock.specs.Seats.{SeatView, kept_of, handed_on}
use Rattle.tb_lock.specs.Helpers.Plays.{IsSeat}
use Rattle.tb_lock.proofs.CallLemmas.{opened, is_seat}
use Rattle.tb_lock.proofs.shared.Shared.split.Goals as goal

pub into_seat-holder-requires : goal.into_seat-holder-requires
into_seat-holder-requires g c =
    let i : IsSeat c.seat.inside.badge.views = c.seat.invariant in
    (i.0, ap (λ b. b.views) c.replace.ensures.value ∙ i.1)

pub invariant_of-seat : goal.invariant_of-seat
invariant_of-seat g c =
    let o = opened c.seat.inside.badge.table_id c.seat.inside.badge.views c.args.seat.now c.into_seat-holder.result.me.0 c.seat.view_is c.seat.invariant (ap (λ b. b.views) (sym c.replace.ensures.value) ∙ c.into_seat-holder.ensures.2) in
    let seat = c.into_seat-holder.result.me.0 in
    let room : 1 < seat.room = subst (λ (s : SeatView). 1 < s.room) o.is c.requires.room in
    is_seat c.part-other.new.holder.me (kept_of c.args.rights seat) c.into_badge.result.views c.part-other.ensures.parted.0 c.into_badge.ensures.2 o.idle (omega arith)

pub invariant_of-result : goal.invariant_of-result
invariant_of-result g c =
    let o = opened c.seat.inside.badge.table_id c.seat.inside.badge.views c.args.seat.now c.into_seat-holder.result.me.0 c.seat.view_is c.seat.invariant (ap (λ b. b.views) (sym c.replace.ensures.value) ∙ c.into_seat-holder.ensures.2) in
    let seat = c.into_seat-holder.result.me.0 in
    is_seat c.part-other.result.me (handed_on c.args.rights seat) c.into_badge-2.result.views c.part-other.ensures.parted.1 c.into_badge-2.ensures.2 o.idle (omega arith)
