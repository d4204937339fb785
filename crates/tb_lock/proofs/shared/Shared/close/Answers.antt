use Rattle.tb_lock.proofs.CallLemmas.{opened, closes_on}
use Rattle.tb_lock.proofs.shared.Shared.close.Goals as goal

pub returns : goal.returns
returns g c =
    let o = opened c.seat.inside.badge.table_id c.seat.inside.badge.views c.args.seat c.into_seat-holder.result.me.0 c.seat.view_is c.seat.invariant c.into_seat-holder.ensures.2 in
    closes_on c.seat.inside.badge.table_id c.into_seat-holder.result.me.0 c.acquire.result c.args.seat o.is c.acquire.ensures.meets c.requires.rights c.requires.room
