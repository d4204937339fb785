use Rattle.std.proofs.Common.{ap, ◌∙◌}
use Rattle.tb_lock.specs.Seats.{SeatView}
use Rattle.tb_pair_run.proofs.OutsideLemmas.{pair_closed}
use Rattle.tb_pair_run.proofs.running.run_shared.Goals as goal

pub close_bus-core-requires : goal.close_bus-core-requires
close_bus-core-requires g c =
    let back = c.run_workers-came.ensures.come.first in
    record { own = back.bus ∙ ap (λ (s : SeatView). s.bus) c.requires.one; rights = back.rights; room = back.room }

pub close_bus-others_core-requires : goal.close_bus-others_core-requires
close_bus-others_core-requires g c =
    let back = c.run_workers-came.ensures.come.second in
    record { own = back.bus ∙ ap (λ (s : SeatView). s.bus) c.requires.other; rights = back.rights; room = back.room }

pub returns-clause-runs : goal.returns-clause-runs
returns-clause-runs g c =
    let one = c.close_bus-core.ensures in
    let two = c.close_bus-others_core.ensures in
    pair_closed c.args.ticks _ _ c.args.seat c.run_workers-came.result.one.seat c.args.others_seat c.run_workers-came.result.other.seat c.close_bus-core.result c.close_bus-others_core.result c.run_workers-came.result.why c.run_workers-came.ensures.come
    one.closes two.closes one.within two.within one.proper two.proper
