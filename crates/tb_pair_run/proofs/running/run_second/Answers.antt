use Rattle.std.proofs.Common.{ap, ◌∙◌}
use Rattle.tb_core.specs.Cores.{CoreState}
use Rattle.tb_lock.specs.Seats.{SeatView}
use Rattle.tb_pair_run.proofs.OutsideLemmas.{not_begun}
use Rattle.tb_pair_run.proofs.running.run_second.Goals as goal

pub close_bus-requires : goal.close_bus-requires
close_bus-requires g c = record { own = ap (λ (s : SeatView). s.bus) c.requires.one; rights = ap (λ (s : SeatView). s.rights) c.requires.one; room = ap (λ (s : SeatView). s.room) c.requires.one }

pub returns-in-Err-clause-runs : goal.returns-in-Err-clause-runs
returns-in-Err-clause-runs g c =
    let closes = c.close_bus.ensures.closes in
    not_begun c.args.ticks _ c.args.seat.origin c.args.second.origin c.close_bus.result c.in-Err.refused.core closes.origin (ap (λ (k : CoreState). k.origin) c.in-Err.ensures.err)
    (closes.log ∙ ap (λ (s : SeatView). s.seen) c.requires.one) (ap (λ (k : CoreState). k.log) c.in-Err.ensures.err ∙ c.requires.log)
