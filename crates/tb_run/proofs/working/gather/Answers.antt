use Rattle.std.proofs.Common.{◌≡◌, List, subst, sym}
use Rattle.std.specs.List.{All}
use Rattle.tb_lock.specs.Seats.{SeatView}
use Rattle.tb_run.specs.declared.worker.Worker.{Worker}
use Rattle.tb_run.proofs.GatherLemmas.{all_behind}
use Rattle.tb_run.proofs.working.gather.Goals as goal

pub join_all-requires-clause-others : goal.join_all-requires-clause-others
join_all-requires-clause-others g c =
    subst (λ (ss : List SeatView). All (λ (s : SeatView). s.bus ≡ c.args.shared.now) ss) (sym c.end_all.ensures.seats)
    (all_behind (λ (it : Worker g.row.W.Denot g.row.I.Denot g.row.O.Denot g.row.W-Plan.Denot g.row.W-Taken.Denot). it.seat) (λ (s : SeatView). s.bus ≡ c.args.shared.now) c.args.ended.seats.items c.args.workers.items c.requires.others c.requires.workers)
