use Rattle.std.proofs.Common.{◌≡◌, List, ◌∷◌, map, length, subst, sym, ap, ◌∙◌}
use Rattle.tb_lock.specs.Seats.{SeatView}
use Rattle.tb_run.specs.Joining.{JoinsAll}
use Rattle.tb_run.specs.declared.lanes.Lanes.{Lanes}
use Rattle.tb_run.specs.declared.worker.Worker.{Worker}
use Rattle.tb_pair_run.proofs.working.settle.Goals as goal

pub returns-clause-joins : goal.returns-clause-joins
returns-clause-joins g c =
    subst (JoinsAll c.args.home.seat (c.args.back.crowd.writing.seat ∷ c.args.back.ticked.seat ∷ map (λ (it : Worker g.row.W.Denot g.row.I.Denot g.row.O.Denot g.row.W-Plan.Denot g.row.W-Taken.Denot). it.seat) c.args.back.crowd.workers.items))
    (sym c.of_done.ensures.seat) c.finish-done.ensures.joins

pub returns-clause-others_joins : goal.returns-clause-others_joins
returns-clause-others_joins g c =
    subst (JoinsAll c.args.others_home.seat (c.args.back.crowd.reading.seat ∷ c.args.back.ticked.others_seat ∷ map (λ (it : Worker g.row.W.Denot g.row.I.Denot g.row.O.Denot g.row.W-Plan.Denot g.row.W-Taken.Denot). it.seat) c.args.back.crowd.others.items))
    (sym c.of_done-2.ensures.seat) c.finish-others_done.ensures.joins

pub returns-clause-inlets : goal.returns-clause-inlets
returns-clause-inlets g c = (
  ap (λ (l : Lanes g.row.I.Denot g.row.O.Denot). length l.inlets.items) c.of_done.ensures.lanes ∙ (ap length c.finish-done.ensures.inlets ∙ c.requires.one.inlets_are),
  ap (λ (l : Lanes g.row.I.Denot g.row.O.Denot). length l.inlets.items) c.of_done-2.ensures.lanes ∙ (ap length c.finish-others_done.ensures.inlets ∙ c.requires.other.inlets_are),
)

pub returns-clause-outlets : goal.returns-clause-outlets
returns-clause-outlets g c = (
  ap (λ (l : Lanes g.row.I.Denot g.row.O.Denot). length l.outlets.items) c.of_done.ensures.lanes ∙ (ap length c.finish-done.ensures.outlets ∙ c.requires.one.outlets_are),
  ap (λ (l : Lanes g.row.I.Denot g.row.O.Denot). length l.outlets.items) c.of_done-2.ensures.lanes ∙ (ap length c.finish-others_done.ensures.outlets ∙ c.requires.other.outlets_are),
)
