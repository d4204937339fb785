use Rattle.std.proofs.Common.{◌≡◌, ◌∷◌, ◌++◌, List, map, length, subst, sym, ap, ◌∙◌}
use Rattle.std.specs.List.{All}
use Rattle.rtrb.specs.Ring.{IsPair, received, sent}
use Rattle.tb_run.specs.declared.worker.Worker.{Worker}
use Rattle.tb_run.specs.Jobs.{IsReady}
use Rattle.tb_run.specs.Joining.{JoinsAll}
use Rattle.tb_run.specs.Parting.{parted}
use Rattle.tb_pair.specs.Jobs.{CanServe}
use Rattle.tb_pair.specs.Ticking.{CanTick}
use Rattle.tb_pair_run.specs.Helpers.Parts.{lane_rights}
use Rattle.tb_pair_run.proofs.RunLemmas.{pair_has_come}
use Rattle.tb_pair_run.proofs.SettleLemmas.{came_back, can_serve, can_tick, first_so}
use Rattle.tb_pair_run.proofs.working.run_stocked.Goals as goal

pub work-back-requires-clause-writing : goal.work-back-requires-clause-writing
work-back-requires-clause-writing g c κs within =
    let m = c.man-manned in
    subst (λ b. CanServe b m.result.crowd.writing.seat) (sym m.ensures.writing.1) (can_serve c.args.one.post.now.shared c.args.one.seat m.result.crowd.writing.seat c.requires.one (m.ensures.writing.0 ∙ c.start-started.ensures.pipe))

pub work-back-requires-clause-reading : goal.work-back-requires-clause-reading
work-back-requires-clause-reading g c κs within =
    let m = c.man-manned in
    subst (λ b. CanServe b m.result.crowd.reading.seat) (sym m.ensures.reading.1) (can_serve c.args.other.post.now.shared c.args.other.seat m.result.crowd.reading.seat c.requires.other (m.ensures.reading.0 ∙ c.start-others_started.ensures.pipe))

pub work-back-requires-clause-workers : goal.work-back-requires-clause-workers
work-back-requires-clause-workers g c κs within =
    subst (λ (ws : List (Worker g.row.W.Denot g.row.I.Denot g.row.O.Denot g.row.W-Plan.Denot g.row.W-Taken.Denot)). All (λ (it : Worker g.row.W.Denot g.row.I.Denot g.row.O.Denot g.row.W-Plan.Denot g.row.W-Taken.Denot). IsReady it.post.now.shared it.seat it.work) ws) (sym c.man-manned.ensures.workers) c.start-started.ensures.ready

pub work-back-requires-clause-others : goal.work-back-requires-clause-others
work-back-requires-clause-others g c κs within =
    subst (λ (ws : List (Worker g.row.W.Denot g.row.I.Denot g.row.O.Denot g.row.W-Plan.Denot g.row.W-Taken.Denot)). All (λ (it : Worker g.row.W.Denot g.row.I.Denot g.row.O.Denot g.row.W-Plan.Denot g.row.W-Taken.Denot). IsReady it.post.now.shared it.seat it.work) ws) (sym c.man-manned.ensures.others) c.start-others_started.ensures.ready

pub work-back-requires-clause-counts : goal.work-back-requires-clause-counts
work-back-requires-clause-counts g c κs within = (ap length c.man-manned.ensures.workers ∙ c.start-started.ensures.count, ap length c.man-manned.ensures.others ∙ c.start-others_started.ensures.count)

pub work-back-requires-clause-one : goal.work-back-requires-clause-one
work-back-requires-clause-one g c κs within =
    let m = c.man-manned in
    (subst (λ b. CanTick b m.result.one.seat) (sym m.ensures.one.1) (can_tick c.args.one.post.now.shared c.args.one.seat m.result.one.seat c.requires.one (m.ensures.one.0 ∙ c.start-started.ensures.tick)), m.ensures.one.2)

pub work-back-requires-clause-other : goal.work-back-requires-clause-other
work-back-requires-clause-other g c κs within =
    let m = c.man-manned in
    (subst (λ b. CanTick b m.result.other.seat) (sym m.ensures.other.1) (can_tick c.args.other.post.now.shared c.args.other.seat m.result.other.seat c.requires.other (m.ensures.other.0 ∙ c.start-others_started.ensures.tick)), m.ensures.other.2)

pub settle-requires : goal.settle-requires
settle-requires g c =
    let s = c.start-started in
    let o = c.start-others_started in
    let m = c.man-manned in
    let w = c.work-back in
    let one = c.args.one in
    let other = c.args.other in
    let seats : map (λ (it : Worker g.row.W.Denot g.row.I.Denot g.row.O.Denot g.row.W-Plan.Denot g.row.W-Taken.Denot). it.seat) m.result.crowd.workers.items ≡ parted one.seat lane_rights = ap (map (λ (it : Worker g.row.W.Denot g.row.I.Denot g.row.O.Denot g.row.W-Plan.Denot g.row.W-Taken.Denot). it.seat)) m.ensures.workers ∙ s.ensures.seats in
    let others_seats : map (λ (it : Worker g.row.W.Denot g.row.I.Denot g.row.O.Denot g.row.W-Plan.Denot g.row.W-Taken.Denot). it.seat) m.result.crowd.others.items ≡ parted other.seat lane_rights = ap (map (λ (it : Worker g.row.W.Denot g.row.I.Denot g.row.O.Denot g.row.W-Plan.Denot g.row.W-Taken.Denot). it.seat)) m.ensures.others ∙ o.ensures.seats in
    let back =
    came_back (λ (it : Worker g.row.W.Denot g.row.I.Denot g.row.O.Denot g.row.W-Plan.Denot g.row.W-Taken.Denot). it.seat) (λ (it : Worker g.row.W.Denot g.row.I.Denot g.row.O.Denot g.row.W-Plan.Denot g.row.W-Taken.Denot). it.end) (λ (it : Worker g.row.W.Denot g.row.I.Denot g.row.O.Denot g.row.W-Plan.Denot g.row.W-Taken.Denot). it.work) g.I.Inlet.told g.I.Inlet.faults g.O.Outlet.told g.O.Outlet.faults c.args.ticks (g.C.Clock.told c.args.clock.now) (g.C.Clock.told w.new.clock) (g.C.Clock.faults c.args.clock.now) (g.C.Clock.faults w.new.clock) (g.P.Crew.faults c.args.crew.now) (g.P.Crew.faults w.new.crew)
    one.post.now.shared one.seat s.result.home.seat one.lanes.inlets.items one.lanes.outlets.items m.result.crowd.workers.items w.result.crowd.workers.items m.result.one.seat w.result.ticked.seat
    other.post.now.shared other.seat o.result.home.seat other.lanes.inlets.items other.lanes.outlets.items m.result.crowd.others.items w.result.crowd.others.items m.result.other.seat w.result.ticked.others_seat
    m.result.crowd.writing w.result.crowd.writing m.result.crowd.reading w.result.crowd.reading w.result.ticked.end w.result.ticked.others_end
    c.requires.one seats (ap (map (λ (it : Worker g.row.W.Denot g.row.I.Denot g.row.O.Denot g.row.W-Plan.Denot g.row.W-Taken.Denot). it.work)) m.ensures.workers ∙ s.ensures.works) c.requires.inlets.0 c.requires.outlets.0 s.ensures.seat
    c.requires.other others_seats (ap (map (λ (it : Worker g.row.W.Denot g.row.I.Denot g.row.O.Denot g.row.W-Plan.Denot g.row.W-Taken.Denot). it.work)) m.ensures.others ∙ o.ensures.works) c.requires.inlets.1 c.requires.outlets.1 o.ensures.seat
    (m.ensures.writing.0 ∙ s.ensures.pipe) (m.ensures.one.0 ∙ s.ensures.tick) (m.ensures.reading.0 ∙ o.ensures.pipe) (m.ensures.other.0 ∙ o.ensures.tick)
    (subst (λ p. IsPair p m.result.crowd.reading.pipe.end) (sym m.ensures.writing.2) (subst (λ k. IsPair c.args.stock.pipe.writes k) (sym m.ensures.reading.2) c.args.stock.pipe.for_ends.0))
    (ap sent m.ensures.writing.2 ∙ c.args.stock.pipe.for_ends.1) (ap received m.ensures.reading.2 ∙ c.args.stock.pipe.for_ends.2) w.result.failed w.ensures.worked in
    record { one = back.one.can; workers = back.one.buses; other = back.other.can; others = back.other.buses; room = s.ensures.room; others_room = o.ensures.room; ends = back.ends }

pub returns-clause-come : goal.returns-clause-come
returns-clause-come g c =
    let s = c.start-started in
    let o = c.start-others_started in
    let m = c.man-manned in
    let w = c.work-back in
    let one = c.args.one in
    let other = c.args.other in
    let seats : map (λ (it : Worker g.row.W.Denot g.row.I.Denot g.row.O.Denot g.row.W-Plan.Denot g.row.W-Taken.Denot). it.seat) m.result.crowd.workers.items ≡ parted one.seat lane_rights = ap (map (λ (it : Worker g.row.W.Denot g.row.I.Denot g.row.O.Denot g.row.W-Plan.Denot g.row.W-Taken.Denot). it.seat)) m.ensures.workers ∙ s.ensures.seats in
    let others_seats : map (λ (it : Worker g.row.W.Denot g.row.I.Denot g.row.O.Denot g.row.W-Plan.Denot g.row.W-Taken.Denot). it.seat) m.result.crowd.others.items ≡ parted other.seat lane_rights = ap (map (λ (it : Worker g.row.W.Denot g.row.I.Denot g.row.O.Denot g.row.W-Plan.Denot g.row.W-Taken.Denot). it.seat)) m.ensures.others ∙ o.ensures.seats in
    let back =
    came_back (λ (it : Worker g.row.W.Denot g.row.I.Denot g.row.O.Denot g.row.W-Plan.Denot g.row.W-Taken.Denot). it.seat) (λ (it : Worker g.row.W.Denot g.row.I.Denot g.row.O.Denot g.row.W-Plan.Denot g.row.W-Taken.Denot). it.end) (λ (it : Worker g.row.W.Denot g.row.I.Denot g.row.O.Denot g.row.W-Plan.Denot g.row.W-Taken.Denot). it.work) g.I.Inlet.told g.I.Inlet.faults g.O.Outlet.told g.O.Outlet.faults c.args.ticks (g.C.Clock.told c.args.clock.now) (g.C.Clock.told w.new.clock) (g.C.Clock.faults c.args.clock.now) (g.C.Clock.faults w.new.clock) (g.P.Crew.faults c.args.crew.now) (g.P.Crew.faults w.new.crew)
    one.post.now.shared one.seat s.result.home.seat one.lanes.inlets.items one.lanes.outlets.items m.result.crowd.workers.items w.result.crowd.workers.items m.result.one.seat w.result.ticked.seat
    other.post.now.shared other.seat o.result.home.seat other.lanes.inlets.items other.lanes.outlets.items m.result.crowd.others.items w.result.crowd.others.items m.result.other.seat w.result.ticked.others_seat
    m.result.crowd.writing w.result.crowd.writing m.result.crowd.reading w.result.crowd.reading w.result.ticked.end w.result.ticked.others_end
    c.requires.one seats (ap (map (λ (it : Worker g.row.W.Denot g.row.I.Denot g.row.O.Denot g.row.W-Plan.Denot g.row.W-Taken.Denot). it.work)) m.ensures.workers ∙ s.ensures.works) c.requires.inlets.0 c.requires.outlets.0 s.ensures.seat
    c.requires.other others_seats (ap (map (λ (it : Worker g.row.W.Denot g.row.I.Denot g.row.O.Denot g.row.W-Plan.Denot g.row.W-Taken.Denot). it.work)) m.ensures.others ∙ o.ensures.works) c.requires.inlets.1 c.requires.outlets.1 o.ensures.seat
    (m.ensures.writing.0 ∙ s.ensures.pipe) (m.ensures.one.0 ∙ s.ensures.tick) (m.ensures.reading.0 ∙ o.ensures.pipe) (m.ensures.other.0 ∙ o.ensures.tick)
    (subst (λ p. IsPair p m.result.crowd.reading.pipe.end) (sym m.ensures.writing.2) (subst (λ k. IsPair c.args.stock.pipe.writes k) (sym m.ensures.reading.2) c.args.stock.pipe.for_ends.0))
    (ap sent m.ensures.writing.2 ∙ c.args.stock.pipe.for_ends.1) (ap received m.ensures.reading.2 ∙ c.args.stock.pipe.for_ends.2) w.result.failed w.ensures.worked in
    let e = c.settle.ensures in
    pair_has_come c.joins_keep_their_own.ensures.first c.joins_keep_their_own.ensures.second c.a_bus_that_is_down_stays_down.ensures.stays c.a_bus_that_is_down_stays_down.ensures.empty c.a_full_log_is_at_its_limit.ensures.later
    (λ (it : Worker g.row.W.Denot g.row.I.Denot g.row.O.Denot g.row.W-Plan.Denot g.row.W-Taken.Denot). it.seat) (λ (it : Worker g.row.W.Denot g.row.I.Denot g.row.O.Denot g.row.W-Plan.Denot g.row.W-Taken.Denot). it.end) (λ (it : Worker g.row.W.Denot g.row.I.Denot g.row.O.Denot g.row.W-Plan.Denot g.row.W-Taken.Denot). it.work) g.I.Inlet.told g.I.Inlet.faults g.O.Outlet.told g.O.Outlet.faults c.args.ticks (g.C.Clock.told c.args.clock.now) (g.C.Clock.told w.new.clock) (g.C.Clock.faults c.args.clock.now) (g.C.Clock.faults w.new.clock) (g.P.Crew.faults c.args.crew.now) (g.P.Crew.faults w.new.crew) w.result.failed c.settle.result.why one.post.now.shared other.post.now.shared
    one.seat c.settle.result.one.seat one.lanes.inlets.items c.settle.result.one.lanes.inlets.items one.lanes.outlets.items c.settle.result.one.lanes.outlets.items m.result.crowd.workers.items w.result.crowd.workers.items
    m.result.crowd.writing.seat w.result.crowd.writing.seat m.result.one.seat w.result.ticked.seat w.result.crowd.writing.end w.result.ticked.end
    other.seat c.settle.result.other.seat other.lanes.inlets.items c.settle.result.other.lanes.inlets.items other.lanes.outlets.items c.settle.result.other.lanes.outlets.items m.result.crowd.others.items w.result.crowd.others.items
    m.result.crowd.reading.seat w.result.crowd.reading.seat m.result.other.seat w.result.ticked.others_seat w.result.crowd.reading.end w.result.ticked.others_end
    (sent w.result.crowd.writing.pipe.end) (received w.result.crowd.reading.pipe.end) e.met.0
    (record {
      first = first_so one.post.now.shared one.seat one.seat c.requires.one;
      seats = seats;
      works = ap (map (λ (it : Worker g.row.W.Denot g.row.I.Denot g.row.O.Denot g.row.W-Plan.Denot g.row.W-Taken.Denot). it.work)) m.ensures.workers ∙ s.ensures.works;
      fit = λ k d h. (subst (λ (ws : List (Worker g.row.W.Denot g.row.I.Denot g.row.O.Denot g.row.W-Plan.Denot g.row.W-Taken.Denot)). All (λ (it : Worker g.row.W.Denot g.row.I.Denot g.row.O.Denot g.row.W-Plan.Denot g.row.W-Taken.Denot). IsReady it.post.now.shared it.seat it.work) ws) (sym m.ensures.workers) s.ensures.ready k d h).right;
      pipe_is = m.ensures.writing.0 ∙ s.ensures.pipe;
      tick_is = m.ensures.one.0 ∙ s.ensures.tick;
      joins = subst (λ h. JoinsAll h (w.result.crowd.writing.seat ∷ w.result.ticked.seat ∷ map (λ (it : Worker g.row.W.Denot g.row.I.Denot g.row.O.Denot g.row.W-Plan.Denot g.row.W-Taken.Denot). it.seat) w.result.crowd.workers.items) c.settle.result.one.seat) s.ensures.seat e.joins;
      inlets = e.lanes.0;
      outlets = e.lanes.1;
      ins = c.requires.inlets.0;
      outs = c.requires.outlets.0;
    })
    (record {
      first = first_so other.post.now.shared other.seat other.seat c.requires.other;
      seats = others_seats;
      works = ap (map (λ (it : Worker g.row.W.Denot g.row.I.Denot g.row.O.Denot g.row.W-Plan.Denot g.row.W-Taken.Denot). it.work)) m.ensures.others ∙ o.ensures.works;
      fit = λ k d h. (subst (λ (ws : List (Worker g.row.W.Denot g.row.I.Denot g.row.O.Denot g.row.W-Plan.Denot g.row.W-Taken.Denot)). All (λ (it : Worker g.row.W.Denot g.row.I.Denot g.row.O.Denot g.row.W-Plan.Denot g.row.W-Taken.Denot). IsReady it.post.now.shared it.seat it.work) ws) (sym m.ensures.others) o.ensures.ready k d h).right;
      pipe_is = m.ensures.reading.0 ∙ o.ensures.pipe;
      tick_is = m.ensures.other.0 ∙ o.ensures.tick;
      joins = subst (λ h. JoinsAll h (w.result.crowd.reading.seat ∷ w.result.ticked.others_seat ∷ map (λ (it : Worker g.row.W.Denot g.row.I.Denot g.row.O.Denot g.row.W-Plan.Denot g.row.W-Taken.Denot). it.seat) w.result.crowd.others.items) c.settle.result.other.seat) o.ensures.seat e.others_joins;
      inlets = e.others_lanes.0;
      outlets = e.others_lanes.1;
      ins = c.requires.inlets.1;
      outs = c.requires.outlets.1;
    })
    (can_serve one.post.now.shared one.seat m.result.crowd.writing.seat c.requires.one (m.ensures.writing.0 ∙ s.ensures.pipe)) (can_serve other.post.now.shared other.seat m.result.crowd.reading.seat c.requires.other (m.ensures.reading.0 ∙ o.ensures.pipe))
    (can_tick one.post.now.shared one.seat m.result.one.seat c.requires.one (m.ensures.one.0 ∙ s.ensures.tick)) (can_tick other.post.now.shared other.seat m.result.other.seat c.requires.other (m.ensures.other.0 ∙ o.ensures.tick))
    e.met.1 back.all w.ensures.calm e.why

pub returns-clause-inlets : goal.returns-clause-inlets
returns-clause-inlets g c = c.settle.ensures.inlets

pub returns-clause-outlets : goal.returns-clause-outlets
returns-clause-outlets g c = c.settle.ensures.outlets

pub start-started-requires : goal.start-started-requires
start-started-requires g c = record { inlets = c.requires.inlets.0; outlets = c.requires.outlets.0; first = c.requires.one }

pub start-others_started-requires : goal.start-others_started-requires
start-others_started-requires g c = record { inlets = c.requires.inlets.1; outlets = c.requires.outlets.1; first = c.requires.other }
