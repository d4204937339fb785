use Rattle.std.proofs.Common.{arith, ◌≡◌, ◌++◌, List, ◌∷◌, map, length, vec_capacity, MatchOption, subst, sym, ap, ◌∙◌}
use Rattle.std.specs.List.{All}
use Rattle.tb_lock.specs.Rights.{Ticks as ToTick, has, no_rights, ticker_rights}
use Rattle.tb_lock.specs.Seats.{SeatView, first_seat, kept_of}
use Rattle.tb_run.specs.declared.ends.RunWhy.{RunWhy}
use Rattle.tb_run.specs.declared.ends.WorkEnd.{WorkEnd}
use Rattle.tb_run.specs.declared.lanes.Lanes.{Lanes}
use Rattle.tb_run.specs.declared.room.Ended.{Ended}
use Rattle.tb_run.specs.declared.worker.Worker.{Worker}
use Rattle.tb_run.specs.Joining.{JoinsAll}
use Rattle.tb_run.specs.declared.worker.Work.{Work}
use Rattle.tb_run.specs.Helpers.Desks.{all_begun}
use Rattle.tb_run.specs.Parting.{left_after, parted}
use Rattle.tb_run.specs.Parts.{job_rights}
use Rattle.tb_run.specs.Reasons.{reason_of}
use Rattle.tb_run.proofs.BackLemmas.{can_gather, has_come}
use Rattle.tb_run.proofs.NothingLemmas.{unparted}
use Rattle.tb_run.proofs.PartLemmas.{left_bus}
use Rattle.tb_run.proofs.DeskLemmas.{all_begun_is}
use Rattle.tb_run.proofs.GatherLemmas.{all_two}
use Rattle.tb_run.proofs.working.run_workers.Goals as goal

pub returns-in_default-clause-come : goal.returns-in_default-clause-come
returns-in_default-clause-come g c =
    let bus = ap (λ (s : SeatView). s.bus) c.requires.first in
    unparted c.args.ticks _ c.args.seat.now c.new.result (c.requires.first ∙ ap (λ b. first_seat b c.args.seat.now.origin) (sym bus))

pub returns-in_default-places-clause-come : goal.returns-in_default-places-clause-come
returns-in_default-places-clause-come g c =
    let bus = ap (λ (s : SeatView). s.bus) c.requires.first in
    unparted c.args.ticks _ c.args.seat.now c.new-in_default-places.result (c.requires.first ∙ ap (λ b. first_seat b c.args.seat.now.origin) (sym bus))

pub work-back-requires-clause-posts : goal.work-back-requires-clause-posts
work-back-requires-clause-posts g c κs within = subst (λ b. All (λ (it : (Worker g.row.W.Denot g.row.I.Denot g.row.O.Denot g.row.W-Plan.Denot g.row.W-Taken.Denot)). it.post.now.shared ≡ b) c.begin-team.result.0.workers.items) c.requires.bus c.begin-team.ensures.posts

pub work-back-requires-clause-starts : goal.work-back-requires-clause-starts
work-back-requires-clause-starts g c κs within =
    let told = g.O.Outlet.told in
    let faults = g.O.Outlet.faults in
    let workers = c.begin-team.result.0.workers.items in
    all_begun_is told faults (λ (it : (Worker g.row.W.Denot g.row.I.Denot g.row.O.Denot g.row.W-Plan.Denot g.row.W-Taken.Denot)). it.seat) (λ (it : (Worker g.row.W.Denot g.row.I.Denot g.row.O.Denot g.row.W-Plan.Denot g.row.W-Taken.Denot)). it.work) workers
    ∙ (ap (λ (ss : List SeatView). all_begun told faults ss (map (λ (it : (Worker g.row.W.Denot g.row.I.Denot g.row.O.Denot g.row.W-Plan.Denot g.row.W-Taken.Denot)). it.work) workers)) c.begin-team.ensures.seats
    ∙ (ap (λ (ws : List (Work g.row.I.Denot g.row.O.Denot)). all_begun told faults (parted c.args.seat.now job_rights) ws) c.begin-team.ensures.works
    ∙ c.requires.starts))

pub work-back-requires-clause-tick : goal.work-back-requires-clause-tick
work-back-requires-clause-tick g c κs within =
    let bus = ap (λ (s : SeatView). s.bus) c.requires.first in
    (ap (λ (s : SeatView). s.bus) c.begin-team.ensures.tick ∙ (left_bus c.args.seat.now job_rights ∙ bus), ap (λ (s : SeatView). has s.rights ToTick) c.begin-team.ensures.tick)

pub work-back-requires-clause-log : goal.work-back-requires-clause-log
work-back-requires-clause-log g c κs within =
    let bus = ap (λ (s : SeatView). s.bus) c.requires.first in
    ap (λ (s : SeatView). s.bus) c.begin-team.ensures.log ∙ (left_bus c.args.seat.now job_rights ∙ bus)

pub gather-ends-requires-clause-own : goal.gather-ends-requires-clause-own
gather-ends-requires-clause-own g c =
    let bus = ap (λ (s : SeatView). s.bus) c.requires.first in
    ap (λ (s : SeatView). s.bus) c.begin-team.ensures.seat ∙ (left_bus c.args.seat.now job_rights ∙ bus)

pub gather-ends-requires-clause-workers : goal.gather-ends-requires-clause-workers
gather-ends-requires-clause-workers g c =
    let bus = ap (λ (s : SeatView). s.bus) c.requires.first in
    let first = c.requires.first ∙ ap (λ b. first_seat b c.args.seat.now.origin) (sym bus) in
    let ins : length c.args.lanes.now.inlets.items ≡ 16 = (let k = c.args.lanes.now.inlets.ok.0 in let n = c.requires.inlets in omega arith) in
    let outs : length c.args.lanes.now.outlets.items ≡ 16 = (let k = c.args.lanes.now.outlets.ok.0 in let n = c.requires.outlets in omega arith) in
    let can =
    can_gather (λ (it : Worker g.row.W.Denot g.row.I.Denot g.row.O.Denot g.row.W-Plan.Denot g.row.W-Taken.Denot). it.seat) (λ (it : Worker g.row.W.Denot g.row.I.Denot g.row.O.Denot g.row.W-Plan.Denot g.row.W-Taken.Denot). it.end) (λ (it : Worker g.row.W.Denot g.row.I.Denot g.row.O.Denot g.row.W-Plan.Denot g.row.W-Taken.Denot). it.work) g.I.Inlet.told g.I.Inlet.faults g.O.Outlet.told g.O.Outlet.faults c.args.ticks c.args.seat.now c.args.lanes.now.inlets.items c.args.lanes.now.outlets.items
    c.begin-team.result.0.workers.items c.work-back.result.workers.items c.begin-team.result.0.tick_seat c.work-back.result.tick_seat c.begin-team.result.0.log_seat c.work-back.result.log_seat c.work-back.result.tick_end c.work-back.result.log_end
    _ _ _ _ _ _ _ _ c.work-back.result.writer _ _ first c.begin-team.ensures.seats c.begin-team.ensures.works c.begin-team.ensures.tick c.begin-team.ensures.log ins outs c.work-back.result.failed c.work-back.ensures.worked in
    subst (λ b. All (λ (it : Worker g.row.W.Denot g.row.I.Denot g.row.O.Denot g.row.W-Plan.Denot g.row.W-Taken.Denot). it.seat.bus ≡ b) c.work-back.result.workers.items) bus can.buses

pub with_others-ended-requires-clause-none : goal.with_others-ended-requires-clause-none
with_others-ended-requires-clause-none g c = ap (λ (e : Ended). e.seats.items) c.begin-team.ensures.ended ∙ c.args.room.for_ended.0

pub with_others-ended-requires-clause-room : goal.with_others-ended-requires-clause-room
with_others-ended-requires-clause-room g c =
    let e = ap (λ (e : Ended). vec_capacity e.seats) c.begin-team.ensures.ended in
    let r = c.args.room.for_ended.1 in
    let n = c.requires.room in
    omega arith

pub gather-ends-requires-clause-others : goal.gather-ends-requires-clause-others
gather-ends-requires-clause-others g c =
    let bus = ap (λ (s : SeatView). s.bus) c.requires.first in
    let first = c.requires.first ∙ ap (λ b. first_seat b c.args.seat.now.origin) (sym bus) in
    let ins : length c.args.lanes.now.inlets.items ≡ 16 = (let k = c.args.lanes.now.inlets.ok.0 in let n = c.requires.inlets in omega arith) in
    let outs : length c.args.lanes.now.outlets.items ≡ 16 = (let k = c.args.lanes.now.outlets.ok.0 in let n = c.requires.outlets in omega arith) in
    let can =
    can_gather (λ (it : Worker g.row.W.Denot g.row.I.Denot g.row.O.Denot g.row.W-Plan.Denot g.row.W-Taken.Denot). it.seat) (λ (it : Worker g.row.W.Denot g.row.I.Denot g.row.O.Denot g.row.W-Plan.Denot g.row.W-Taken.Denot). it.end) (λ (it : Worker g.row.W.Denot g.row.I.Denot g.row.O.Denot g.row.W-Plan.Denot g.row.W-Taken.Denot). it.work) g.I.Inlet.told g.I.Inlet.faults g.O.Outlet.told g.O.Outlet.faults c.args.ticks c.args.seat.now c.args.lanes.now.inlets.items c.args.lanes.now.outlets.items
    c.begin-team.result.0.workers.items c.work-back.result.workers.items c.begin-team.result.0.tick_seat c.work-back.result.tick_seat c.begin-team.result.0.log_seat c.work-back.result.log_seat c.work-back.result.tick_end c.work-back.result.log_end
    _ _ _ _ _ _ _ _ c.work-back.result.writer _ _ first c.begin-team.ensures.seats c.begin-team.ensures.works c.begin-team.ensures.tick c.begin-team.ensures.log ins outs c.work-back.result.failed c.work-back.ensures.worked in
    subst (All (λ (s : SeatView). s.bus ≡ c.args.post.now.shared)) (sym c.with_others-ended.ensures.seats) (all_two c.args.post.now.shared c.work-back.result.log_seat c.work-back.result.tick_seat (can.log_bus ∙ bus) (can.tick_bus ∙ bus))

pub gather-ends-requires-clause-seats : goal.gather-ends-requires-clause-seats
gather-ends-requires-clause-seats g c =
    let bus = ap (λ (s : SeatView). s.bus) c.requires.first in
    let first = c.requires.first ∙ ap (λ b. first_seat b c.args.seat.now.origin) (sym bus) in
    let ins : length c.args.lanes.now.inlets.items ≡ 16 = (let k = c.args.lanes.now.inlets.ok.0 in let n = c.requires.inlets in omega arith) in
    let outs : length c.args.lanes.now.outlets.items ≡ 16 = (let k = c.args.lanes.now.outlets.ok.0 in let n = c.requires.outlets in omega arith) in
    let can =
    can_gather (λ (it : Worker g.row.W.Denot g.row.I.Denot g.row.O.Denot g.row.W-Plan.Denot g.row.W-Taken.Denot). it.seat) (λ (it : Worker g.row.W.Denot g.row.I.Denot g.row.O.Denot g.row.W-Plan.Denot g.row.W-Taken.Denot). it.end) (λ (it : Worker g.row.W.Denot g.row.I.Denot g.row.O.Denot g.row.W-Plan.Denot g.row.W-Taken.Denot). it.work) g.I.Inlet.told g.I.Inlet.faults g.O.Outlet.told g.O.Outlet.faults c.args.ticks c.args.seat.now c.args.lanes.now.inlets.items c.args.lanes.now.outlets.items
    c.begin-team.result.0.workers.items c.work-back.result.workers.items c.begin-team.result.0.tick_seat c.work-back.result.tick_seat c.begin-team.result.0.log_seat c.work-back.result.log_seat c.work-back.result.tick_end c.work-back.result.log_end
    _ _ _ _ _ _ _ _ c.work-back.result.writer _ _ first c.begin-team.ensures.seats c.begin-team.ensures.works c.begin-team.ensures.tick c.begin-team.ensures.log ins outs c.work-back.result.failed c.work-back.ensures.worked in
    let two = ap length c.with_others-ended.ensures.seats in
    let t = c.with_others-ended.result.seats.ok.0 in
    let a = c.with_others-ended.ensures.room in
    let e = ap (λ (e : Ended). vec_capacity e.seats) c.begin-team.ensures.ended in
    let n = can.count in
    let k = c.work-back.result.workers.ok.0 in
    let m = c.requires.room in
    let r = c.args.room.for_ended.1 in
    omega arith

pub gather-ends-requires-clause-inlets : goal.gather-ends-requires-clause-inlets
gather-ends-requires-clause-inlets g c =
    let bus = ap (λ (s : SeatView). s.bus) c.requires.first in
    let first = c.requires.first ∙ ap (λ b. first_seat b c.args.seat.now.origin) (sym bus) in
    let ins : length c.args.lanes.now.inlets.items ≡ 16 = (let k = c.args.lanes.now.inlets.ok.0 in let n = c.requires.inlets in omega arith) in
    let outs : length c.args.lanes.now.outlets.items ≡ 16 = (let k = c.args.lanes.now.outlets.ok.0 in let n = c.requires.outlets in omega arith) in
    let can =
    can_gather (λ (it : Worker g.row.W.Denot g.row.I.Denot g.row.O.Denot g.row.W-Plan.Denot g.row.W-Taken.Denot). it.seat) (λ (it : Worker g.row.W.Denot g.row.I.Denot g.row.O.Denot g.row.W-Plan.Denot g.row.W-Taken.Denot). it.end) (λ (it : Worker g.row.W.Denot g.row.I.Denot g.row.O.Denot g.row.W-Plan.Denot g.row.W-Taken.Denot). it.work) g.I.Inlet.told g.I.Inlet.faults g.O.Outlet.told g.O.Outlet.faults c.args.ticks c.args.seat.now c.args.lanes.now.inlets.items c.args.lanes.now.outlets.items
    c.begin-team.result.0.workers.items c.work-back.result.workers.items c.begin-team.result.0.tick_seat c.work-back.result.tick_seat c.begin-team.result.0.log_seat c.work-back.result.log_seat c.work-back.result.tick_end c.work-back.result.log_end
    _ _ _ _ _ _ _ _ c.work-back.result.writer _ _ first c.begin-team.ensures.seats c.begin-team.ensures.works c.begin-team.ensures.tick c.begin-team.ensures.log ins outs c.work-back.result.failed c.work-back.ensures.worked in
    let lanes = c.begin-team.ensures.lanes in
    (ap (λ (l : Lanes g.row.I.Denot g.row.O.Denot). l.inlets.items) lanes ∙ c.args.room.for_inlets.0, let n = can.inlets in let m = c.requires.room in let k = ap (λ (l : Lanes g.row.I.Denot g.row.O.Denot). vec_capacity l.inlets) lanes in let r = c.args.room.for_inlets.1 in omega arith)

pub gather-ends-requires-clause-outlets : goal.gather-ends-requires-clause-outlets
gather-ends-requires-clause-outlets g c =
    let bus = ap (λ (s : SeatView). s.bus) c.requires.first in
    let first = c.requires.first ∙ ap (λ b. first_seat b c.args.seat.now.origin) (sym bus) in
    let ins : length c.args.lanes.now.inlets.items ≡ 16 = (let k = c.args.lanes.now.inlets.ok.0 in let n = c.requires.inlets in omega arith) in
    let outs : length c.args.lanes.now.outlets.items ≡ 16 = (let k = c.args.lanes.now.outlets.ok.0 in let n = c.requires.outlets in omega arith) in
    let can =
    can_gather (λ (it : Worker g.row.W.Denot g.row.I.Denot g.row.O.Denot g.row.W-Plan.Denot g.row.W-Taken.Denot). it.seat) (λ (it : Worker g.row.W.Denot g.row.I.Denot g.row.O.Denot g.row.W-Plan.Denot g.row.W-Taken.Denot). it.end) (λ (it : Worker g.row.W.Denot g.row.I.Denot g.row.O.Denot g.row.W-Plan.Denot g.row.W-Taken.Denot). it.work) g.I.Inlet.told g.I.Inlet.faults g.O.Outlet.told g.O.Outlet.faults c.args.ticks c.args.seat.now c.args.lanes.now.inlets.items c.args.lanes.now.outlets.items
    c.begin-team.result.0.workers.items c.work-back.result.workers.items c.begin-team.result.0.tick_seat c.work-back.result.tick_seat c.begin-team.result.0.log_seat c.work-back.result.log_seat c.work-back.result.tick_end c.work-back.result.log_end
    _ _ _ _ _ _ _ _ c.work-back.result.writer _ _ first c.begin-team.ensures.seats c.begin-team.ensures.works c.begin-team.ensures.tick c.begin-team.ensures.log ins outs c.work-back.result.failed c.work-back.ensures.worked in
    let lanes = c.begin-team.ensures.lanes in
    (ap (λ (l : Lanes g.row.I.Denot g.row.O.Denot). l.outlets.items) lanes ∙ c.args.room.for_outlets.0, let n = can.outlets in let m = c.requires.room in let k = ap (λ (l : Lanes g.row.I.Denot g.row.O.Denot). vec_capacity l.outlets) lanes in let r = c.args.room.for_outlets.1 in omega arith)

pub gather-ends-requires-clause-ends : goal.gather-ends-requires-clause-ends
gather-ends-requires-clause-ends g c =
    let bus = ap (λ (s : SeatView). s.bus) c.requires.first in
    let first = c.requires.first ∙ ap (λ b. first_seat b c.args.seat.now.origin) (sym bus) in
    let ins : length c.args.lanes.now.inlets.items ≡ 16 = (let k = c.args.lanes.now.inlets.ok.0 in let n = c.requires.inlets in omega arith) in
    let outs : length c.args.lanes.now.outlets.items ≡ 16 = (let k = c.args.lanes.now.outlets.ok.0 in let n = c.requires.outlets in omega arith) in
    let can =
    can_gather (λ (it : Worker g.row.W.Denot g.row.I.Denot g.row.O.Denot g.row.W-Plan.Denot g.row.W-Taken.Denot). it.seat) (λ (it : Worker g.row.W.Denot g.row.I.Denot g.row.O.Denot g.row.W-Plan.Denot g.row.W-Taken.Denot). it.end) (λ (it : Worker g.row.W.Denot g.row.I.Denot g.row.O.Denot g.row.W-Plan.Denot g.row.W-Taken.Denot). it.work) g.I.Inlet.told g.I.Inlet.faults g.O.Outlet.told g.O.Outlet.faults c.args.ticks c.args.seat.now c.args.lanes.now.inlets.items c.args.lanes.now.outlets.items
    c.begin-team.result.0.workers.items c.work-back.result.workers.items c.begin-team.result.0.tick_seat c.work-back.result.tick_seat c.begin-team.result.0.log_seat c.work-back.result.log_seat c.work-back.result.tick_end c.work-back.result.log_end
    _ _ _ _ _ _ _ _ c.work-back.result.writer _ _ first c.begin-team.ensures.seats c.begin-team.ensures.works c.begin-team.ensures.tick c.begin-team.ensures.log ins outs c.work-back.result.failed c.work-back.ensures.worked in
    let ends = c.with_others-ended.ensures.ends ∙ ap (λ (e : Ended). e.ends) c.begin-team.ensures.ended in
    (ap (λ v. v.items) ends ∙ c.args.room.for_ends.0, let n = can.count in let k = c.work-back.result.workers.ok.0 in let m = c.requires.room in let e = ap (λ v. vec_capacity v) ends in let r = c.args.room.for_ends.1 in omega arith)

pub returns-clause-inlets : goal.returns-clause-inlets
returns-clause-inlets g c =
    let bus = ap (λ (s : SeatView). s.bus) c.requires.first in
    let first = c.requires.first ∙ ap (λ b. first_seat b c.args.seat.now.origin) (sym bus) in
    let ins : length c.args.lanes.now.inlets.items ≡ 16 = (let k = c.args.lanes.now.inlets.ok.0 in let n = c.requires.inlets in omega arith) in
    let outs : length c.args.lanes.now.outlets.items ≡ 16 = (let k = c.args.lanes.now.outlets.ok.0 in let n = c.requires.outlets in omega arith) in
    let can =
    can_gather (λ (it : Worker g.row.W.Denot g.row.I.Denot g.row.O.Denot g.row.W-Plan.Denot g.row.W-Taken.Denot). it.seat) (λ (it : Worker g.row.W.Denot g.row.I.Denot g.row.O.Denot g.row.W-Plan.Denot g.row.W-Taken.Denot). it.end) (λ (it : Worker g.row.W.Denot g.row.I.Denot g.row.O.Denot g.row.W-Plan.Denot g.row.W-Taken.Denot). it.work) g.I.Inlet.told g.I.Inlet.faults g.O.Outlet.told g.O.Outlet.faults c.args.ticks c.args.seat.now c.args.lanes.now.inlets.items c.args.lanes.now.outlets.items
    c.begin-team.result.0.workers.items c.work-back.result.workers.items c.begin-team.result.0.tick_seat c.work-back.result.tick_seat c.begin-team.result.0.log_seat c.work-back.result.log_seat c.work-back.result.tick_end c.work-back.result.log_end
    _ _ _ _ _ _ _ _ c.work-back.result.writer _ _ first c.begin-team.ensures.seats c.begin-team.ensures.works c.begin-team.ensures.tick c.begin-team.ensures.log ins outs c.work-back.result.failed c.work-back.ensures.worked in
    let n = can.inlets in let e = ap length c.gather-ends.ensures.inlets in let k = c.gather-ends.new.lanes.inlets.ok.0 in omega arith

pub returns-clause-outlets : goal.returns-clause-outlets
returns-clause-outlets g c =
    let bus = ap (λ (s : SeatView). s.bus) c.requires.first in
    let first = c.requires.first ∙ ap (λ b. first_seat b c.args.seat.now.origin) (sym bus) in
    let ins : length c.args.lanes.now.inlets.items ≡ 16 = (let k = c.args.lanes.now.inlets.ok.0 in let n = c.requires.inlets in omega arith) in
    let outs : length c.args.lanes.now.outlets.items ≡ 16 = (let k = c.args.lanes.now.outlets.ok.0 in let n = c.requires.outlets in omega arith) in
    let can =
    can_gather (λ (it : Worker g.row.W.Denot g.row.I.Denot g.row.O.Denot g.row.W-Plan.Denot g.row.W-Taken.Denot). it.seat) (λ (it : Worker g.row.W.Denot g.row.I.Denot g.row.O.Denot g.row.W-Plan.Denot g.row.W-Taken.Denot). it.end) (λ (it : Worker g.row.W.Denot g.row.I.Denot g.row.O.Denot g.row.W-Plan.Denot g.row.W-Taken.Denot). it.work) g.I.Inlet.told g.I.Inlet.faults g.O.Outlet.told g.O.Outlet.faults c.args.ticks c.args.seat.now c.args.lanes.now.inlets.items c.args.lanes.now.outlets.items
    c.begin-team.result.0.workers.items c.work-back.result.workers.items c.begin-team.result.0.tick_seat c.work-back.result.tick_seat c.begin-team.result.0.log_seat c.work-back.result.log_seat c.work-back.result.tick_end c.work-back.result.log_end
    _ _ _ _ _ _ _ _ c.work-back.result.writer _ _ first c.begin-team.ensures.seats c.begin-team.ensures.works c.begin-team.ensures.tick c.begin-team.ensures.log ins outs c.work-back.result.failed c.work-back.ensures.worked in
    let n = can.outlets in let e = ap length c.gather-ends.ensures.outlets in let k = c.gather-ends.new.lanes.outlets.ok.0 in omega arith

pub returns-clause-come : goal.returns-clause-come
returns-clause-come g c =
    let bus = ap (λ (s : SeatView). s.bus) c.requires.first in
    let first = c.requires.first ∙ ap (λ b. first_seat b c.args.seat.now.origin) (sym bus) in
    let ins : length c.args.lanes.now.inlets.items ≡ 16 = (let k = c.args.lanes.now.inlets.ok.0 in let n = c.requires.inlets in omega arith) in
    let outs : length c.args.lanes.now.outlets.items ≡ 16 = (let k = c.args.lanes.now.outlets.ok.0 in let n = c.requires.outlets in omega arith) in
    let joins : JoinsAll (kept_of no_rights (kept_of ticker_rights (left_after c.args.seat.now job_rights))) (c.work-back.result.log_seat ∷ c.work-back.result.tick_seat ∷ map (λ (it : Worker g.row.W.Denot g.row.I.Denot g.row.O.Denot g.row.W-Plan.Denot g.row.W-Taken.Denot). it.seat) c.work-back.result.workers.items) c.gather-ends.new.seat =
    subst (λ (s : SeatView). JoinsAll s (c.work-back.result.log_seat ∷ c.work-back.result.tick_seat ∷ map (λ (it : Worker g.row.W.Denot g.row.I.Denot g.row.O.Denot g.row.W-Plan.Denot g.row.W-Taken.Denot). it.seat) c.work-back.result.workers.items) c.gather-ends.new.seat) c.begin-team.ensures.seat
    (subst (λ (ss : List SeatView). JoinsAll c.begin-team.new.seat (ss ++ map (λ (it : Worker g.row.W.Denot g.row.I.Denot g.row.O.Denot g.row.W-Plan.Denot g.row.W-Taken.Denot). it.seat) c.work-back.result.workers.items) c.gather-ends.new.seat) c.with_others-ended.ensures.seats c.gather-ends.ensures.joins) in
    let ends : c.as_slice.result.now ≡ map (λ (it : Worker g.row.W.Denot g.row.I.Denot g.row.O.Denot g.row.W-Plan.Denot g.row.W-Taken.Denot). it.end) c.work-back.result.workers.items = c.as_slice.ensures.value ∙ c.gather-ends.ensures.ends in
    let why =
    subst (λ (es : List WorkEnd). MatchOption c.work-back.result.failed (c.why_of.result ≡ reason_of c.work-back.result.tick_end es c.work-back.result.log_end) (λ (w : RunWhy). c.why_of.result ≡ w)) ends c.why_of.ensures in
    has_come (λ (it : Worker g.row.W.Denot g.row.I.Denot g.row.O.Denot g.row.W-Plan.Denot g.row.W-Taken.Denot). it.seat) (λ (it : Worker g.row.W.Denot g.row.I.Denot g.row.O.Denot g.row.W-Plan.Denot g.row.W-Taken.Denot). it.end) (λ (it : Worker g.row.W.Denot g.row.I.Denot g.row.O.Denot g.row.W-Plan.Denot g.row.W-Taken.Denot). it.work) g.I.Inlet.told g.I.Inlet.faults g.O.Outlet.told g.O.Outlet.faults c.args.ticks c.args.seat.now c.args.lanes.now.inlets.items c.args.lanes.now.outlets.items
    c.begin-team.result.0.workers.items c.work-back.result.workers.items c.begin-team.result.0.tick_seat c.work-back.result.tick_seat c.begin-team.result.0.log_seat c.work-back.result.log_seat c.work-back.result.tick_end c.work-back.result.log_end
    _ _ _ _ _ _ _ _ c.work-back.result.writer _ _ first c.begin-team.ensures.seats c.begin-team.ensures.works c.begin-team.ensures.tick c.begin-team.ensures.log ins outs c.work-back.result.failed
    c.joins_keep_their_own.ensures.first c.joins_keep_their_own.ensures.second c.a_bus_that_is_down_stays_down.ensures.stays c.a_bus_that_is_down_stays_down.ensures.empty c.gather-ends.new.seat c.gather-ends.new.lanes.inlets.items c.gather-ends.new.lanes.outlets.items c.why_of.result
    (λ k d h. (c.begin-team.ensures.ready k d h).right) joins c.gather-ends.ensures.inlets c.gather-ends.ensures.outlets c.work-back.ensures.worked why c.work-back.ensures.calm
