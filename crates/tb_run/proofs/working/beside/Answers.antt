use denote.Exit.{no}
use denote.Param.Send.{param_send, arg_send}
use Rattle.std.proofs.Common.{ap, arith}
use Rattle.tb_run.specs.declared.worker.Worker.{Worker}
use Rattle.tb_run.specs.declared.helped_job.HelpedJob.{HelpedJob}
use Rattle.tb_run.specs.declared.tick_job.TickJob.{TickJob}
use Rattle.tb_run.specs.Jobs.{WorkDone}
use Rattle.tb_run.proofs.BackLemmas.{either_way, match_map}
use Rattle.tb_run.proofs.HelpedLemmas.{back_length, given_length, worked_by}
use Rattle.tb_run.proofs.SendLemmas.{helped_job_send, tick_job_send}
use Rattle.tb_run.proofs.working.beside.Goals as goal

pub beside-requires-send-J : goal.beside-requires-send-J
beside-requires-send-J g c κs within =
    param_send _ _ (arg_send _ no _ (helped_job_send _ _ _ _ c.type_bounds.send-K c.type_bounds.send-O _ _ _ _ _ _ c.type_bounds.send-W c.type_bounds.send-I c.type_bounds.send-W-Plan c.type_bounds.send-W-Taken))

pub beside-requires-send-L : goal.beside-requires-send-L
beside-requires-send-L g c κs within =
    param_send _ _ (arg_send _ no _ (tick_job_send _ _ _ _ _ c.type_bounds.send-W c.type_bounds.send-W-Plan c.type_bounds.send-W-Taken _ c.type_bounds.send-C))

pub workers_of-requires-clause-room : goal.workers_of-requires-clause-room
workers_of-requires-clause-room g c =
    let news = back_length (λ v. v.items) c.beside.result c.taken_back-failed.result.0 c.helped_jobs.new.jobs.items c.taken_back-failed.result.1.items _ _ (λ u a. a.0.0) (λ it b. b.0) c.taken_back-failed.ensures.ok c.taken_back-failed.ensures.err c.beside.ensures.ok c.beside.ensures.err in
    let given = given_length (λ (it : (HelpedJob g.row.K.Denot g.row.W.Denot g.row.I.Denot g.row.O.Denot g.row.W-Plan.Denot g.row.W-Taken.Denot g.K.Begins g.O.Outlet)). it.worker) c.helped_jobs.new.jobs.items c.args.workers.items c.helped_jobs.ensures.workers in
    let room = c.in-Ok-with_capacity.ensures.capacity in
    let count = c.len-2.ensures in
    let back = c.taken_back-failed.result.1.ok.0 in
    let workers = c.args.workers.ok.0 in
    omega arith

pub returns-clause-clock : goal.returns-clause-clock
returns-clause-clock g c = either_way c.beside.result _ _ _ (λ v a. a.1.0) (λ it b. ap (λ (t : (TickJob g.row.W.Denot g.row.C.Denot g.row.W-Plan.Denot g.row.W-Taken.Denot)). t.clock.ghost_name) b.1) c.beside.ensures.ok c.beside.ensures.err

pub returns-clause-out : goal.returns-clause-out
returns-clause-out g c = either_way c.beside.result _ _ _ (λ v a. a.2.0) (λ it b. ap (λ t. t.out.ghost_name) b.2) c.beside.ensures.ok c.beside.ensures.err

pub returns-clause-worked : goal.returns-clause-worked
returns-clause-worked g c =
    match_map c.taken_back-failed.result.0 _ _ _ _ (λ d. (d.0, d.1.1, d.2.1)) (λ w n. n)
    (worked_by (λ (it : (HelpedJob g.row.K.Denot g.row.W.Denot g.row.I.Denot g.row.O.Denot g.row.W-Plan.Denot g.row.W-Taken.Denot g.K.Begins g.O.Outlet)). it.worker) (λ (old new : (Worker g.row.W.Denot g.row.I.Denot g.row.O.Denot g.row.W-Plan.Denot g.row.W-Taken.Denot)). WorkDone g.I.Inlet.told g.O.Outlet.told g.O.Outlet.faults old.seat new.seat new.end old.work new.work) (λ v. v.items) c.beside.result c.taken_back-failed.result.0
    c.helped_jobs.new.jobs.items c.taken_back-failed.result.1.items c.args.workers.items c.workers_of.result.items _ _ _ _ (g.P.Crew.faults c.args.crew.now) (g.P.Crew.faults c.beside.new.self)
    c.helped_jobs.ensures.workers c.workers_of.ensures c.taken_back-failed.ensures.ok c.taken_back-failed.ensures.err c.beside.ensures.ok c.beside.ensures.err c.beside.ensures.rose)
