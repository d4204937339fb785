use Rattle.std.proofs.Common.{rules, arith, ◌≡◌, ◌++◌, List, length, length-append, subst, sym, ◌∙◌}
use Rattle.std.specs.List.{All}
use Rattle.tb_run.specs.declared.worker.Worker.{Worker}
use Rattle.tb_run.specs.Jobs.{IsReady as IsReadyWorker, WorkDone}
use Rattle.tb_pair.specs.declared.job.PairJob.{PairJob}
use Rattle.tb_pair.specs.Jobs.{IsReady}
use Rattle.tb_pair_run.proofs.TeamLemmas.{team_jobs, team_back, team_ready}
use Rattle.tb_pair_run.proofs.crewing.work.Goals as goal

pub put_together-requires-clause-none : goal.put_together-requires-clause-none
put_together-requires-clause-none g c = c.args.lists.for_jobs.0

pub put_together-requires-clause-room : goal.put_together-requires-clause-room
put_together-requires-clause-room g c =
    let a = c.requires.counts.0 in let b = c.requires.counts.1 in let k = c.args.crowd.workers.ok.0 in let m = c.args.crowd.others.ok.0 in let r = c.args.lists.for_jobs.1 in omega arith

pub work_listed-failed-requires-clause-jobs : goal.work_listed-failed-requires-clause-jobs
work_listed-failed-requires-clause-jobs g c κs within =
    subst (λ (jobs : List (PairJob g.row.W.Denot (Worker g.row.W.Denot g.row.I.Denot g.row.O.Denot g.row.W-Plan.Denot g.row.W-Taken.Denot) g.row.W-Plan.Denot g.row.W-Taken.Denot)). All (IsReady (λ it. IsReadyWorker it.post.now.shared it.seat it.work)) jobs) (sym c.put_together.ensures)
    (team_ready (λ it. IsReadyWorker it.post.now.shared it.seat it.work) c.args.crowd.writing c.args.crowd.reading c.args.crowd.workers.items c.args.crowd.others.items c.requires.writing c.requires.reading c.requires.workers c.requires.others)

pub work_listed-failed-requires-clause-one : goal.work_listed-failed-requires-clause-one
work_listed-failed-requires-clause-one g c κs within = c.requires.one

pub work_listed-failed-requires-clause-other : goal.work_listed-failed-requires-clause-other
work_listed-failed-requires-clause-other g c κs within = c.requires.other

pub part-crowd-requires : goal.part-crowd-requires
part-crowd-requires g c =
    let t =
    team_back (λ old new. WorkDone g.I.Inlet.told g.O.Outlet.told g.O.Outlet.faults old.seat new.seat new.end old.work new.work) c.args.crowd.writing c.args.crowd.reading (c.args.crowd.workers.items ++ c.args.crowd.others.items) c.put_together.new.jobs.items c.work_listed-failed.result.1.items c.work_listed-failed.result.0 _ _ _
    c.put_together.ensures c.work_listed-failed.ensures.worked in
    let n = length-append c.args.crowd.workers.items c.args.crowd.others.items in
    let a = c.requires.counts.0 in let b = c.requires.counts.1 in
    record { team = t.0; count = (let k = t.1 in omega (arith, k, n, a, b)); workers = c.args.lists.for_workers; others = c.args.lists.for_others }

pub returns-clause-worked : goal.returns-clause-worked
returns-clause-worked g c =
    team_jobs (λ old new. WorkDone g.I.Inlet.told g.O.Outlet.told g.O.Outlet.faults old.seat new.seat new.end old.work new.work)
    c.args.crowd.writing c.part-crowd.result.writing c.args.crowd.reading c.part-crowd.result.reading c.args.crowd.workers.items c.part-crowd.result.workers.items c.args.crowd.others.items c.part-crowd.result.others.items
    c.put_together.new.jobs.items c.work_listed-failed.result.1.items c.work_listed-failed.result.0 _ _ _ c.put_together.ensures c.part-crowd.ensures.jobs (c.requires.counts.0 ∙ sym c.part-crowd.ensures.count) c.work_listed-failed.ensures.worked

pub returns-clause-calm : goal.returns-clause-calm
returns-clause-calm g c = c.work_listed-failed.ensures.calm
