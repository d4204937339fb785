use Rattle.tb_edge.specs.Jobs.{AllDone}
use Rattle.tb_run.specs.declared.worker.Worker.{Worker}
use Rattle.tb_run.specs.Jobs.{WorkDone}
use Rattle.tb_pair.specs.declared.job.PairJob.{PairJob}
use Rattle.tb_pair.specs.Jobs.{JobDone}
use Rattle.tb_pair.specs.Ticking.{TicksPair}
use Rattle.tb_pair_run.proofs.BackLemmas.{back_by, counts_by}
use Rattle.tb_pair_run.proofs.crewing.crew_jobs.Goals as goal
use Rattle.std.proofs.Common.{◌≡◌, List}

pub returns-clause-done : goal.returns-clause-done
returns-clause-done g c =
    back_by (λ v. v.items) c.crew_all.result c.taken_back.result.0 c.taken_back.result.1.items c.args.jobs.items
    (λ js. AllDone {J = PairJob g.row.W.Denot (Worker g.row.W.Denot g.row.I.Denot g.row.O.Denot g.row.W-Plan.Denot g.row.W-Taken.Denot) g.row.W-Plan.Denot g.row.W-Taken.Denot} (JobDone (λ old new. WorkDone g.I.Inlet.told g.O.Outlet.told g.O.Outlet.faults old.seat new.seat new.end old.work new.work)) c.args.jobs.items js
    × TicksPair c.args.ticking.now.ticks c.args.ticking.now.one.now.seat c.crew_all.new.ticking.one.now.seat c.args.ticking.now.other.now.seat c.crew_all.new.ticking.other.now.seat (g.C.Clock.told c.args.ticking.now.clock.now) (g.C.Clock.told c.crew_all.new.ticking.clock.now) (g.C.Clock.faults c.args.ticking.now.clock.now) (g.C.Clock.faults c.crew_all.new.ticking.clock.now) c.crew_all.new.ticking.one_end c.crew_all.new.ticking.other_end)
    (c.crew_all.new.ticking ≡ c.args.ticking.now) (g.P.Crew.faults c.args.crew.now) (g.P.Crew.faults c.crew_all.new.crew)
    c.taken_back.ensures.ok c.taken_back.ensures.err c.crew_all.ensures.ok c.crew_all.ensures.err c.crew_all.ensures.rose

pub returns-clause-calm : goal.returns-clause-calm
returns-clause-calm g c =
    counts_by (λ v. v.items) c.crew_all.result c.taken_back.result.0 c.taken_back.result.1.items c.args.jobs.items
    (g.P.Crew.faults c.crew_all.new.crew ≡ g.P.Crew.faults c.args.crew.now) (c.crew_all.new.ticking ≡ c.args.ticking.now)
    c.taken_back.ensures.ok c.taken_back.ensures.err c.crew_all.ensures.calm c.crew_all.ensures.err
