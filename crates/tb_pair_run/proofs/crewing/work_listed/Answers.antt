use Rattle.std.proofs.Common.{rules, ◌≡◌, sym, ◌∙◌}
use Rattle.tb_run.specs.Running.{FailsFor}
use Rattle.tb_pair.specs.Ticking.{TicksPair}
use Rattle.tb_pair_run.specs.declared.lent.LentTicking.{LentTicking}
use Rattle.tb_pair_run.proofs.BackLemmas.{worked_so, calm_so}
use Rattle.tb_pair_run.proofs.crewing.work_listed.Goals as goal

pub crew_jobs-failed-requires-clause-jobs : goal.crew_jobs-failed-requires-clause-jobs
crew_jobs-failed-requires-clause-jobs g c κs within = c.requires.jobs

pub crew_jobs-failed-requires-clause-ticking : goal.crew_jobs-failed-requires-clause-ticking
crew_jobs-failed-requires-clause-ticking g c κs within = record { one = c.requires.one.0; one_open = c.requires.one.1; other = c.requires.other.0; other_open = c.requires.other.1 }

pub returns-clause-worked : goal.returns-clause-worked
returns-clause-worked g c =
    let t = c.crew_jobs-failed.new.ticking in
    let e = c.ticked_of-ticked.ensures in
    let hs : c.ticked_of-ticked.result.seat ≡ t.one.now.seat = search rules in
    let hp : c.ticked_of-ticked.result.others_seat ≡ t.other.now.seat = search rules in
    worked_so c.crew_jobs-failed.result.0 _
    (λ s o k d f. TicksPair c.args.ticks c.args.one.seat s c.args.other.seat o (g.C.Clock.told c.args.clock.now) (g.C.Clock.told k) (g.C.Clock.faults c.args.clock.now) (g.C.Clock.faults k) d f)
    (λ w. FailsFor w (g.P.Crew.faults c.args.crew.now) (g.P.Crew.faults c.crew_jobs-failed.new.crew)) _ _ t
    (λ (x : LentTicking g.row.W.Denot g.row.C.Denot g.row.W-Plan.Denot g.row.W-Taken.Denot). x.one.now.seat) (λ (x : LentTicking g.row.W.Denot g.row.C.Denot g.row.W-Plan.Denot g.row.W-Taken.Denot). x.other.now.seat)
    (λ (x : LentTicking g.row.W.Denot g.row.C.Denot g.row.W-Plan.Denot g.row.W-Taken.Denot). x.clock.now) (λ (x : LentTicking g.row.W.Denot g.row.C.Denot g.row.W-Plan.Denot g.row.W-Taken.Denot). x.one_end) (λ (x : LentTicking g.row.W.Denot g.row.C.Denot g.row.W-Plan.Denot g.row.W-Taken.Denot). x.other_end)
    g.C.Clock.told _ _ _ _ _ hs hp (c.clock-1.given.1 (sym c.crew_jobs-failed.ensures.clock) ∙ c.end_ticks-end.ensures.clock) (e.ends.0 ∙ c.end_ticks-end.ensures.ends.0) (e.ends.1 ∙ c.end_ticks-end.ensures.ends.1) c.crew_jobs-failed.ensures.done

pub returns-clause-calm : goal.returns-clause-calm
returns-clause-calm g c =
    calm_so c.crew_jobs-failed.result.0 _ _ c.crew_jobs-failed.new.ticking (λ (x : LentTicking g.row.W.Denot g.row.C.Denot g.row.W-Plan.Denot g.row.W-Taken.Denot). x.clock.now) g.C.Clock.faults _
    (c.clock-1.given.1 (sym c.crew_jobs-failed.ensures.clock) ∙ c.end_ticks-end.ensures.clock) c.crew_jobs-failed.ensures.calm
