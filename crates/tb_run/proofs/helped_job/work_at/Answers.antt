use Rattle.std.proofs.Common.{refl}
use Rattle.std.proofs.Common.{subst, Some, ◌≡◌}
use Rattle.std.specs.Prelude.{slice_get}
use Rattle.tb_run.specs.declared.worker.Work.{Work}
use Rattle.tb_run.specs.Helpers.Desks.{begun}
use Rattle.tb_run.proofs.helped_job.work_at.Goals as goal

pub step_at-seat-requires-clause-begun : goal.step_at-seat-requires-clause-begun
step_at-seat-requires-clause-begun g c =
    let at = subst (λ (w : Work g.row.I.Denot g.row.O.Denot). slice_get g.K.Begins.starts c.args.at ≡ Some (begun g.O.Outlet.told g.O.Outlet.faults c.args.worker.seat w)) c.in-Steps.is c.requires.begun in
    (_, at, refl)
