use Rattle.std.proofs.Common.{◌≡◌, ◌≤◌, ◌+◌, ◌++◌, Some, length, map, drop, vec_len, vec_capacity}
use Rattle.std.specs.Prelude.{IfSome, slice_get}
use Rattle.std.specs.List.{All}
use Rattle.tb_run.specs.Jobs.{IsReady}
use Rattle.tb_run.specs.Helpers.Desks.{begun}
use Rattle.tb_run.proofs.helped_job.helped_jobs.Given as goal

abbrev pub invariant-loop-worker : goal.invariant-loop-worker
invariant-loop-worker g l =
    (vec_len l.jobs + length l.worker-iterator.rest.items ≤ vec_capacity l.jobs)
    × (map (λ it. it.worker) l.jobs.items ++ map (λ it. Some it) l.worker-iterator.rest.items ≡ map (λ it. Some it) l.fn.workers.items)
    × All (λ it. IfSome it.worker (λ worker. (worker.post.now.shared ≡ g.K.Begins.bus) × IsReady g.K.Begins.bus worker.seat worker.work × (slice_get g.K.Begins.starts it.at ≡ Some (begun g.O.Outlet.told g.O.Outlet.faults worker.seat worker.work)))) l.jobs.items
    × All (λ it. it.post.now.shared ≡ g.K.Begins.bus) l.worker-iterator.rest.items
    × All (λ it. IsReady it.post.now.shared it.seat it.work) l.worker-iterator.rest.items
    × (drop (vec_len l.jobs) g.K.Begins.starts ≡ map (λ it. begun g.O.Outlet.told g.O.Outlet.faults it.seat it.work) l.worker-iterator.rest.items)
