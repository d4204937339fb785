use Rattle.std.proofs.Common.{◌≡◌, ◌≤◌, ◌+◌, ◌++◌, length, vec_len, vec_capacity}
use Rattle.std.specs.List.{filter_map}
use Rattle.tb_run.proofs.helped_job.workers_of.Given as goal

abbrev pub invariant-loop-job : goal.invariant-loop-job
invariant-loop-job g l =
    (vec_len l.workers + length l.job-iterator.rest.items ≤ vec_capacity l.workers)
    × (l.workers.items ++ filter_map (λ it. it.worker) l.job-iterator.rest.items ≡ filter_map (λ it. it.worker) l.fn.jobs.items)
