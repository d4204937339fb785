use Rattle.std.proofs.Common.{◌≡◌, ◌≤◌, ◌+◌, ◌++◌, length, map, vec_len, vec_capacity}
use Rattle.std.specs.List.{All}
use Rattle.tb_run.specs.Jobs.{IsReady}
use Rattle.tb_run.specs.Running.{Fits}
use Rattle.tb_run.proofs.starting.begin_all.Given as goal

abbrev pub invariant-loop-work : goal.invariant-loop-work
invariant-loop-work g l =
    Fits l.fn.post.shared l.seats.rest.items l.work-iterator.rest.items
    × (vec_len l.workers + length l.work-iterator.rest.items ≤ vec_capacity l.workers)
    × (map (λ it. it.seat) l.workers.items ++ l.seats.rest.items ≡ l.fn.seats.items)
    × (map (λ it. it.work) l.workers.items ++ l.work-iterator.rest.items ≡ l.fn.works.items)
    × All (λ it. IsReady it.post.now.shared it.seat it.work) l.workers.items
    × (length l.seats.rest.items ≡ length l.work-iterator.rest.items)
    × (vec_len l.buffers ≡ length l.work-iterator.rest.items)
    × All (λ it. it.post.now.shared ≡ l.fn.post.shared) l.workers.items
