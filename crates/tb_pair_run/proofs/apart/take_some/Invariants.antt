use Rattle.std.proofs.Common.{◌≡◌, ◌≤◌, ◌+◌, ◌++◌, length, vec_len, vec_capacity}
use Rattle.tb_pair_run.specs.Helpers.Teams.{AreOthers, others_of}
use Rattle.tb_pair_run.proofs.apart.take_some.Given as goal

abbrev pub invariant-loop-taken : goal.invariant-loop-taken
invariant-loop-taken g l =
    AreOthers l.jobs.rest.items
    × (vec_len l.workers ≡ l._taken)
    × (31 ≤ vec_capacity l.workers)
    × (31 ≤ length l.jobs.rest.items + l._taken)
    × (others_of l.workers.items ++ l.jobs.rest.items ≡ l.fn.jobs.rest.items)
