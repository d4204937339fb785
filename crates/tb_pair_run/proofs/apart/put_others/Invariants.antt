use Rattle.std.proofs.Common.{◌≡◌, ◌≤◌, ◌+◌, ◌++◌, length, vec_len, vec_capacity}
use Rattle.tb_pair_run.specs.Helpers.Teams.{others_of}
use Rattle.tb_pair_run.proofs.apart.put_others.Given as goal

abbrev pub invariant-loop-other : goal.invariant-loop-other
invariant-loop-other g l =
    (vec_len l.jobs + length l.other-iterator.rest.items ≤ vec_capacity l.jobs)
    × (l.jobs.items ++ others_of l.other-iterator.rest.items ≡ l.fn.jobs.items ++ others_of l.fn.others.items)
    × (vec_capacity l.jobs ≡ vec_capacity l.fn.jobs)
