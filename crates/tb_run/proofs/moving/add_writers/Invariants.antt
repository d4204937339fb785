use Rattle.std.proofs.Common.{◌≡◌, ◌+◌, ◌++◌, length, vec_len, vec_capacity}
use Rattle.tb_run.specs.Moving.{writers}
use Rattle.tb_run.proofs.moving.add_writers.Given as goal

abbrev pub invariant-loop-outlet : goal.invariant-loop-outlet
invariant-loop-outlet g l =
    (l.lane + length l.outlet-iterator.rest.items ≡ l.fn.first + vec_len l.fn.outlets)
    × (vec_len l.works + length l.outlet-iterator.rest.items ≡ vec_len l.fn.works + vec_len l.fn.outlets)
    × (vec_capacity l.works ≡ vec_capacity l.fn.works)
    × (l.works.items ++ writers l.lane l.outlet-iterator.rest.items ≡ l.fn.works.items ++ writers l.fn.first l.fn.outlets.items)
