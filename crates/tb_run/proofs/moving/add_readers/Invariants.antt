use Rattle.std.proofs.Common.{◌≡◌, ◌+◌, ◌++◌, length, vec_len, vec_capacity}
use Rattle.tb_run.specs.Moving.{readers}
use Rattle.tb_run.proofs.moving.add_readers.Given as goal

abbrev pub invariant-loop-inlet : goal.invariant-loop-inlet
invariant-loop-inlet g l =
    (l.lane + length l.inlet-iterator.rest.items ≡ l.fn.first + vec_len l.fn.inlets)
    × (vec_len l.works + length l.inlet-iterator.rest.items ≡ vec_len l.fn.works + vec_len l.fn.inlets)
    × (vec_capacity l.works ≡ vec_capacity l.fn.works)
    × (l.works.items ++ readers l.lane l.inlet-iterator.rest.items ≡ l.fn.works.items ++ readers l.fn.first l.fn.inlets.items)
