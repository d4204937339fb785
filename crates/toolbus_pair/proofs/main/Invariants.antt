use Rattle.std.proofs.Common.{◌≡◌, length, vec_len, vec_capacity}
use Rattle.toolbus_pair.proofs.main.Given as goal

abbrev pub invariant-loop-inlet : goal.invariant-loop-inlet
invariant-loop-inlet g l = (vec_len l.first ≡ length l.yielded) × (vec_capacity l.first ≡ 32)
