use Rattle.std.proofs.Common.{◌≡◌, length, vec_len, vec_capacity}
use Rattle.toolbus.proofs.main.Given as goal

abbrev pub invariant-loop-inlet : goal.invariant-loop-inlet
invariant-loop-inlet g l = (vec_len l.lanes ≡ length l.yielded) × (vec_capacity l.lanes ≡ 16)
