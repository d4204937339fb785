use Rattle.std.proofs.Common.{◌≡◌}
use Rattle.tb_lock_tests.proofs.reads.row.Given as goal

abbrev pub invariant-loop : goal.invariant-loop
invariant-loop g l = (l.seat.bus ≡ l.fn.seat.bus) × (l.seat.rights ≡ l.fn.seat.rights) × (l.seat.room ≡ l.fn.seat.room)
