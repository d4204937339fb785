use Rattle.std.proofs.Common.{◌≡◌, ◌+◌, length}
use Rattle.tb_lock_tests.proofs.workers.make_steps.Given as goal

abbrev pub invariant-loop : goal.invariant-loop
invariant-loop g l = (l.seat.bus ≡ l.fn.seat.bus) × (l.seat.rights ≡ l.fn.seat.rights) × (l.seat.room ≡ l.fn.seat.room) × (length l.seat.mine ≡ length l.fn.seat.mine + l.counter)
