use Rattle.std.proofs.Common.{◌≡◌, ◌+◌, length, All}
use Rattle.tb_lock.specs.Rights.{all_rights, no_rights}
use Rattle.tb_lock_tests.proofs.crowd.split_off.Given as goal

abbrev pub invariant-loop : goal.invariant-loop
invariant-loop l =
    (l.seat.bus ≡ l.fn.seat.bus) × (l.seat.rights ≡ all_rights) × (l.seat.room + l.counter ≡ l.fn.seat.room) × (length l.seats.items ≡ l.counter)
    × All (λ other. (other.bus ≡ l.fn.seat.bus) × (other.rights ≡ no_rights) × (other.room ≡ 1)) l.seats.items
