use Rattle.std.proofs.Common.{◌≡◌, ◌+◌, length, All}
use Rattle.tb_lock.specs.Rights.{all_rights, no_rights}
use Rattle.tb_lock_tests.proofs.crowd.join_all.Given as goal

abbrev pub invariant-loop-other : goal.invariant-loop-other
invariant-loop-other l =
    (l.seat.bus ≡ l.fn.seat.bus) × (l.seat.rights ≡ all_rights) × (l.seat.room + length l.others.items ≡ l.fn.seat.room + length l.fn.others.items)
    × All (λ other. (other.bus ≡ l.fn.seat.bus) × (other.rights ≡ no_rights) × (other.room ≡ 1)) l.others.items

abbrev pub decreases-loop-other : goal.decreases-loop-other
decreases-loop-other l = length l.others.items
