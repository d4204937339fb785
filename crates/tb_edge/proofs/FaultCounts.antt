-- A rise of a count of faults stands over the calls before and after it.
use Rattle.std.proofs.Common.{ℕ, ◌≤◌, arith}
use Rattle.tb_edge.specs.Faults.{Rose}

pub Rose-after : (old mid new : ℕ) → old ≤ mid → Rose mid new → Rose old new
Rose-after old mid new before rose = grind arith

pub Rose-before : (old mid new : ℕ) → old ≤ mid → Rose old mid → mid ≤ new → Rose old new
Rose-before old mid new before rose after = grind arith
