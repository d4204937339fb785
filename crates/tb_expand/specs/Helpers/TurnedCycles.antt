-- A cycle cut out of a path, and rotated.
use Rattle.std.specs.Prelude.{◌≡◌, ℕ, List, [], ◌∷◌, ◌++◌, length, take, drop, nat_lt, ◌==◌, if◌then◌else◌}
use Rattle.std.specs.List.{IsFirstBest}

-- the part of a path from the first occurrence of this position on
abbrev pub onward : ℕ → List ℕ → List ℕ
onward again [] = []
onward again (position ∷ positions) = if position == again then position ∷ positions else onward again positions

-- the positions from the least position on, followed by the positions before the least
abbrev pub IsTurned : List ℕ → List ℕ → Type 0
IsTurned call_cycle positions = (at : ℕ) × IsFirstBest nat_lt call_cycle (length call_cycle) at × (positions ≡ drop at call_cycle ++ take at call_cycle)
