-- A depth-first walk through a graph: the positions that are new, on the path, and done.
use Rattle.std.specs.Prelude.{◌≡◌, ℕ, ◌+◌, ◌-◌, ◌<◌, List, [], ◌∷◌, ◌++◌, length, take, slice_get, slice_set, replicate, Some, Contains}
use Rattle.tb_expand.specs.declared.walk.Visit.{Visit}
use Rattle.tb_expand.specs.declared.walk.Visit.TheVariants.{New, Open, Done}
use Rattle.tb_expand.specs.declared.walk.Walk.{Walk}
use Rattle.tb_expand.specs.Helpers.Graphs.{Graph, next_positions, AllDiffer}

-- a path from `position`: each position is a successor of the one before
abbrev pub LeadsOn : Graph → ℕ → List ℕ → Type 0
LeadsOn graph position [] = Unit {0}
LeadsOn graph position (next ∷ positions) = Contains (next_positions graph position) next × LeadsOn graph next positions

-- a path: each position after the first is a successor of the one before
abbrev pub IsWay : Graph → List ℕ → Type 0
IsWay graph [] = Unit {0}
IsWay graph (position ∷ positions) = LeadsOn graph position positions

-- The invariant between two steps. A position is on the path if and only if it is open. The successors that were looked at, and the
-- done positions, are in the order.
pub record IsWalk (graph : Graph) (walk : Walk) : Type 0 where
  pub sized : length walk.visits ≡ length graph
  pub leads : IsWay graph walk.way
  pub differ : AllDiffer walk.way
  pub is_open : (position : ℕ) → Contains walk.way position → (looked : ℕ) × (slice_get walk.visits position ≡ Some (Open looked))
  pub on_way : (position looked : ℕ) → slice_get walk.visits position ≡ Some (Open looked) → Contains walk.way position
  pub looked_at : (position looked next : ℕ) → slice_get walk.visits position ≡ Some (Open looked) → Contains (take looked (next_positions graph position)) next → Contains walk.order next
  pub done : (position : ℕ) → slice_get walk.visits position ≡ Some Done → Contains walk.order position
  pub inside : (position : ℕ) → Contains walk.order position → position < length graph
  pub behind : (at position next : ℕ) → slice_get walk.order at ≡ Some position → Contains (next_positions graph position) next → Contains (take at walk.order) next

-- the start and the three steps of a walk
abbrev pub start_of : ℕ → Walk
start_of count = record { visits = replicate count New; way = []; order = [] }

abbrev pub opened : Walk → ℕ → Walk
opened walk position = record { visits = slice_set walk.visits position (Open 0); way = walk.way ++ position ∷ []; order = walk.order }

abbrev pub advanced : Walk → ℕ → ℕ → Walk
advanced walk position looked = record { visits = slice_set walk.visits position (Open looked); way = walk.way; order = walk.order }

abbrev pub closed : Walk → ℕ → List ℕ → Walk
closed walk position prefix = record { visits = slice_set walk.visits position Done; way = prefix; order = walk.order ++ position ∷ [] }

-- a bound on the steps that are left at a position with these successors
abbrev pub left_at : List ℕ → Visit → ℕ
left_at positions New = length positions + 2
left_at positions (Open looked) = (length positions - looked) + 1
left_at positions Done = 0

-- a bound on the steps that are left
abbrev pub left_in : Graph → List Visit → ℕ
left_in [] visits = 0
left_in (positions ∷ graph) [] = 0
left_in (positions ∷ graph) (v ∷ visits) = left_at positions v + left_in graph visits

-- each position that is new after was new before
abbrev pub IsKnown : Walk → Walk → Type 0
IsKnown old new = (position : ℕ) → slice_get new.visits position ≡ Some New → slice_get old.visits position ≡ Some New

-- the walk after one more step, with a smaller bound
pub record Continues (graph : Graph) (old new : Walk) : Type 0 where
  pub is_walk : IsWalk graph new
  pub less : left_in graph new.visits < left_in graph old.visits
  pub known : IsKnown old new

-- the last position of the path has a successor on the path
pub record ClosesCycle (graph : Graph) (walk : Walk) (again : ℕ) : Type 0 where
  pub is_walk : IsWalk graph walk
  pub on_way : Contains walk.way again
  pub leads : IsWay graph (walk.way ++ again ∷ [])

-- the position was visited, and each position that is new was new before
pub record HasBegun (graph : Graph) (old new : Walk) (root : ℕ) : Type 0 where
  pub is_walk : IsWalk graph new
  pub known : IsKnown old new
  pub visited : slice_get new.visits root ≡ Some New → ⊥

-- the path is empty
pub record IsAtRest (graph : Graph) (walk : Walk) : Type 0 where
  pub is_walk : IsWalk graph walk
  pub empty : walk.way ≡ []

-- as `HasBegun`, with an empty path: the position is done, and everything that is reachable from it is in the order
pub record HasEnded (graph : Graph) (old new : Walk) (root : ℕ) : Type 0 where
  pub begun : HasBegun graph old new root
  pub empty : new.way ≡ []
