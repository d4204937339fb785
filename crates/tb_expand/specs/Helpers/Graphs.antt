-- Graphs, as lists of successors; topological orders; and cycles.
use Rattle.std.specs.Prelude.{◌≡◌, ℕ, ◌<◌, List, [], ◌∷◌, length, take, slice_get, Option, Some, None, Contains}

-- a graph: the successors of each position
abbrev pub Graph : Type 0
Graph = List (List ℕ)

abbrev pub or_nowhere : Option (List ℕ) → List ℕ
or_nowhere None = []
or_nowhere (Some positions) = positions

abbrev pub next_positions : Graph → ℕ → List ℕ
next_positions graph position = or_nowhere (slice_get graph position)

-- each successor is a position of the graph
abbrev pub IsClosed : Graph → Type 0
IsClosed graph = (position next : ℕ) → Contains (next_positions graph position) next → next < length graph

-- a topological order: all positions, each after its successors
pub record IsOrder (graph : Graph) (order : List ℕ) : Type 0 where
  pub inside : (position : ℕ) → Contains order position → position < length graph
  pub complete : (position : ℕ) → position < length graph → Contains order position
  pub behind : (at position next : ℕ) → slice_get order at ≡ Some position → Contains (next_positions graph position) next → Contains (take at order) next

-- a path from `position` through these positions, each a successor of the one before; `back` is a successor of the last
abbrev pub IsGraphPath : Graph → ℕ → ℕ → List ℕ → Type 0
IsGraphPath graph back position [] = Contains (next_positions graph position) back
IsGraphPath graph back position (next ∷ positions) = Contains (next_positions graph position) next × IsGraphPath graph back next positions

abbrev pub AllDiffer : List ℕ → Type 0
AllDiffer [] = Unit {0}
AllDiffer (position ∷ positions) = (Contains positions position → ⊥) × AllDiffer positions

-- a cycle of the graph, with its least position first
pub record IsGraphCycle (graph : Graph) (positions : List ℕ) : Type 0 where
  pub first : ℕ
  pub others : List ℕ
  pub is : positions ≡ first ∷ others
  pub graph_path : IsGraphPath graph first first others
  pub differ : AllDiffer positions
  pub inside : (position : ℕ) → Contains positions position → position < length graph
  pub is_first : (position : ℕ) → Contains others position → first < position
