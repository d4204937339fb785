-- The trees that the nodes of a plan represent. The tree of a node is built from the trees of earlier nodes.
use Rattle.std.specs.Prelude.{◌≡◌, ℕ, ◌<◌, ◌≤◌, Bool, true, ◌&&◌, nat_lt, IsTrue, List, [], ◌∷◌, ◌++◌, length, Some, None, fold, slice_get, slice_index_or}
use Rattle.tb_body.specs.declared.tree.Tree.{Tree}
use Rattle.tb_body.specs.declared.tree.Tree.TheVariants as tree
use Rattle.tb_process_steps.specs.Processes.{Process, fresh}
use Rattle.tb_process_steps.specs.declared.node.Node.{Node}
use Rattle.tb_process_steps.specs.declared.node.Node.TheVariants.{At, Seq, Alt, Star, Par, Disrupt, If, Let}

-- the tree of an earlier node
abbrev pub made_at : List Tree → ℕ → Tree
made_at made at = slice_index_or made at (tree.At 0)

-- the tree of a node, built from the trees of the earlier nodes
abbrev pub built : List Tree → Node → Tree
built made (At atom) = tree.At atom
built made (Seq x y) = tree.Seq (made_at made x) (made_at made y)
built made (Alt x y) = tree.Alt (made_at made x) (made_at made y)
built made (Star x y) = tree.Star (made_at made x) (made_at made y)
built made (Par x y) = tree.Par (made_at made x) (made_at made y)
built made (Disrupt x y) = tree.Disrupt (made_at made x) (made_at made y)
built made (If test x None) = tree.If test (made_at made x) None
built made (If test x (Some y)) = tree.If test (made_at made x) (Some (made_at made y))
built made (Let settings x) = tree.Let settings (made_at made x)

abbrev pub with_node : List Tree → Node → List Tree
with_node made node = made ++ built made node ∷ []

-- the trees of all nodes, in the order of the nodes
unfoldable pub trees : List Node → List Tree
trees nodes = fold with_node [] nodes

abbrev pub tree_at : List Node → ℕ → Tree
tree_at nodes at = made_at (trees nodes) at

-- the term of a node that the process has just entered
unfoldable pub process_at : List Node → ℕ → Process
process_at nodes at = fresh (tree_at nodes at)

-- the parts of the node at this position are at earlier positions
abbrev pub is_behind : ℕ → Node → Bool
is_behind at (At atom) = true
is_behind at (Seq x y) = nat_lt x at && nat_lt y at
is_behind at (Alt x y) = nat_lt x at && nat_lt y at
is_behind at (Star x y) = nat_lt x at && nat_lt y at
is_behind at (Par x y) = nat_lt x at && nat_lt y at
is_behind at (Disrupt x y) = nat_lt x at && nat_lt y at
is_behind at (If test x None) = nat_lt x at
is_behind at (If test x (Some y)) = nat_lt x at && nat_lt y at
is_behind at (Let settings x) = nat_lt x at

abbrev pub AreBehind : List Node → Type 0
AreBehind nodes = (at : ℕ) → (node : Node) → slice_get nodes at ≡ Some node → IsTrue (is_behind at node)

-- The new nodes have a node for this tree at the given position. The earlier nodes represent the same trees as before.
pub record HasAdded (old : List Node) (new : List Node) (at : ℕ) (whole : Tree) : Type 0 where
  pub behind : AreBehind new
  pub within : at < length new
  pub longer : length old ≤ length new
  pub stays : (earlier : ℕ) → earlier < length old → tree_at new earlier ≡ tree_at old earlier
  pub stands : tree_at new at ≡ whole
