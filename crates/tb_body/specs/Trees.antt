-- The atoms of a tree in the order of the source, and the depth of a tree.
use Rattle.std.specs.Prelude.{ℕ, ◌+◌, List, [], ◌∷◌, ◌++◌, max, Option, Some, None}
use Rattle.tb_body.specs.declared.tree.Tree.{Tree}
use Rattle.tb_body.specs.declared.tree.Tree.TheOpen.{Tree-F, At, Seq, Alt, Star, Par, Disrupt, If, Let}
use Rattle.tb_body.specs.declared.tree.Tree.TheFolds.{fold-Tree}

-- the atoms of an `else` side, which can be missing
abbrev pub or_no_atoms : Option (List ℕ) → List ℕ
or_no_atoms None = []
or_no_atoms (Some atoms) = atoms

abbrev pub atoms_step : Tree-F (List ℕ) → List ℕ
atoms_step (At atom) = atom ∷ []
atoms_step (Seq x y) = x ++ y
atoms_step (Alt x y) = x ++ y
atoms_step (Star x y) = x ++ y
atoms_step (Par x y) = x ++ y
atoms_step (Disrupt x y) = x ++ y
atoms_step (If test x y) = x ++ or_no_atoms y
atoms_step (Let settings x) = x

abbrev pub tree_atoms : Tree → List ℕ
tree_atoms = fold-Tree (List ℕ) atoms_step

-- the depth of an `else` side, which can be missing
abbrev pub or_no_levels : Option ℕ → ℕ
or_no_levels None = 0
or_no_levels (Some levels) = levels

-- an atom has depth 1; each other tree has a depth one greater than its deepest part
abbrev pub levels_step : Tree-F ℕ → ℕ
levels_step (At atom) = 1
levels_step (Seq x y) = 1 + max x y
levels_step (Alt x y) = 1 + max x y
levels_step (Star x y) = 1 + max x y
levels_step (Par x y) = 1 + max x y
levels_step (Disrupt x y) = 1 + max x y
levels_step (If test x y) = 1 + max x (or_no_levels y)
levels_step (Let settings x) = 1 + x

abbrev pub tree_levels : Tree → ℕ
tree_levels = fold-Tree ℕ levels_step
