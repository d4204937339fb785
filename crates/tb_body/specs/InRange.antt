-- Which bodies are in range: conditions on their slots, the numbers of their atoms, and their limits.
use Rattle.std.specs.Prelude.{ℕ, ◌+◌, Bool, true, ◌&&◌, ◌==◌, nat_lt, nat_le, List, [], ◌∷◌, length, Option, Some, None}
use Rattle.std.specs.List.{list_all}
use Rattle.tb_terms.specs.declared.expr.Expr.{Expr}
use Rattle.tb_terms.specs.declared.sort.Sort.{Sort}
use Rattle.tb_body.specs.Exprs.{is_value}
use Rattle.tb_body.specs.Acts.{is_atom_in_body}
use Rattle.tb_body.specs.Trees.{tree_atoms, tree_levels}
use Rattle.tb_body.specs.declared.tree.Tree.{Tree}
use Rattle.tb_body.specs.declared.tree.Tree.TheOpen.{Tree-F, At, Seq, Alt, Star, Par, Disrupt, If, Let}
use Rattle.tb_body.specs.declared.tree.Tree.TheFolds.{fold-Tree}
use Rattle.tb_body.specs.declared.tree.Setting.{Setting}
use Rattle.tb_body.specs.declared.atom.Atom.{Atom}

-- the numbers are `from`, `from + 1`, and so on
abbrev pub ascends_by_one : ℕ → List ℕ → Bool
ascends_by_one from [] = true
ascends_by_one from (number ∷ numbers) = number == from && ascends_by_one (from + 1) numbers

-- the start value of a setting, if there is one, is a value over this many slots
abbrev pub is_start : ℕ → Option Expr → Bool
is_start slots None = true
is_start slots (Some value) = is_value slots value

abbrev pub is_setting_in_range : ℕ → Setting → Bool
is_setting_in_range slots setting = nat_lt setting.slot slots && is_start slots setting.start

-- an `else` side that is missing is in range
abbrev pub is_side : Option Bool → Bool
is_side None = true
is_side (Some ok) = ok

-- tests and start values are values, and each slot that is set exists
abbrev pub tree_step : ℕ → Tree-F Bool → Bool
tree_step slots (At atom) = true
tree_step slots (Seq x y) = x && y
tree_step slots (Alt x y) = x && y
tree_step slots (Star x y) = x && y
tree_step slots (Par x y) = x && y
tree_step slots (Disrupt x y) = x && y
tree_step slots (If test x y) = is_value slots test && x && is_side y
tree_step slots (Let settings x) = list_all (is_setting_in_range slots) settings && x

abbrev pub is_tree_in_range : ℕ → Tree → Bool
is_tree_in_range slots = fold-Tree Bool (tree_step slots)

-- the greatest number of atoms of a body, and the greatest depth of its tree
abbrev pub most_body_atoms : ℕ
most_body_atoms = 200000

abbrev pub most_body_levels : ℕ
most_body_levels = 1000

-- Each atom is in the tree once, in the order of the numbers from 1. The parameters are the first slots.
abbrev pub is_in_range : Tree → List Atom → ℕ → ℕ → Bool
is_in_range tree atoms slots formals =
    ascends_by_one 1 (tree_atoms tree) && length (tree_atoms tree) == length atoms
    && nat_le (length atoms) most_body_atoms && nat_le (tree_levels tree) most_body_levels
    && nat_le formals slots
    && is_tree_in_range slots tree && list_all (is_atom_in_body slots) atoms

unfoldable pub is_body_in_range : Tree → List Atom → List Sort → ℕ → Bool
is_body_in_range tree atoms sorts formals = is_in_range tree atoms (length sorts) formals
