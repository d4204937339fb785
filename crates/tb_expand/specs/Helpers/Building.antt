-- How the parts of an expansion are added to the atoms and slots that were built before.
use Rattle.std.specs.Prelude.{◌≡◌, ◌+◌, List, ◌++◌, length}
use Rattle.tb_body.specs.declared.tree.Tree.{Tree}
use Rattle.tb_expand.specs.declared.built.Built.{Built}
use Rattle.tb_expand.specs.Scopes.{Scope, of_blocks}
use Rattle.tb_expand.specs.Expansion.{Part, Expands}

abbrev pub with_part : Built → Part → Built
with_part built part = record { atoms = built.atoms ++ part.atoms; sorts = built.sorts ++ part.sorts }

-- the next part, for these open blocks
abbrev pub next_part : Expands → List Scope → Built → Part
next_part x blocks built = x (of_blocks blocks) (length built.atoms + 1) (length built.sorts)

-- the tree is the tree of the next part, the part's atoms and slots are added, and the open blocks are unchanged
pub record Adds (x : Expands) (blocks : List Scope) (built : Built) (tree : Tree) (blocks_now : List Scope) (built_now : Built) : Type 0 where
  pub is_tree : tree ≡ (next_part x blocks built).tree
  pub grown : built_now ≡ with_part built (next_part x blocks built)
  pub same : blocks_now ≡ blocks
