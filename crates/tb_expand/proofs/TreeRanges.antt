-- The tree of an expansion is in range: tests and start values are values, and each slot that is set exists.
use Rattle.std.proofs.Common.{◌≡◌, ℕ, ◌+◌, ◌≤◌, Bool, true, List, [], length, refl, ◌∙◌}
use Rattle.std.proofs.lemmas.Bool.{and_from}
use Rattle.tb_body.specs.InRange.{is_tree_in_range, tree_step}
use Rattle.tb_syntax.specs.declared.proc.Proc.{Proc}
use Rattle.tb_syntax.specs.declared.script.Script.{Script}
use Rattle.tb_types.specs.declared.scope.Known.{Known}
use Rattle.tb_types.specs.Bodies.{proc_faults}
use Rattle.tb_types.specs.Conditions.{Proper}
use Rattle.tb_expand.specs.Helpers.Agreeing.{Agrees}
use Rattle.tb_expand.specs.Expansion.{Part, expands}
use Rattle.tb_expand.specs.Scopes.{Scope}
use Rattle.tb_expand.proofs.Keeping.{Keeps, expansions_keep}
use Rattle.tb_expand.proofs.TreeFolds as at

abbrev HasTreeInRange : ℕ → Part → Type 0
HasTreeInRange slots part = is_tree_in_range slots part.tree ≡ true

trees_kept : (script : Script) (slots : ℕ) → Keeps script slots (HasTreeInRange slots)
trees_kept script slots = record {
  nothing = at.fold-At Bool (tree_step slots) 0;
  atom = λ scope known def atom slot agrees free. at.fold-At Bool (tree_step slots) atom;
  seq = λ prefix back f b. at.fold-Seq Bool (tree_step slots) prefix.tree back.tree ∙ and_from _ _ f b;
  alt = λ prefix back f b. at.fold-Alt Bool (tree_step slots) prefix.tree back.tree ∙ and_from _ _ f b;
  star = λ prefix back f b. at.fold-Star Bool (tree_step slots) prefix.tree back.tree ∙ and_from _ _ f b;
  par = λ prefix back f b. at.fold-Par Bool (tree_step slots) prefix.tree back.tree ∙ and_from _ _ f b;
  disrupt = λ prefix back f b. at.fold-Disrupt Bool (tree_step slots) prefix.tree back.tree ∙ and_from _ _ f b;
  test = λ test part value f. at.fold-If Bool (tree_step slots) test part.tree ∙ and_from _ _ (and_from _ _ value f) refl;
  test_else = λ test prefix back value f b. at.fold-IfElse Bool (tree_step slots) test prefix.tree back.tree ∙ and_from _ _ (and_from _ _ value f) b;
  block = λ settings sorts part set f. at.fold-Let Bool (tree_step slots) settings part.tree ∙ and_from _ _ set f;
}

pub tree_in_range : (script : Script) (slots depth : ℕ) (p : Proc) (scope : Scope) (known : List Known) (atom slot : ℕ) → Proper script
    → Agrees script slots scope known → proc_faults script p known ≡ [] → slot + length (expands script depth p scope atom slot).sorts ≤ slots
    → is_tree_in_range slots (expands script depth p scope atom slot).tree ≡ true
tree_in_range script slots depth p scope known atom slot proper agrees free within =
    expansions_keep script slots (HasTreeInRange slots) (trees_kept script slots) proper depth p scope known atom slot agrees free within
