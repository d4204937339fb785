-- A property of each atom without violations holds for all atoms of an expansion.
use Rattle.std.proofs.Common.{◌≡◌, ℕ, ◌+◌, ◌≤◌, Bool, true, List, [], ◌++◌, length, refl, ◌∙◌}
use Rattle.std.specs.List.{list_all}
use Rattle.std.proofs.lemmas.Bool.{and_from}
use Rattle.std.proofs.lemmas.List.Folds.{list_all-append}
use Rattle.tb_body.specs.declared.atom.Atom.{Atom}
use Rattle.tb_syntax.specs.declared.proc.AtomDef.{AtomDef}
use Rattle.tb_syntax.specs.declared.proc.Proc.{Proc}
use Rattle.tb_syntax.specs.declared.script.Script.{Script}
use Rattle.tb_types.specs.declared.scope.Known.{Known}
use Rattle.tb_types.specs.Atoms.{atom_faults}
use Rattle.tb_types.specs.Bodies.{proc_faults}
use Rattle.tb_types.specs.Conditions.{Proper}
use Rattle.tb_expand.specs.Acts.{atom_of}
use Rattle.tb_expand.specs.Helpers.Agreeing.{Agrees}
use Rattle.tb_expand.specs.Expansion.{Part, expands}
use Rattle.tb_expand.specs.Scopes.{Scope}
use Rattle.tb_expand.proofs.Keeping.{Keeps, expansions_keep}

-- an atom has the property at each place where it has no violations
abbrev pub IsGoodOf : Script → ℕ → (Atom → Bool) → Type 0
IsGoodOf script slots good =
    (scope : Scope) (known : List Known) (def : AtomDef) → Agrees script slots scope known → atom_faults script known def ≡ [] → good (atom_of script scope def) ≡ true

abbrev HasGoodAtoms : (Atom → Bool) → Part → Type 0
HasGoodAtoms good part = list_all good part.atoms ≡ true

both_good : (good : Atom → Bool) (prefix back : List Atom) → list_all good prefix ≡ true → list_all good back ≡ true → list_all good (prefix ++ back) ≡ true
both_good good prefix back f b = list_all-append good prefix back ∙ and_from _ _ f b

atoms_kept : (script : Script) (slots : ℕ) (good : Atom → Bool) → IsGoodOf script slots good → Keeps script slots (HasGoodAtoms good)
atoms_kept script slots good is_good = record {
  nothing = refl;
  atom = λ scope known def atom slot agrees free. and_from _ _ (is_good scope known def agrees free) refl;
  seq = λ prefix back. both_good good prefix.atoms back.atoms;
  alt = λ prefix back. both_good good prefix.atoms back.atoms;
  star = λ prefix back. both_good good prefix.atoms back.atoms;
  par = λ prefix back. both_good good prefix.atoms back.atoms;
  disrupt = λ prefix back. both_good good prefix.atoms back.atoms;
  test = λ test part value f. f;
  test_else = λ test prefix back value. both_good good prefix.atoms back.atoms;
  block = λ settings sorts part set f. f;
}

pub atoms_of_expansion : (script : Script) (slots : ℕ) (good : Atom → Bool) → IsGoodOf script slots good
    → (depth : ℕ) (p : Proc) (scope : Scope) (known : List Known) (atom slot : ℕ) → Proper script
    → Agrees script slots scope known → proc_faults script p known ≡ [] → slot + length (expands script depth p scope atom slot).sorts ≤ slots
    → list_all good (expands script depth p scope atom slot).atoms ≡ true
atoms_of_expansion script slots good is_good depth p scope known atom slot proper agrees free within =
    expansions_keep script slots (HasGoodAtoms good) (atoms_kept script slots good is_good) proper depth p scope known atom slot agrees free within
