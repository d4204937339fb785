-- If calls end, atoms are numbered consecutively: each atom is in the tree once, in the order of the numbers.
use Rattle.std.proofs.Common.{◌≡◌, ℕ, zero, suc, ◌+◌, Bool, true, ◌&&◌, ◌==◌, List, [], ◌∷◌, ◌++◌, length, Option, Some, None, refl, sym, ◌∙◌, subst, arith, length-append, append-nil}
use Rattle.std.proofs.lemmas.Bool.{and_parts, and_from, eq-eqb, false≢true}
use Rattle.tb_body.specs.declared.tree.Tree.{Tree}
use Rattle.tb_body.specs.declared.tree.Tree.TheVariants as tree
use Rattle.tb_body.specs.Trees.{tree_atoms, atoms_step}
use Rattle.tb_body.specs.InRange.{ascends_by_one}
use Rattle.tb_syntax.specs.declared.proc.Call.{Call}
use Rattle.tb_syntax.specs.declared.proc.Proc.{Proc}
use Rattle.tb_syntax.specs.declared.script.ProcDef.{ProcDef}
use Rattle.tb_syntax.specs.declared.script.Script.{Script}
use Rattle.tb_types.specs.Names.{process_named}
use Rattle.tb_expand.specs.Exprs.{expr_of}
use Rattle.tb_expand.specs.Scopes.{Scope, declared}
use Rattle.tb_expand.specs.Expansion.{Part, Expands, both, call_of, expands, initial, proc_step, set_formals, tested}
use Rattle.tb_expand.specs.Helpers.Wholes.{is_called_whole, is_whole, whole_step}
use Rattle.tb_expand.proofs.Calling.{body_of_call, call_found}
use Rattle.tb_expand.proofs.ProcInduction.{Related, folds_related}
use Rattle.tb_expand.proofs.TreeFolds as at

-- consecutive numbers from this number on, and their count
pub record AreNumbered (from : ℕ) (numbers : List ℕ) (count : ℕ) : Type 0 where
  pub ascends : ascends_by_one from numbers ≡ true
  pub counted : length numbers ≡ count

-- the atoms of a part's tree are numbered from this number on, and are as many as the part has
abbrev pub IsNumbered : ℕ → Part → Type 0
IsNumbered from part = AreNumbered from (tree_atoms part.tree) (length part.atoms)

next : (from count : ℕ) → (from + 1) + count ≡ from + suc count
next from count = omega arith

ascends_on : (from : ℕ) (prefix back : List ℕ) → ascends_by_one from prefix ≡ true → ascends_by_one (from + length prefix) back ≡ true → ascends_by_one from (prefix ++ back) ≡ true
ascends_on from [] back f b =
    let e : from + 0 ≡ from = omega arith in
    subst (λ n. ascends_by_one n back ≡ true) e b
ascends_on from (number ∷ prefix) back f b =
    let parts = and_parts (number == from) (ascends_by_one (from + 1) prefix) f in
    and_from _ _ parts.0 (ascends_on (from + 1) prefix back parts.1 (subst (λ n. ascends_by_one n back ≡ true) (sym (next from (length prefix))) b))

both_numbered : (from count others : ℕ) (prefix back : List ℕ) → AreNumbered from prefix count → AreNumbered (from + count) back others → AreNumbered from (prefix ++ back) (count + others)
both_numbered from count others prefix back f b = record {
  ascends = ascends_on from prefix back f.ascends (subst (λ n. ascends_by_one (from + n) back ≡ true) (sym f.counted) b.ascends);
  counted = length-append prefix back ∙ (λ i. f.counted i + b.counted i);
}

one_numbered : (atom : ℕ) → AreNumbered atom (atom ∷ []) 1
one_numbered atom = record { ascends = and_from _ _ (eq-eqb atom atom refl) refl; counted = refl }

-- two sides, under a tree that has the atoms of both
joined_numbered : (join : Tree → Tree → Tree) → ((x y : Tree) → tree_atoms (join x y) ≡ tree_atoms x ++ tree_atoms y)
    → (x y : Expands) (scope : Scope) (atom slot : ℕ)
    → IsNumbered atom (x scope atom slot)
    → IsNumbered (atom + length (x scope atom slot).atoms) (y scope (atom + length (x scope atom slot).atoms) (slot + length (x scope atom slot).sorts))
    → IsNumbered atom (both join x y scope atom slot)
joined_numbered join atoms_of x y scope atom slot f b =
    let prefix = x scope atom slot in
    let back = y scope (atom + length prefix.atoms) (slot + length prefix.sorts) in
    subst (λ numbers. AreNumbered atom numbers (length (prefix.atoms ++ back.atoms))) (sym (atoms_of prefix.tree back.tree))
    (subst (AreNumbered atom (tree_atoms prefix.tree ++ tree_atoms back.tree)) (sym (length-append prefix.atoms back.atoms))
    (both_numbered atom (length prefix.atoms) (length back.atoms) (tree_atoms prefix.tree) (tree_atoms back.tree) f b))

-- numbered in each scope and from each number on, if its calls end
abbrev AreNumberedIf : Bool → Expands → Type 0
AreNumberedIf whole x = whole ≡ true → (scope : Scope) (atom slot : ℕ) → IsNumbered atom (x scope atom slot)

sides_numbered : (join : Tree → Tree → Tree) → ((x y : Tree) → tree_atoms (join x y) ≡ tree_atoms x ++ tree_atoms y)
    → (prefix back : Bool) (x y : Expands) → AreNumberedIf prefix x → AreNumberedIf back y → AreNumberedIf (prefix && back) (both join x y)
sides_numbered join atoms_of prefix back x y f b e scope atom slot =
    let parts = and_parts prefix back e in
    joined_numbered join atoms_of x y scope atom slot (f parts.0 scope atom slot) (b parts.1 scope _ _)

module _ (script : Script) (whole : Proc → Bool) (body : Proc → Expands) (known : (p : Proc) → AreNumberedIf (whole p) (body p)) where
  called_numbered : (call : Call) → AreNumberedIf (is_called_whole whole (process_named script.procs call.name)) (call_of script body call)
  called_numbered call e scope atom slot = found (process_named script.procs call.name) refl e where
    found : (o : Option ProcDef) → process_named script.procs call.name ≡ o → is_called_whole whole o ≡ true → IsNumbered atom (call_of script body call scope atom slot)
    found None is h = absurd (false≢true h)
    found (Some d) is h =
        let part = body_of_call body d call.actuals scope atom slot in
        subst (IsNumbered atom) (sym (call_found script body call d scope atom slot is))
        (subst (λ numbers. AreNumbered atom numbers (length part.atoms)) (sym (at.fold-Let (List ℕ) atoms_step (set_formals scope slot d.formals call.actuals) part.tree)) (known d.body h _ _ _))

  steps : Related Bool Expands (whole_step script whole) (proc_step script body) AreNumberedIf
  steps = record {
    atom = λ def e scope atom slot. subst (λ numbers. AreNumbered atom numbers 1) (sym (at.fold-At (List ℕ) atoms_step atom)) (one_numbered atom);
    call = called_numbered;
    seq = λ prefix back x y f b. sides_numbered tree.Seq (at.fold-Seq (List ℕ) atoms_step) prefix back x y f b;
    alt = λ prefix back x y f b. sides_numbered tree.Alt (at.fold-Alt (List ℕ) atoms_step) prefix back x y f b;
    star = λ prefix back x y f b. sides_numbered tree.Star (at.fold-Star (List ℕ) atoms_step) prefix back x y f b;
    par = λ prefix back x y f b. sides_numbered tree.Par (at.fold-Par (List ℕ) atoms_step) prefix back x y f b;
    disrupt = λ prefix back x y f b. sides_numbered tree.Disrupt (at.fold-Disrupt (List ℕ) atoms_step) prefix back x y f b;
    test = λ test prefix x f e scope atom slot.
        subst (λ numbers. AreNumbered atom numbers (length (x scope atom slot).atoms)) (sym (at.fold-If (List ℕ) atoms_step (expr_of scope test) (x scope atom slot).tree ∙ append-nil (tree_atoms (x scope atom slot).tree)))
        (f (and_parts prefix true e).0 scope atom slot);
    test_else = λ test prefix back x y f b e scope atom slot.
        sides_numbered (tested (expr_of scope test)) (at.fold-IfElse (List ℕ) atoms_step (expr_of scope test)) prefix back x y f b e scope atom slot;
    block = λ vars whole x f e scope atom slot.
        let part = x (declared slot vars ++ scope) atom (slot + length vars) in
        subst (λ numbers. AreNumbered atom numbers (length part.atoms)) (sym (at.fold-Let (List ℕ) atoms_step (initial slot vars) part.tree)) (f e (declared slot vars ++ scope) atom (slot + length vars));
  }

pub expands_numbered : (script : Script) (depth : ℕ) (p : Proc) → is_whole script depth p ≡ true → (scope : Scope) (atom slot : ℕ) → IsNumbered atom (expands script depth p scope atom slot)
expands_numbered script zero p e = absurd (false≢true e)
expands_numbered script (suc depth) p e =
    folds_related Bool Expands (whole_step script (is_whole script depth)) (proc_step script (expands script depth)) AreNumberedIf
    (steps script (is_whole script depth) (expands script depth) (expands_numbered script depth)) p e
