-- The expansion of a process has the size that is computed without the expansion.
use Rattle.std.proofs.Common.{◌≡◌, ℕ, zero, suc, ◌+◌, max, List, ◌++◌, length, Option, Some, None, refl, ap, sym, subst, ◌∙◌}
use Rattle.std.proofs.lemmas.List.{length-append}
use Rattle.std.proofs.Math.Nat.{max-zero}
use Rattle.tb_terms.specs.declared.sort.Sort.{Sort}
use Rattle.tb_body.specs.declared.tree.Setting.{Setting}
use Rattle.tb_body.specs.declared.tree.Tree.{Tree, Tree-F, out-Tree, map-Tree, fold_out-Tree}
use Rattle.tb_body.specs.declared.tree.Tree.TheVariants as tree
use Rattle.tb_body.specs.declared.tree.Tree.TheVariants.{outs-At, outs-Seq, outs-Alt, outs-Star, outs-Par, outs-Disrupt, outs-If, outs-Let}
use Rattle.tb_body.specs.Trees.{tree_levels, levels_step}
use Rattle.tb_syntax.specs.declared.ast.Ast.{Ast}
use Rattle.tb_syntax.specs.declared.proc.Call.{Call}
use Rattle.tb_syntax.specs.declared.proc.Proc.{Proc, Proc-F, map-Proc, fold-roll-Proc, ind-Proc, roll-Proc}
use Rattle.tb_syntax.specs.declared.proc.Proc.TheOpen as layer
use Rattle.tb_syntax.specs.declared.proc.Var.{Var}
use Rattle.tb_syntax.specs.declared.script.ProcDef.{ProcDef}
use Rattle.tb_syntax.specs.declared.script.Script.{Script}
use Rattle.tb_types.specs.Names.{process_named}
use Rattle.tb_expand.specs.declared.size.Size.{Size}
use Rattle.tb_expand.specs.Scopes.{Scope, declared}
use Rattle.tb_expand.specs.Exprs.{expr_of}
use Rattle.tb_expand.specs.Expansion.{Part, Expands, both, under, tested, test_of, declaring, initial, sorts_of_vars, block_of, set_formals, formals_of_call, value_formals, sorts_of, nothing, call_of, proc_step, expands_with, expands}
use Rattle.tb_expand.specs.Helpers.Sizes.{nothing_size, beside, above, tested_size, called_size, size_step, size_with, size_of}

-- Levels of trees.

leveled : (t : Tree) (w : Tree-F Tree) → out-Tree t ≡ w → tree_levels t ≡ levels_step (map-Tree Tree ℕ tree_levels w)
leveled t w e = fold_out-Tree ℕ levels_step t ∙ ap (λ (o : Tree-F Tree). levels_step (map-Tree Tree ℕ tree_levels o)) e

-- an operator has one more level than its greater side
abbrev HasLevel : (Tree → Tree → Tree) → Type 0
HasLevel join = (x y : Tree) → tree_levels (join x y) ≡ 1 + max (tree_levels x) (tree_levels y)

seq_levels : HasLevel tree.Seq
seq_levels x y = leveled _ _ (outs-Seq x y)

alt_levels : HasLevel tree.Alt
alt_levels x y = leveled _ _ (outs-Alt x y)

star_levels : HasLevel tree.Star
star_levels x y = leveled _ _ (outs-Star x y)

par_levels : HasLevel tree.Par
par_levels x y = leveled _ _ (outs-Par x y)

disrupt_levels : HasLevel tree.Disrupt
disrupt_levels x y = leveled _ _ (outs-Disrupt x y)

tested_levels : (test : Ast) (scope : Scope) → HasLevel (tested (expr_of scope test))
tested_levels test scope x y = leveled _ _ (outs-If (expr_of scope test) x (Some y))

-- Sizes of parts.

pub record HasSize (part : Part) (size : Size) : Type 0 where
  pub atoms : length part.atoms ≡ size.atoms
  pub levels : tree_levels part.tree ≡ size.levels

-- for all visible variables, first atoms, and first slots
abbrev pub AreSized : Expands → Size → Type 0
AreSized x size = (scope : Scope) (atom slot : ℕ) → HasSize (x scope atom slot) size

nothing_sized : HasSize nothing nothing_size
nothing_sized = record { atoms = refl; levels = leveled _ _ (outs-At 0) }

both_sized : (join : Tree → Tree → Tree) → HasLevel join → (x y : Expands) (m n : Size) → AreSized x m → AreSized y n → AreSized (both join x y) (beside m n)
both_sized join one_more x y m n is_x is_y scope atom slot = joined (x scope atom slot) (is_x scope atom slot) where
  joined : (prefix : Part) → HasSize prefix m → HasSize (both join (λ s a l. prefix) y scope atom slot) (beside m n)
  joined prefix is = behind (y scope (atom + length prefix.atoms) (slot + length prefix.sorts)) (is_y scope (atom + length prefix.atoms) (slot + length prefix.sorts)) where
    behind : (back : Part) → HasSize back n → HasSize (both join (λ s a l. prefix) (λ s a l. back) scope atom slot) (beside m n)
    behind back others = record {
      atoms = length-append prefix.atoms back.atoms ∙ (λ i. is.atoms i + others.atoms i);
      levels = one_more prefix.tree back.tree ∙ (λ i. 1 + max (is.levels i) (others.levels i));
    }

abbrev AreBothSized : Option Expands → Option Size → Type 0
AreBothSized None None = Unit {0}
AreBothSized None (Some n) = ⊥
AreBothSized (Some y) None = ⊥
AreBothSized (Some y) (Some n) = AreSized y n

under_sized : (wrap : Tree → Tree) → ((t : Tree) → tree_levels (wrap t) ≡ 1 + tree_levels t) → (part : Part) (m : Size) → HasSize part m → HasSize (under wrap part) (above m)
under_sized wrap one_more part m is = record { atoms = is.atoms; levels = one_more part.tree ∙ ap (λ (n : ℕ). 1 + n) is.levels }

one_side : (test : Ast) (scope : Scope) (t : Tree) → tree_levels (tree.If (expr_of scope test) t None) ≡ 1 + tree_levels t
one_side test scope t = leveled _ _ (outs-If (expr_of scope test) t None) ∙ ap (λ (n : ℕ). 1 + n) (max-zero (tree_levels t))

test_sized : (test : Ast) (x : Expands) (y : Option Expands) (m : Size) (n : Option Size) → AreSized x m → AreBothSized y n → AreSized (test_of test x y) (tested_size m n)
test_sized test x None m None is_x is_y scope atom slot =
    under_sized (λ side. tree.If (expr_of scope test) side None) (one_side test scope) (x scope atom slot) m (is_x scope atom slot)
test_sized test x None m (Some n) is_x is_y scope atom slot = absurd is_y
test_sized test x (Some y) m None is_x is_y scope atom slot = absurd is_y
test_sized test x (Some y) m (Some n) is_x is_y scope atom slot = both_sized (tested (expr_of scope test)) (tested_levels test scope) x y m n is_x is_y scope atom slot

declaring_sized : (settings : List Setting) (sorts : List Sort) (part : Part) (m : Size) → HasSize part m → HasSize (declaring settings sorts part) (above m)
declaring_sized settings sorts part m is = record {
  atoms = is.atoms;
  levels = leveled _ _ (outs-Let settings part.tree) ∙ ap (λ (n : ℕ). 1 + n) is.levels;
}

block_sized : (vars : List Var) (x : Expands) (m : Size) → AreSized x m → AreSized (block_of vars x) (above m)
block_sized vars x m is scope atom slot =
    declaring_sized (initial slot vars) (sorts_of_vars vars) (x (declared slot vars ++ scope) atom (slot + length vars)) m
    (is (declared slot vars ++ scope) atom (slot + length vars))

-- Processes.

module _ (script : Script) (body : Proc → Expands) (size : Proc → Size) (known : (q : Proc) → AreSized (body q) (size q)) where
  -- what stands for a call of what is defined so
  abbrev stands : Scope → ℕ → ℕ → Call → Option ProcDef → Part
  stands scope atom slot call None = nothing
  stands scope atom slot call (Some d) =
      declaring (set_formals scope slot d.formals call.actuals) (sorts_of (value_formals d.formals))
      (body d.body (formals_of_call scope slot d.formals call.actuals) atom (slot + length (value_formals d.formals)))

  call_sized : (call : Call) → AreSized (call_of script body call) (called_size size (process_named script.procs call.name))
  call_sized call scope atom slot = found (process_named script.procs call.name) where
    found : (o : Option ProcDef) → HasSize (stands scope atom slot call o) (called_size size o)
    found None = nothing_sized
    found (Some d) =
        declaring_sized (set_formals scope slot d.formals call.actuals) (sorts_of (value_formals d.formals))
        (body d.body (formals_of_call scope slot d.formals call.actuals) atom (slot + length (value_formals d.formals))) (size d.body)
        (known d.body (formals_of_call scope slot d.formals call.actuals) atom (slot + length (value_formals d.formals)))

  abbrev IsSized : Proc → Type 0
  IsSized p = AreSized (expands_with script body p) (size_with script size p)

  abbrev Shown : Type 0
  Shown = (p : Proc) × IsSized p

  abbrev LayerIsSized : Proc-F Proc → Type 0
  LayerIsSized w = AreSized (proc_step script body (map-Proc Proc Expands (expands_with script body) w)) (size_step script size (map-Proc Proc Size (size_with script size) w))

  layer_sized : (y : Proc-F Shown) → LayerIsSized (map-Proc Shown Proc (λ s. s.0) y)
  layer_sized (layer.Atom def) = λ scope atom slot. record { atoms = refl; levels = leveled _ _ (outs-At atom) }
  layer_sized (layer.Call call) = call_sized call
  layer_sized (layer.Seq x y) = both_sized tree.Seq seq_levels _ _ _ _ x.1 y.1
  layer_sized (layer.Alt x y) = both_sized tree.Alt alt_levels _ _ _ _ x.1 y.1
  layer_sized (layer.Star x y) = both_sized tree.Star star_levels _ _ _ _ x.1 y.1
  layer_sized (layer.Par x y) = both_sized tree.Par par_levels _ _ _ _ x.1 y.1
  layer_sized (layer.Disrupt x y) = both_sized tree.Disrupt disrupt_levels _ _ _ _ x.1 y.1
  layer_sized (layer.If test x None) = test_sized test _ None _ None x.1 (tt {0})
  layer_sized (layer.If test x (Some y)) = test_sized test _ (Some _) _ (Some _) x.1 y.1
  layer_sized (layer.Let vars x) = block_sized vars _ _ x.1

  pub sized_with : (p : Proc) → IsSized p
  sized_with = ind-Proc IsSized step where
    step : (x : Proc-F Proc) (y : Proc-F Shown) → map-Proc Shown Proc (λ s. s.0) y ≡ x → IsSized (roll-Proc x)
    step x y e =
        let here : LayerIsSized x = subst LayerIsSized e (layer_sized y) in
        subst (λ (f : Expands). AreSized f (size_with script size (roll-Proc x))) (sym (fold-roll-Proc Expands (proc_step script body) x))
        (subst (λ (s : Size). AreSized (proc_step script body (map-Proc Proc Expands (expands_with script body) x)) s) (sym (fold-roll-Proc Size (size_step script size) x)) here)

pub sized : (script : Script) (depth : ℕ) (p : Proc) → AreSized (expands script depth p) (size_of script depth p)
sized script zero p = λ scope atom slot. nothing_sized
sized script (suc depth) p = sized_with script (expands script depth) (size_of script depth) (sized script depth) p

pub sizes_are : (script : Script) (depth : ℕ) (p : Proc) (scope : Scope) (atom slot : ℕ)
    → (length (expands script depth p scope atom slot).atoms ≡ (size_of script depth p).atoms)
    × (tree_levels (expands script depth p scope atom slot).tree ≡ (size_of script depth p).levels)
sizes_are script depth p scope atom slot =
    let is : HasSize (expands script depth p scope atom slot) (size_of script depth p) = sized script depth p scope atom slot in
    (is.atoms, is.levels)
