-- The expansion of each kind of process.
use Rattle.std.proofs.Common.{◌≡◌, List, Option, Some, option_map, ap, ◌∙◌, sym, subst}
use Rattle.tb_body.specs.declared.tree.Tree.{Tree}
use Rattle.tb_body.specs.declared.tree.Tree.TheVariants as tree
use Rattle.tb_syntax.specs.declared.ast.Ast.{Ast}
use Rattle.tb_syntax.specs.declared.proc.Proc.{Proc, out-Proc}
use Rattle.tb_syntax.specs.declared.proc.Proc.TheVariants as proc
use Rattle.tb_syntax.specs.declared.proc.Proc.TheVariants.{outs-Seq, outs-Alt, outs-Star, outs-Par, outs-Disrupt}
use Rattle.tb_syntax.specs.declared.proc.Proc.TheOpen.{Proc-F}
use Rattle.tb_syntax.specs.declared.proc.Proc.TheFolds.{fold_out-Proc, map-Proc}
use Rattle.tb_syntax.specs.declared.script.Script.{Script}
use Rattle.tb_terms.specs.declared.expr.Expr.{Expr}
use Rattle.tb_expand.specs.declared.built.Built.{Built}
use Rattle.tb_expand.specs.Scopes.{Scope, of_blocks}
use Rattle.tb_expand.specs.Exprs.{expr_of}
use Rattle.tb_expand.specs.Expansion.{Expands, expands_with, proc_step, both, test_of, tested}
use Rattle.tb_expand.specs.Helpers.Building.{Adds}

abbrev layer_part : Script → (Proc → Expands) → Proc-F Proc → Expands
layer_part script body layer = proc_step script body (map-Proc Proc Expands (expands_with script body) layer)

opened : (script : Script) (body : Proc → Expands) (p : Proc) (layer : Proc-F Proc) → out-Proc p ≡ layer → expands_with script body p ≡ layer_part script body layer
opened script body p layer e = fold_out-Proc Expands (proc_step script body) p ∙ ap (layer_part script body) e

pub part_of_seq : (script : Script) (body : Proc → Expands) (x y : Proc)
    → expands_with script body (proc.Seq x y) ≡ both tree.Seq (expands_with script body x) (expands_with script body y)
part_of_seq script body x y = opened script body _ _ (outs-Seq x y)

pub part_of_alt : (script : Script) (body : Proc → Expands) (x y : Proc)
    → expands_with script body (proc.Alt x y) ≡ both tree.Alt (expands_with script body x) (expands_with script body y)
part_of_alt script body x y = opened script body _ _ (outs-Alt x y)

pub part_of_star : (script : Script) (body : Proc → Expands) (x y : Proc)
    → expands_with script body (proc.Star x y) ≡ both tree.Star (expands_with script body x) (expands_with script body y)
part_of_star script body x y = opened script body _ _ (outs-Star x y)

pub part_of_par : (script : Script) (body : Proc → Expands) (x y : Proc)
    → expands_with script body (proc.Par x y) ≡ both tree.Par (expands_with script body x) (expands_with script body y)
part_of_par script body x y = opened script body _ _ (outs-Par x y)

pub part_of_disrupt : (script : Script) (body : Proc → Expands) (x y : Proc)
    → expands_with script body (proc.Disrupt x y) ≡ both tree.Disrupt (expands_with script body x) (expands_with script body y)
part_of_disrupt script body x y = opened script body _ _ (outs-Disrupt x y)

-- the same, where each part is known by another name
pub sides_of : (script : Script) (body : Proc → Expands) (con : Proc → Proc → Proc) (join : Tree → Tree → Tree)
    → ((x y : Proc) → expands_with script body (con x y) ≡ both join (expands_with script body x) (expands_with script body y))
    → (p x y g h : Proc) → p ≡ con x y → g ≡ x → h ≡ y
    → expands_with script body p ≡ both join (expands_with script body g) (expands_with script body h)
sides_of script body con join at p x y g h is gx hy =
    let sides : both join (expands_with script body g) (expands_with script body h) ≡ both join (expands_with script body x) (expands_with script body y)
    = λ i. both join (expands_with script body (gx i)) (expands_with script body (hy i)) in
    ap (expands_with script body) is ∙ at x y ∙ sym sides

pub adds_as : (e f : Expands) (blocks : List Scope) (built : Built) (t : Tree) (blocks_now : List Scope) (built_now : Built)
    → e ≡ f → Adds f blocks built t blocks_now built_now → Adds e blocks built t blocks_now built_now
adds_as e f blocks built t blocks_now built_now is added =
    subst (λ (x : Expands). Adds x blocks built t blocks_now built_now) (sym is) added

-- a test that has a second side
pub adds_test : (body : Proc → Expands) (blocks : List Scope) (built : Built) (blocks_now : List Scope) (built_now : Built)
    → (test : Ast) (e : Expr) (x : Expands) (y : Option Proc) (g h : Proc) (s t : Tree)
    → e ≡ expr_of (of_blocks blocks) test → y ≡ Some g → h ≡ g
    → Adds (both (tested e) x (body h)) blocks built (tree.If e s (Some t)) blocks_now built_now
    → Adds (test_of test x (option_map body y)) blocks built (tree.If e s (Some t)) blocks_now built_now
adds_test body blocks built blocks_now built_now test e x y g h s t is_test is_y is_h added =
    let same_test : Adds (both (tested (expr_of (of_blocks blocks) test)) x (body h)) blocks built (tree.If e s (Some t)) blocks_now built_now
    = subst (λ (f : Expr). Adds (both (tested f) x (body h)) blocks built (tree.If e s (Some t)) blocks_now built_now) is_test added in
    let there : Adds (test_of test x (Some (body h))) blocks built (tree.If e s (Some t)) blocks_now built_now
    = record { is_tree = same_test.is_tree; grown = same_test.grown; same = same_test.same } in
    let is_side : Some (body h) ≡ option_map body y = ap (λ (p : Proc). Some (body p)) is_h ∙ ap (option_map body) (sym is_y) in
    subst (λ (o : Option Expands). Adds (test_of test x o) blocks built (tree.If e s (Some t)) blocks_now built_now) is_side there
