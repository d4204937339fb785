-- The variable-free expression of an application and of a list, from those of their parts.
use Rattle.std.proofs.Common.{◌≡◌, ℕ, List, map, length, ap, ◌∙◌}
use Rattle.std.proofs.lemmas.List.{length-map}
use Rattle.tb_terms.specs.declared.expr.Expr.{Expr}
use Rattle.tb_terms.specs.declared.expr.Expr.TheVariants as expr
use Rattle.tb_syntax.specs.declared.ast.Ast.{Ast}
use Rattle.tb_syntax.specs.declared.ast.AstKind.{AstKind, out-AstKind}
use Rattle.tb_syntax.specs.declared.ast.AstKind.TheVariants as ast
use Rattle.tb_syntax.specs.declared.ast.AstKind.TheVariants.{outs-Appl, outs-List}
use Rattle.tb_syntax.specs.declared.ast.AstKind.TheOpen.{AstKind-F}
use Rattle.tb_syntax.specs.declared.ast.AstKind.TheFolds.{fold_out-AstKind, map-AstKind, fold-Ast, fold_out-Ast}
use Rattle.tb_types.specs.Names.{applied}
use Rattle.tb_types.specs.Values.{closed_step, expr_step, closed, closed_kind, application}

abbrev made : Ast → Expr
made = fold-Ast Expr Expr closed_step expr_step

abbrev layer_made : AstKind-F AstKind Ast → Expr
layer_made x = closed_step (map-AstKind AstKind Ast Expr Expr closed_kind made x)

opened : (k : AstKind) (x : AstKind-F AstKind Ast) → out-AstKind k ≡ x → closed_kind k ≡ layer_made x
opened k x e = fold_out-AstKind Expr Expr closed_step expr_step k ∙ ap layer_made e

expr_is : (e : Ast) → made e ≡ closed e
expr_is e = fold_out-Ast Expr Expr closed_step expr_step e

exprs_are : (parts : List Ast) → map made parts ≡ map closed parts
exprs_are parts = λ i. map (λ part. expr_is part i) parts

pub closed_of_appl : (name : List ℕ) (parts : List Ast) → closed_kind (ast.Appl name parts) ≡ application (applied name (length parts)) name (map closed parts)
closed_of_appl name parts =
    opened _ _ (outs-Appl name parts)
    ∙ ap (λ n. application (applied name n) name (map made parts)) (length-map parts made)
    ∙ ap (application (applied name (length parts)) name) (exprs_are parts)

pub closed_of_list : (parts : List Ast) → closed_kind (ast.List parts) ≡ expr.List (map closed parts)
closed_of_list parts = opened _ _ (outs-List parts) ∙ ap expr.List (exprs_are parts)
