-- The body expression that each kind of expression becomes.
use Rattle.std.proofs.Common.{◌≡◌, ℕ, ℤ, List, map, ap, ◌∙◌}
use Rattle.tb_terms.specs.declared.expr.Expr.{Expr}
use Rattle.tb_terms.specs.declared.expr.Expr.TheVariants as expr
use Rattle.tb_terms.specs.declared.sort.Sort.{Sort}
use Rattle.tb_syntax.specs.declared.ast.Ast.{Ast}
use Rattle.tb_syntax.specs.declared.ast.AstKind.{AstKind, out-AstKind}
use Rattle.tb_syntax.specs.declared.ast.AstKind.TheVariants as ast
use Rattle.tb_syntax.specs.declared.ast.AstKind.TheVariants.{outs-Int, outs-Str, outs-Appl, outs-Var, outs-Result, outs-Hole, outs-List}
use Rattle.tb_syntax.specs.declared.ast.AstKind.TheOpen.{AstKind-F}
use Rattle.tb_syntax.specs.declared.ast.AstKind.TheFolds.{fold_out-AstKind, map-AstKind, fold-Ast, fold_out-Ast}
use Rattle.tb_expand.specs.Scopes.{Scope, slot_of}
use Rattle.tb_expand.specs.Exprs.{kind_expr, kind_step, position_step, expr_of, exprs_of, named}

abbrev layer_expr : Scope → AstKind-F AstKind Ast → Expr
layer_expr scope layer = kind_step scope (map-AstKind AstKind Ast Expr Expr (kind_expr scope) (fold-Ast Expr Expr (kind_step scope) position_step) layer)

opened : (scope : Scope) (k : AstKind) (layer : AstKind-F AstKind Ast) → out-AstKind k ≡ layer → kind_expr scope k ≡ layer_expr scope layer
opened scope k layer e = fold_out-AstKind Expr Expr (kind_step scope) position_step k ∙ ap (layer_expr scope) e

expr_is : (scope : Scope) (e : Ast) → fold-Ast Expr Expr (kind_step scope) position_step e ≡ expr_of scope e
expr_is scope e = fold_out-Ast Expr Expr (kind_step scope) position_step e

exprs_are : (scope : Scope) (parts : List Ast) → map (fold-Ast Expr Expr (kind_step scope) position_step) parts ≡ exprs_of scope parts
exprs_are scope parts = λ i. map (λ part. expr_is scope part i) parts

pub expr_of_number : (scope : Scope) (n : ℤ) → kind_expr scope (ast.Int n) ≡ expr.Int n
expr_of_number scope n = opened scope _ _ (outs-Int n)

pub expr_of_string : (scope : Scope) (text : List ℕ) → kind_expr scope (ast.Str text) ≡ expr.Str text
expr_of_string scope text = opened scope _ _ (outs-Str text)

pub expr_of_appl : (scope : Scope) (name : List ℕ) (parts : List Ast) → kind_expr scope (ast.Appl name parts) ≡ named name (exprs_of scope parts)
expr_of_appl scope name parts = opened scope _ _ (outs-Appl name parts) ∙ ap (named name) (exprs_are scope parts)

pub expr_of_var : (scope : Scope) (name : List ℕ) → kind_expr scope (ast.Var name) ≡ expr.Var (slot_of scope name)
expr_of_var scope name = opened scope _ _ (outs-Var name)

pub expr_of_result : (scope : Scope) (name : List ℕ) → kind_expr scope (ast.Result name) ≡ expr.Result (slot_of scope name)
expr_of_result scope name = opened scope _ _ (outs-Result name)

pub expr_of_hole : (scope : Scope) (s : Sort) → kind_expr scope (ast.Hole s) ≡ expr.Hole s
expr_of_hole scope s = opened scope _ _ (outs-Hole s)

pub expr_of_list : (scope : Scope) (parts : List Ast) → kind_expr scope (ast.List parts) ≡ expr.List (exprs_of scope parts)
expr_of_list scope parts = opened scope _ _ (outs-List parts) ∙ ap expr.List (exprs_are scope parts)
