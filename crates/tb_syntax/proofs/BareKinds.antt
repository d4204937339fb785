-- Each kind of expression without its positions.
use Rattle.std.proofs.Common.{◌≡◌, ℕ, List, map, ap, ◌∙◌}
use Rattle.tb_syntax.specs.declared.ast.Ast.{Ast}
use Rattle.tb_syntax.specs.declared.ast.AstKind.{AstKind, out-AstKind}
use Rattle.tb_syntax.specs.declared.ast.AstKind.TheVariants as ast
use Rattle.tb_syntax.specs.declared.ast.AstKind.TheVariants.{outs-Int, outs-Str, outs-Appl, outs-Var, outs-Result, outs-Hole, outs-List}
use Rattle.tb_syntax.specs.declared.ast.AstKind.TheOpen.{AstKind-F}
use Rattle.tb_syntax.specs.declared.ast.AstKind.TheFolds.{fold_out-AstKind, map-AstKind, fold-Ast, fold_out-Ast}
use Rattle.tb_syntax.specs.Positions.{bare_kind, bare_expr, bare_kind_step, bare_expr_step}

abbrev bare : AstKind-F AstKind Ast → AstKind
bare layer = bare_kind_step (map-AstKind AstKind Ast AstKind Ast bare_kind (fold-Ast AstKind Ast bare_kind_step bare_expr_step) layer)

opened : (k : AstKind) (layer : AstKind-F AstKind Ast) → out-AstKind k ≡ layer → bare_kind k ≡ bare layer
opened k layer e = fold_out-AstKind AstKind Ast bare_kind_step bare_expr_step k ∙ ap bare e

expr_is : (expr : Ast) → fold-Ast AstKind Ast bare_kind_step bare_expr_step expr ≡ bare_expr expr
expr_is expr = fold_out-Ast AstKind Ast bare_kind_step bare_expr_step expr

exprs_are : (parts : List Ast) → map (fold-Ast AstKind Ast bare_kind_step bare_expr_step) parts ≡ map bare_expr parts
exprs_are parts = λ i. map (λ part. expr_is part i) parts

pub bare_appl : (name : List ℕ) (parts : List Ast) → bare_kind (ast.Appl name parts) ≡ ast.Appl name (map bare_expr parts)
bare_appl name parts = opened _ _ (outs-Appl name parts) ∙ ap (λ ps. ast.Appl name ps) (exprs_are parts)

pub bare_list : (parts : List Ast) → bare_kind (ast.List parts) ≡ ast.List (map bare_expr parts)
bare_list parts = opened _ _ (outs-List parts) ∙ ap (λ ps. ast.List ps) (exprs_are parts)
