-- The fitting types and the violations of an application and of a list, from those of their parts.
use Rattle.std.proofs.Common.{◌≡◌, ℕ, ◌||◌, List, map, ap, ◌∙◌}
use Rattle.std.specs.Prelude.{is_none}
use Rattle.tb_terms.specs.declared.sort.Sort.{Sort, out-Sort}
use Rattle.tb_syntax.specs.declared.ast.Ast.{Ast}
use Rattle.tb_syntax.specs.declared.ast.AstKind.{AstKind, out-AstKind}
use Rattle.tb_syntax.specs.declared.ast.AstKind.TheVariants as ast
use Rattle.tb_syntax.specs.declared.ast.AstKind.TheVariants.{outs-Appl, outs-Var, outs-List}
use Rattle.tb_syntax.specs.declared.ast.AstKind.TheOpen as layer
use Rattle.tb_syntax.specs.declared.ast.AstKind.TheOpen.{AstKind-F}
use Rattle.tb_syntax.specs.declared.ast.AstKind.TheFolds.{fold_out-AstKind, map-AstKind, fold-Ast, fold_out-Ast}
use Rattle.tb_types.specs.declared.violation.Rule.TheVariants.{Undeclared}
use Rattle.tb_types.specs.declared.scope.Known.{Known}
use Rattle.tb_types.specs.Violation.{noted_if}
use Rattle.tb_types.specs.Exprs.{Judged, JudgedKind, judged, judged_kind, kind_step, expr_step, appl_fits, all_fit, application_faults, parts_faults}
use Rattle.tb_types.specs.Fitting.{is_any, is_list_of}
use Rattle.tb_types.specs.Scopes.{sort_in}

module _ (known : List Known) where
  abbrev judge : Ast → Judged
  judge = fold-Ast JudgedKind Judged (kind_step known) expr_step

  abbrev layer_judged : AstKind-F AstKind Ast → JudgedKind
  layer_judged x = kind_step known (map-AstKind AstKind Ast JudgedKind Judged (judged_kind known) judge x)

  opened : (k : AstKind) (x : AstKind-F AstKind Ast) → out-AstKind k ≡ x → judged_kind known k ≡ layer_judged x
  opened k x e = fold_out-AstKind JudgedKind Judged (kind_step known) expr_step k ∙ ap layer_judged e

  expr_is : (expr : Ast) → judge expr ≡ judged known expr
  expr_is expr = fold_out-Ast JudgedKind Judged (kind_step known) expr_step expr

  exprs_are : (parts : List Ast) → map judge parts ≡ map (judged known) parts
  exprs_are parts = λ i. map (λ part. expr_is part i) parts

  judged_of_appl : (name : List ℕ) (parts : List Ast) → judged_kind known (ast.Appl name parts) ≡ kind_step known (layer.Appl name (map (judged known) parts))
  judged_of_appl name parts = opened _ _ (outs-Appl name parts) ∙ ap (λ (ps : List Judged). kind_step known (layer.Appl name ps)) (exprs_are parts)

  judged_of_list : (parts : List Ast) → judged_kind known (ast.List parts) ≡ kind_step known (layer.List (map (judged known) parts))
  judged_of_list parts = opened _ _ (outs-List parts) ∙ ap (λ (ps : List Judged). kind_step known (layer.List ps)) (exprs_are parts)

pub faults_of_var : (known : List Known) (name : List ℕ) (token : ℕ) → (judged_kind known (ast.Var name)).faults token ≡ noted_if (is_none (sort_in known name)) Undeclared token
faults_of_var known name token = ap (λ (j : JudgedKind). j.faults token) (opened known _ _ (outs-Var name))

pub fits_of_appl : (known : List Known) (name : List ℕ) (parts : List Ast) (s : Sort) → (judged_kind known (ast.Appl name parts)).fits s ≡ (is_any (out-Sort s) || appl_fits name (map (judged known) parts) s)
fits_of_appl known name parts s = ap (λ (j : JudgedKind). j.fits s) (judged_of_appl known name parts)

pub fits_of_list : (known : List Known) (parts : List Ast) (s : Sort) → (judged_kind known (ast.List parts)).fits s ≡ (is_any (out-Sort s) || is_list_of (all_fit (map (judged known) parts)) (out-Sort s))
fits_of_list known parts s = ap (λ (j : JudgedKind). j.fits s) (judged_of_list known parts)

pub faults_of_appl : (known : List Known) (name : List ℕ) (parts : List Ast) (token : ℕ) → (judged_kind known (ast.Appl name parts)).faults token ≡ application_faults name (map (judged known) parts) token
faults_of_appl known name parts token = ap (λ (j : JudgedKind). j.faults token) (judged_of_appl known name parts)

pub faults_of_list : (known : List Known) (parts : List Ast) (token : ℕ) → (judged_kind known (ast.List parts)).faults token ≡ parts_faults (map (judged known) parts)
faults_of_list known parts token = ap (λ (j : JudgedKind). j.faults token) (judged_of_list known parts)
