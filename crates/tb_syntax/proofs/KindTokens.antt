-- The tokens that are printed for each kind of expression.
use Rattle.std.proofs.Common.{◌≡◌, ℕ, ℤ, List, [], ◌∷◌, map, ap, ◌∙◌}
use Rattle.tb_terms.specs.declared.sort.Sort.{Sort}
use Rattle.tb_lex.specs.declared.kind.TokenKind.{TokenKind}
use Rattle.tb_lex.specs.declared.kind.TokenKind.TheVariants as kind
use Rattle.tb_lex.specs.declared.kind.TokenKind.TheVariants.{Lower, Upper, Symbol as Sign}
use Rattle.tb_lex.specs.declared.symbol.Symbol.TheVariants.{Question}
use Rattle.tb_syntax.specs.declared.ast.Ast.{Ast}
use Rattle.tb_syntax.specs.declared.ast.AstKind.{AstKind, out-AstKind}
use Rattle.tb_syntax.specs.declared.ast.AstKind.TheVariants as ast
use Rattle.tb_syntax.specs.declared.ast.AstKind.TheVariants.{outs-Int, outs-Str, outs-Appl, outs-Var, outs-Result, outs-Hole, outs-List}
use Rattle.tb_syntax.specs.declared.ast.AstKind.TheOpen.{AstKind-F}
use Rattle.tb_syntax.specs.declared.ast.AstKind.TheFolds.{fold_out-AstKind, map-AstKind, fold-Ast, fold_out-Ast}
use Rattle.tb_syntax.specs.Helpers.Canonical.{kind_tokens, expr_tokens, kind_step, expr_step, optional, hole_tokens, list_expr_tokens}

abbrev tokens : AstKind-F AstKind Ast → List TokenKind
tokens layer = kind_step (map-AstKind AstKind Ast (List TokenKind) (List TokenKind) kind_tokens (fold-Ast (List TokenKind) (List TokenKind) kind_step expr_step) layer)

opened : (k : AstKind) (layer : AstKind-F AstKind Ast) → out-AstKind k ≡ layer → kind_tokens k ≡ tokens layer
opened k layer e = fold_out-AstKind (List TokenKind) (List TokenKind) kind_step expr_step k ∙ ap tokens e

expr_is : (expr : Ast) → fold-Ast (List TokenKind) (List TokenKind) kind_step expr_step expr ≡ expr_tokens expr
expr_is expr = fold_out-Ast (List TokenKind) (List TokenKind) kind_step expr_step expr

exprs_are : (parts : List Ast) → map (fold-Ast (List TokenKind) (List TokenKind) kind_step expr_step) parts ≡ map expr_tokens parts
exprs_are parts = λ i. map (λ part. expr_is part i) parts

pub tokens_of_number : (n : ℤ) → kind_tokens (ast.Int n) ≡ kind.Int n ∷ []
tokens_of_number n = opened _ _ (outs-Int n)

pub tokens_of_string : (text : List ℕ) → kind_tokens (ast.Str text) ≡ kind.Str text ∷ []
tokens_of_string text = opened _ _ (outs-Str text)

pub tokens_of_appl : (name : List ℕ) (parts : List Ast) → kind_tokens (ast.Appl name parts) ≡ Lower name ∷ optional (map expr_tokens parts)
tokens_of_appl name parts = opened _ _ (outs-Appl name parts) ∙ ap (λ ks. Lower name ∷ optional ks) (exprs_are parts)

pub tokens_of_var : (name : List ℕ) → kind_tokens (ast.Var name) ≡ Upper name ∷ []
tokens_of_var name = opened _ _ (outs-Var name)

pub tokens_of_result : (name : List ℕ) → kind_tokens (ast.Result name) ≡ Upper name ∷ Sign Question ∷ []
tokens_of_result name = opened _ _ (outs-Result name)

pub tokens_of_hole : (s : Sort) → kind_tokens (ast.Hole s) ≡ hole_tokens s
tokens_of_hole s = opened _ _ (outs-Hole s)

pub tokens_of_list : (parts : List Ast) → kind_tokens (ast.List parts) ≡ list_expr_tokens (map expr_tokens parts)
tokens_of_list parts = opened _ _ (outs-List parts) ∙ ap list_expr_tokens (exprs_are parts)
