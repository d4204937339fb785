-- The expression of a body that an expression of a script becomes: variables become slots, and applied functions become calls.
use Rattle.std.specs.Prelude.{ℕ, List, [], ◌∷◌, map, Option, Some, None}
use Rattle.tb_terms.specs.declared.expr.Expr.{Expr}
use Rattle.tb_terms.specs.declared.expr.Expr.TheVariants as expr
use Rattle.tb_terms.specs.declared.expr.Func.{Func}
use Rattle.tb_func.specs.Functions.{function_named}
use Rattle.tb_syntax.specs.declared.ast.Ast.{Ast}
use Rattle.tb_syntax.specs.declared.ast.AstKind.{AstKind}
use Rattle.tb_syntax.specs.declared.ast.AstKind.TheOpen as open_ast
use Rattle.tb_syntax.specs.declared.ast.AstKind.TheFolds.{fold-AstKind}
use Rattle.tb_expand.specs.Scopes.{Scope, slot_of}

-- a name with arguments: a call if a function has this name
abbrev pub applied : List ℕ → Option Func → List Expr → Expr
applied name None parts = expr.Appl name parts
applied name (Some func) parts = expr.Call func parts

-- A name without arguments is always a term, even if a function has this name.
abbrev pub named : List ℕ → List Expr → Expr
named name [] = expr.Appl name []
named name (part ∷ parts) = applied name (function_named name) (part ∷ parts)

abbrev pub kind_step : Scope → open_ast.AstKind-F Expr Expr → Expr
kind_step scope (open_ast.Int number) = expr.Int number
kind_step scope (open_ast.Str text) = expr.Str text
kind_step scope (open_ast.Appl name parts) = named name parts
kind_step scope (open_ast.Var name) = expr.Var (slot_of scope name)
kind_step scope (open_ast.Result name) = expr.Result (slot_of scope name)
kind_step scope (open_ast.Hole sort) = expr.Hole sort
kind_step scope (open_ast.List parts) = expr.List parts

-- the token's position is dropped
abbrev pub position_step : open_ast.Ast-F Expr Expr → Expr
position_step ast = ast.kind

abbrev pub kind_expr : Scope → AstKind → Expr
kind_expr scope = fold-AstKind Expr Expr (kind_step scope) position_step

abbrev pub expr_of : Scope → Ast → Expr
expr_of scope ast = kind_expr scope ast.kind

abbrev pub exprs_of : Scope → List Ast → List Expr
exprs_of scope asts = map (expr_of scope) asts
