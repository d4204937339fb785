-- The value of an argument of a root, which has no variables.
use Rattle.std.specs.Prelude.{ℕ, Bool, false, List, [], length, Option, Some, None}
use Rattle.tb_terms.specs.declared.term.Term.{Term}
use Rattle.tb_terms.specs.declared.sort.Sort.{Sort}
use Rattle.tb_terms.specs.declared.sort.Sort.TheVariants as sort
use Rattle.tb_terms.specs.declared.expr.Expr.{Expr}
use Rattle.tb_terms.specs.declared.expr.Expr.TheVariants as expr
use Rattle.tb_terms.specs.declared.expr.Func.{Func}
use Rattle.tb_terms.specs.Sorts.{has_sort}
use Rattle.tb_func.specs.Values.{value_of}
use Rattle.tb_syntax.specs.declared.ast.Ast.{Ast}
use Rattle.tb_syntax.specs.declared.ast.AstKind.{AstKind}
use Rattle.tb_syntax.specs.declared.ast.AstKind.TheOpen as ast
use Rattle.tb_syntax.specs.declared.ast.AstKind.TheFolds.{fold-AstKind}
use Rattle.tb_types.specs.Names.{applied}

-- an application of the function if there is one, and of the plain name otherwise
abbrev pub application : Option Func → List ℕ → List Expr → Expr
application None name parts = expr.Appl name parts
application (Some func) name parts = expr.Call func parts

-- a variable, a result variable, and a placeholder become placeholders, which have no value
abbrev pub closed_step : ast.AstKind-F Expr Expr → Expr
closed_step (ast.Int number) = expr.Int number
closed_step (ast.Str text) = expr.Str text
closed_step (ast.Appl name parts) = application (applied name (length parts)) name parts
closed_step (ast.Var name) = expr.Hole sort.Any
closed_step (ast.Result name) = expr.Hole sort.Any
closed_step (ast.Hole s) = expr.Hole s
closed_step (ast.List parts) = expr.List parts

abbrev pub expr_step : ast.Ast-F Expr Expr → Expr
expr_step expr = expr.kind

abbrev pub closed_kind : AstKind → Expr
closed_kind = fold-AstKind Expr Expr closed_step expr_step

abbrev pub closed : Ast → Expr
closed expr = closed_kind expr.kind

abbrev pub is_of_sort : Option Term → Sort → Bool
is_of_sort None s = false
is_of_sort (Some term) s = has_sort term s

-- the value of an expression without variables, if it has one
abbrev pub closed_value : Ast → Option Term
closed_value expr = value_of [] (closed expr)

-- the expression has a value, and the value has the type
abbrev pub has_value_of : Ast → Sort → Bool
has_value_of expr s = is_of_sort (closed_value expr) s
