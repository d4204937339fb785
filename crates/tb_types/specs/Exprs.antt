-- The conditions on an expression that don't depend on its place, and the types that it fits. Functions have as many arguments as they
-- take, of the right types. Variables are declared.
use Rattle.std.specs.Prelude.{ℕ, ◌==◌, Bool, false, not, ◌||◌, ◌&&◌, List, [], ◌∷◌, ◌++◌, length, Option, Some, None, is_none}
use Rattle.std.specs.List.{list_all, flat_map}
use Rattle.tb_terms.specs.declared.sort.Sort.{Sort, out-Sort}
use Rattle.tb_terms.specs.declared.sort.Sort.TheVariants as sorts
use Rattle.tb_terms.specs.declared.expr.Func.{Func}
use Rattle.tb_func.specs.declared.shape.Shape.{Shape}
use Rattle.tb_func.specs.declared.shape.Signature.{Signature}
use Rattle.tb_func.specs.Fitting.{sort_of}
use Rattle.tb_func.specs.Functions.{signature_of}
use Rattle.tb_syntax.specs.declared.ast.Ast.{Ast}
use Rattle.tb_syntax.specs.declared.ast.AstKind.{AstKind}
use Rattle.tb_syntax.specs.declared.ast.AstKind.TheOpen as ast
use Rattle.tb_syntax.specs.declared.ast.AstKind.TheFolds.{fold-AstKind}
use Rattle.tb_types.specs.declared.violation.Violation.{Violation}
use Rattle.tb_types.specs.declared.violation.Rule.TheVariants.{Arity, Undeclared, TypeClash}
use Rattle.tb_types.specs.declared.scope.Known.{Known}
use Rattle.tb_types.specs.Violation.{noted_if}
use Rattle.tb_types.specs.Fitting.{is_any, is_bool, is_int, is_str, is_list_of, is_tool_sort, is_truth_word, goes_with, result_goes_with}
use Rattle.tb_types.specs.Names.{applied}
use Rattle.tb_types.specs.Scopes.{sort_in}

-- an expression: its first token, the types that it fits, and the violations of the expression and its parts
pub record Judged : Type 0 where
  pub token : ℕ
  pub fits : Sort → Bool
  pub faults : List Violation

-- the types and violations of an expression whose first token isn't known yet
pub record JudgedKind : Type 0 where
  pub fits : Sort → Bool
  pub faults : ℕ → List Violation

-- a name without arguments fits `bool` if it is `true` or `false`, and no other type except `term`
abbrev pub word_fits : List ℕ → ℕ → Sort → Bool
word_fits name count s = count == 0 && (is_truth_word name && is_bool (out-Sort s))

-- the name of a tool with one argument that fits `int` fits the type of this tool
abbrev pub tool_fits : List ℕ → List Judged → Sort → Bool
tool_fits name [] s = false
tool_fits name (number ∷ []) s = is_tool_sort name (out-Sort s) && number.fits sorts.Int
tool_fits name (number ∷ other ∷ parts) s = false

-- an application fits a type as a name, by the result of its function, or as a tool
abbrev pub appl_fits : List ℕ → List Judged → Sort → Bool
appl_fits name parts s = word_fits name (length parts) s || (result_goes_with (applied name (length parts)) s || tool_fits name parts s)

abbrev pub variable_fits : Option Sort → Sort → Bool
variable_fits None s = false
variable_fits (Some own) s = goes_with own s

abbrev pub all_fit : List Judged → Sort → Bool
all_fit parts s = list_all (λ (part : Judged). part.fits s) parts

-- the types that an expression fits. No condition depends on this for a result variable or a placeholder, if all of them are at allowed
-- places.
abbrev pub fits_step : List Known → ast.AstKind-F JudgedKind Judged → Sort → Bool
fits_step known (ast.Int number) s = is_any (out-Sort s) || is_int (out-Sort s)
fits_step known (ast.Str text) s = is_any (out-Sort s) || is_str (out-Sort s)
fits_step known (ast.Appl name parts) s = is_any (out-Sort s) || appl_fits name parts s
fits_step known (ast.Var name) s = is_any (out-Sort s) || variable_fits (sort_in known name) s
fits_step known (ast.Result name) s = is_any (out-Sort s)
fits_step known (ast.Hole hole) s = is_any (out-Sort s)
fits_step known (ast.List parts) s = is_any (out-Sort s) || is_list_of (all_fit parts) (out-Sort s)

-- a function is applied to a wrong number of arguments
abbrev pub has_wrong_count : Option Func → ℕ → Bool
has_wrong_count None count = false
has_wrong_count (Some func) count = not (count == (signature_of func).arity)

-- an argument that doesn't fit the type of its position
abbrev pub argument_faults : Shape → Judged → List Violation
argument_faults shape part = noted_if (not (part.fits (sort_of shape))) TypeClash part.token

-- the violations of the first two arguments; no function takes more
abbrev pub arguments_faults : Signature → List Judged → List Violation
arguments_faults signature [] = []
arguments_faults signature (first ∷ []) = argument_faults signature.first first
arguments_faults signature (first ∷ second ∷ others) = argument_faults signature.first first ++ argument_faults signature.second second

abbrev pub applied_faults : Option Func → List Judged → List Violation
applied_faults None parts = []
applied_faults (Some func) parts = arguments_faults (signature_of func) parts

abbrev pub parts_faults : List Judged → List Violation
parts_faults parts = flat_map (λ (part : Judged). part.faults) parts

-- the violations of an application: a wrong number of arguments, arguments of wrong types, and those of the arguments
abbrev pub application_faults : List ℕ → List Judged → ℕ → List Violation
application_faults name parts token =
    noted_if (has_wrong_count (applied name (length parts)) (length parts)) Arity token
    ++ applied_faults (applied name (length parts)) parts
    ++ parts_faults parts

abbrev pub faults_step : List Known → ast.AstKind-F JudgedKind Judged → ℕ → List Violation
faults_step known (ast.Int number) token = []
faults_step known (ast.Str text) token = []
faults_step known (ast.Appl name parts) token = application_faults name parts token
faults_step known (ast.Var name) token = noted_if (is_none (sort_in known name)) Undeclared token
faults_step known (ast.Result name) token = noted_if (is_none (sort_in known name)) Undeclared token
faults_step known (ast.Hole hole) token = []
faults_step known (ast.List parts) token = parts_faults parts

abbrev pub kind_step : List Known → ast.AstKind-F JudgedKind Judged → JudgedKind
kind_step known kind = record { fits = fits_step known kind; faults = faults_step known kind }

abbrev pub expr_step : ast.Ast-F JudgedKind Judged → Judged
expr_step expr = record { token = expr.token; fits = expr.kind.fits; faults = expr.kind.faults expr.token }

abbrev pub judged_kind : List Known → AstKind → JudgedKind
judged_kind known = fold-AstKind JudgedKind Judged (kind_step known) expr_step

abbrev pub judged : List Known → Ast → Judged
judged known expr = record { token = expr.token; fits = (judged_kind known expr.kind).fits; faults = (judged_kind known expr.kind).faults expr.token }

abbrev pub fits : List Known → Ast → Sort → Bool
fits known expr s = (judged_kind known expr.kind).fits s

abbrev pub expr_faults : List Known → Ast → List Violation
expr_faults known expr = (judged_kind known expr.kind).faults expr.token
