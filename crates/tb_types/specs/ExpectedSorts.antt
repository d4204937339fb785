-- What the place of an expression requires of it, and the violations of these requirements.
use Rattle.std.specs.Prelude.{ℕ, ◌==◌, Bool, false, not, ◌||◌, ◌&&◌, List, [], ◌++◌, length, map, Option, Some, None, option_map, option_and_then, is_some, is_none}
use Rattle.std.specs.List.{list_any}
use Rattle.tb_terms.specs.declared.sort.Sort.{Sort, out-Sort}
use Rattle.tb_terms.specs.declared.sort.Sort.TheVariants as sorts
use Rattle.tb_syntax.specs.declared.ast.Ast.{Ast}
use Rattle.tb_syntax.specs.declared.ast.AstKind.{AstKind, out-AstKind}
use Rattle.tb_syntax.specs.declared.ast.AstKind.TheOpen as ast
use Rattle.tb_syntax.specs.declared.script.Script.{Script}
use Rattle.tb_syntax.specs.declared.script.ToolDef.{ToolDef}
use Rattle.tb_types.specs.declared.violation.Violation.{Violation}
use Rattle.tb_types.specs.declared.violation.Rule.TheVariants.{NoTool, NoFunction, NotResult, TypeClash}
use Rattle.tb_types.specs.declared.positions.Position.{Position}
use Rattle.tb_types.specs.declared.expected_sorts.ExpectedSort.TheVariants as kept
use Rattle.tb_types.specs.declared.expected_sorts.ExpectedSort.{ExpectedSort as Kept}
use Rattle.tb_types.specs.declared.scope.Known.{Known}
use Rattle.tb_types.specs.Violation.{noted_if}
use Rattle.tb_types.specs.Exprs.{fits, expr_faults}
use Rattle.tb_types.specs.Fitting.{is_any, is_int, is_any_tool, is_tool_sort, is_same_sort}
use Rattle.tb_types.specs.Names.{applied, has_command, tool_named}
use Rattle.tb_types.specs.Positions.{misplaced}
use Rattle.tb_types.specs.Scopes.{sort_in}
use Rattle.tb_types.specs.Values.{has_value_of}

pub data Expectation : Type 0 where
  -- any expression
  plain : Expectation
  -- an expression that fits this type: the argument of a value parameter, the right side of `:=`, the first argument of `printf`
  of_sort : Sort → Expectation
  -- a test or a time value, which fits this type
  tested : Sort → Expectation
  -- an argument of a root, which fits this type and has a value of it
  rooted : Sort → Expectation
  -- the argument of a result parameter of this type
  exact : Sort → Expectation
  -- the variable of `create`
  made : Expectation
  -- the tool of `execute`
  command : Expectation
  -- the variable of `execute`, with the name of the tool
  started : Option (List ℕ) → Expectation
  -- the variable of `rec-connect`
  connected : Expectation
  -- the argument of `rec-disconnect`
  disconnected : Expectation
  -- the first argument of the other tool atoms
  of_tool : Expectation

-- the expectation that a value of the program's type represents
abbrev pub expected_sort_of : Kept → Expectation
expected_sort_of kept.Plain = plain
expected_sort_of (kept.OfSort s) = of_sort s.now
expected_sort_of (kept.Tested s) = tested s.now
expected_sort_of (kept.Rooted s) = rooted s.now
expected_sort_of (kept.Exact s) = exact s.now
expected_sort_of kept.Made = made
expected_sort_of kept.Command = command
expected_sort_of (kept.Started name) = started (option_map (λ n. n.now) name)
expected_sort_of kept.Connected = connected
expected_sort_of kept.Disconnected = disconnected
expected_sort_of kept.OfTool = of_tool

-- the name of an expression that is a name without arguments
abbrev pub name_alone : ast.AstKind-F AstKind Ast → Option (List ℕ)
name_alone (ast.Appl name []) = Some name
name_alone _ = None

-- the name of a result variable
abbrev pub result_name : ast.AstKind-F AstKind Ast → Option (List ℕ)
result_name (ast.Result name) = Some name
result_name _ = None

-- an application with arguments that applies no function
abbrev pub is_other_application : ast.AstKind-F AstKind Ast → Bool
is_other_application (ast.Appl name parts) = not (length parts == 0) && is_none (applied name (length parts))
is_other_application _ = false

-- no tool: the first argument of `execute` isn't the name, without arguments, of a tool with a command
abbrev pub lacks_tool : Script → Expectation → Ast → Bool
lacks_tool script command expr = not (has_command (option_and_then (tool_named script.tools) (name_alone (out-AstKind expr.kind))))
lacks_tool script _ expr = false

-- no function: a test or a time value is an application with arguments that applies no function
abbrev pub lacks_function : Expectation → Ast → Bool
lacks_function (tested s) expr = is_other_application (out-AstKind expr.kind)
lacks_function _ expr = false

abbrev pub is_result : Ast → Bool
is_result expr = is_some (result_name (out-AstKind expr.kind))

-- not a result: the place requires a result variable, and the expression isn't one
abbrev pub lacks_result : Expectation → Ast → Bool
lacks_result (exact s) expr = not (is_result expr)
lacks_result made expr = not (is_result expr)
lacks_result (started name) expr = not (is_result expr)
lacks_result connected expr = not (is_result expr)
lacks_result _ expr = false

-- the type of the expression, if it is a result variable that is declared
abbrev pub taken_sort : List Known → Ast → Option Sort
taken_sort known expr = option_and_then (sort_in known) (result_name (out-AstKind expr.kind))

abbrev pub is_refused_by : (Sort → Bool) → Option Sort → Bool
is_refused_by accepts None = false
is_refused_by accepts (Some s) = not (accepts s)

abbrev pub is_number_or_term : Sort → Bool
is_number_or_term s = is_int (out-Sort s) || is_any (out-Sort s)

abbrev pub is_sort_of_tool : Sort → Bool
is_sort_of_tool s = is_any_tool (out-Sort s)

-- the type of this tool, or `term`
abbrev pub is_started_sort : Option (List ℕ) → Sort → Bool
is_started_sort None s = is_any (out-Sort s)
is_started_sort (Some name) s = is_any (out-Sort s) || is_tool_sort name (out-Sort s)

abbrev pub tool_sort : ToolDef → Sort
tool_sort tool = sorts.Tool tool.name

abbrev pub fits_some_tool : List ToolDef → List Known → Ast → Bool
fits_some_tool tools known expr = list_any (fits known expr) (map tool_sort tools)

-- a type clash of the whole expression; the arguments of functions are checked separately
abbrev pub clashes : Script → List Known → Expectation → Ast → Bool
clashes script known plain expr = false
clashes script known (of_sort s) expr = not (fits known expr s)
clashes script known (tested s) expr = not (fits known expr s)
clashes script known (rooted s) expr = not (fits known expr s && has_value_of expr s)
clashes script known (exact s) expr = is_refused_by (is_same_sort s) (taken_sort known expr)
clashes script known made expr = is_refused_by is_number_or_term (taken_sort known expr)
clashes script known command expr = false
clashes script known (started name) expr = is_refused_by (is_started_sort name) (taken_sort known expr)
clashes script known connected expr = is_refused_by is_sort_of_tool (taken_sort known expr)
clashes script known disconnected expr =
    is_refused_by is_sort_of_tool (taken_sort known expr) || (not (is_result expr) && not (fits_some_tool script.tools known expr))
clashes script known of_tool expr = not (fits_some_tool script.tools known expr)

-- all violations of an expression at its place
abbrev pub site_faults : Script → List Known → Position → Expectation → Ast → List Violation
site_faults script known position expected_sort expr =
    noted_if (lacks_tool script expected_sort expr) NoTool expr.token
    ++ noted_if (lacks_function expected_sort expr) NoFunction expr.token
    ++ expr_faults known expr
    ++ misplaced position expr
    ++ noted_if (lacks_result expected_sort expr) NotResult expr.token
    ++ noted_if (clashes script known expected_sort expr) TypeClash expr.token
