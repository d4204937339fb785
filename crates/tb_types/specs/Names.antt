-- The definitions that the names of processes, tools, and functions refer to.
use Rattle.std.specs.Prelude.{ℕ, ◌==◌, Bool, false, not, List, Option, Some, None, find, is_some, if◌then◌else◌}
use Rattle.std.specs.Str.{bytes_eq}
use Rattle.tb_terms.specs.declared.sort.Sort.{Sort}
use Rattle.tb_terms.specs.declared.sort.Sort.TheOpen as sort
use Rattle.tb_terms.specs.declared.sort.Sort.TheFolds.{fold-Sort}
use Rattle.tb_terms.specs.declared.expr.Func.{Func}
use Rattle.tb_func.specs.Functions.{function_named}
use Rattle.tb_syntax.specs.declared.script.ProcDef.{ProcDef}
use Rattle.tb_syntax.specs.declared.script.ToolDef.{ToolDef}

abbrev pub process_named : List ProcDef → List ℕ → Option ProcDef
process_named procs name = find (λ (d : ProcDef). bytes_eq d.name name) procs

abbrev pub tool_named : List ToolDef → List ℕ → Option ToolDef
tool_named tools name = find (λ (d : ToolDef). bytes_eq d.name name) tools

abbrev pub is_tool : List ToolDef → List ℕ → Bool
is_tool tools name = is_some (tool_named tools name)

abbrev pub has_command : Option ToolDef → Bool
has_command None = false
has_command (Some tool) = is_some tool.command

-- the innermost name of a type is neither a built-in type nor a defined tool
abbrev pub unknown_step : List ToolDef → sort.Sort-F Bool → Bool
unknown_step tools sort.Bool = false
unknown_step tools sort.Int = false
unknown_step tools sort.Str = false
unknown_step tools (sort.List members) = members
unknown_step tools sort.Any = false
unknown_step tools (sort.Tool name) = not (is_tool tools name)

abbrev pub is_unknown_sort : List ToolDef → Sort → Bool
is_unknown_sort tools = fold-Sort Bool (unknown_step tools)

-- the function that an application with this many parts applies, if it has parts and its name is the name of a function
abbrev pub applied : List ℕ → ℕ → Option Func
applied name count = if count == 0 then None else function_named name
