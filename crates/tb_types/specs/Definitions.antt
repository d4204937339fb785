-- The violations by names that are defined twice, and by unknown types.
use Rattle.std.specs.Prelude.{ℕ, Bool, true, false, List, [], ◌∷◌, ◌++◌, if◌then◌else◌}
use Rattle.std.specs.List.{flat_map}
use Rattle.std.specs.Str.{bytes_eq}
use Rattle.tb_terms.specs.declared.sort.Sort.{Sort}
use Rattle.tb_syntax.specs.declared.proc.Var.{Var}
use Rattle.tb_syntax.specs.declared.script.Formal.{Formal}
use Rattle.tb_syntax.specs.declared.script.ProcDef.{ProcDef}
use Rattle.tb_syntax.specs.declared.script.ToolDef.{ToolDef}
use Rattle.tb_syntax.specs.Words.{is_sort_word}
use Rattle.tb_types.specs.declared.violation.Violation.{Violation}
use Rattle.tb_types.specs.declared.violation.Rule.TheVariants.{Twice, NoTool}
use Rattle.tb_types.specs.Violation.{noted_if}
use Rattle.tb_types.specs.Names.{is_unknown_sort}

-- a set of names, as a test of membership; here the empty set
abbrev pub none_seen : List ℕ → Bool
none_seen name = false

abbrev pub or_seen : List ℕ → (List ℕ → Bool) → List ℕ → Bool
or_seen first seen name = if bytes_eq first name then true else seen name

-- the processes, tools, parameters, or variables whose name comes earlier in the list, or is in `seen`
abbrev pub repeats : {A : Type 0} (name_of : A → List ℕ) (token_of : A → ℕ) (seen : List ℕ → Bool) → List A → List Violation
repeats name_of token_of seen [] = []
repeats name_of token_of seen (x ∷ xs) =
    noted_if (seen (name_of x)) Twice (token_of x) ++ repeats name_of token_of (or_seen (name_of x) seen) xs

abbrev pub formal_repeats : (List ℕ → Bool) → List Formal → List Violation
formal_repeats = repeats (λ (f : Formal). f.name) (λ (f : Formal). f.token)

abbrev pub var_repeats : (List ℕ → Bool) → List Var → List Violation
var_repeats = repeats (λ (v : Var). v.name) (λ (v : Var). v.token)

abbrev pub process_repeats : (List ℕ → Bool) → List ProcDef → List Violation
process_repeats = repeats (λ (d : ProcDef). d.name) (λ (d : ProcDef). d.token)

abbrev pub tool_repeats : (List ℕ → Bool) → List ToolDef → List Violation
tool_repeats = repeats (λ (d : ToolDef). d.name) (λ (d : ToolDef). d.token)

-- a tool with the name of a built-in type
abbrev pub tool_faults : ToolDef → List Violation
tool_faults tool = noted_if (is_sort_word tool.name) Twice tool.token

-- a type whose innermost name is neither a built-in type nor a defined tool
abbrev pub sort_faults : List ToolDef → Sort → ℕ → List Violation
sort_faults tools s token = noted_if (is_unknown_sort tools s) NoTool token

abbrev pub formal_faults : List ToolDef → Formal → List Violation
formal_faults tools formal = sort_faults tools formal.sort formal.sort_token

abbrev pub var_faults : List ToolDef → Var → List Violation
var_faults tools var = sort_faults tools var.sort var.sort_token

-- the violations of the parameters of a process, and of the variables of one `let`
abbrev pub formals_faults : List ToolDef → List Formal → List Violation
formals_faults tools formals = formal_repeats none_seen formals ++ flat_map (formal_faults tools) formals

abbrev pub vars_faults : List ToolDef → List Var → List Violation
vars_faults tools vars = var_repeats none_seen vars ++ flat_map (var_faults tools) vars

abbrev pub tools_faults : List ToolDef → List Violation
tools_faults tools = tool_repeats none_seen tools ++ flat_map tool_faults tools
