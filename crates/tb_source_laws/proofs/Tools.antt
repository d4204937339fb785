-- The tools of an accepted script don't have the name of a type.
use Rattle.std.proofs.Common.{◌≡◌, ℕ, false, List, [], Contains, sym, subst}
use Rattle.std.specs.List.{All, flat_map}
use Rattle.std.proofs.lemmas.List.Elements.{All-from_recursion, All-map, All-weaker, All-contains}
use Rattle.tb_body.specs.declared.program.Program.{Program}
use Rattle.tb_body.specs.declared.program.Tool.{Tool}
use Rattle.tb_syntax.specs.declared.script.ToolDef.{ToolDef}
use Rattle.tb_syntax.specs.Words.{is_sort_word}
use Rattle.tb_types.specs.declared.violation.Rule.TheVariants.{Twice}
use Rattle.tb_expand.proofs.NoFaults.{append_none, noted_none, flat_map_each}
use Rattle.tb_script.specs.Programs.{declared_tool}
use Rattle.tb_script.specs.Findings.{HasProgram}
use Rattle.tb_expand.proofs.FaultFree.{fault_free}
use Rattle.tb_types.specs.Definitions.{tool_repeats, tool_faults, none_seen}

abbrev IsNoType : Tool → Type 0
IsNoType tool = is_sort_word tool.name ≡ false

pub no-type : (text : List ℕ) (program : Program) (tool : Tool) → HasProgram text program → Contains program.tools tool → is_sort_word tool.name ≡ false
no-type text program tool has c =
    let tools = has.script.tools in
    let free = fault_free has.script has.is_accepted.is_small.ending.checked.proper in
    let none = (append_none (tool_repeats none_seen tools) (flat_map tool_faults tools) free.tools).1 in
    let each = All-from_recursion (λ (d : ToolDef). tool_faults d ≡ []) tools (flat_map_each tool_faults tools none) in
    let named = All-weaker (λ (d : ToolDef). tool_faults d ≡ []) (λ (d : ToolDef). is_sort_word d.name ≡ false) (λ d e. noted_none (is_sort_word d.name) Twice d.token e) tools each in
    let all = All-map IsNoType declared_tool tools named in
    All-contains IsNoType program.tools tool (subst (All IsNoType) (sym has.meaning.tools) all) c
