-- The position of a name's first definition among the definitions, from 0.
use Rattle.std.specs.Prelude.{ℕ, ◌+◌, Bool, List, [], ◌∷◌, Option, Some, None, option_map, if◌then◌else◌}
use Rattle.std.specs.Borrow.{Bor}
use Rattle.std.specs.Str.{bytes_eq}
use Rattle.indexmap.specs.IndexMap.{IndexMap, get_by}
use Rattle.tb_syntax.specs.declared.script.ProcDef.{ProcDef}
use Rattle.tb_syntax.specs.declared.script.ToolDef.{ToolDef}

abbrev pub process_name : ProcDef → List ℕ
process_name definition = definition.name

abbrev pub tool_name : ToolDef → List ℕ
tool_name definition = definition.name

abbrev pub position_of : List (List ℕ) → List ℕ → Option ℕ
position_of [] name = None
position_of (first ∷ others) name = if bytes_eq first name then Some 0 else option_map (λ position. position + 1) (position_of others name)

-- the position of a name in the program's table
abbrev pub position_in : {S : Type 0} → IndexMap (Bor (List ℕ)) ℕ S → List ℕ → Option ℕ
position_in positions name = get_by (λ key. bytes_eq name key.now) positions

-- the position of a name after an insertion: an old position stays; otherwise the inserted name gets the new position
abbrev pub kept : Option ℕ → Bool → ℕ → Option ℕ
kept (Some old) is_same position = Some old
kept None is_same position = if is_same then Some position else None
