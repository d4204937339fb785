-- The position of a name, as it is looked up.
use Rattle.std.proofs.Common.{◌≡◌, ℕ, suc, ◌+◌, Bool, true, false, cond, List, [], ◌∷◌, map, length, slice_get, Option, Some, None, option_map, refl, ap, sym, ◌∙◌, add-one, bytes_eq}
use Rattle.std.proofs.lemmas.List.{length-map}
use Rattle.tb_syntax.specs.declared.script.ProcDef.{ProcDef}
use Rattle.tb_syntax.specs.declared.script.Script.{Script}
use Rattle.tb_types.specs.NamePositions.{position_of as position_named, process_name, tool_name}
use Rattle.tb_types.proofs.Naming.{found_by}
use Rattle.tb_types.specs.Names.{process_named}
use Rattle.tb_expand.specs.Acts.{position_of, process_of, tool_of}

abbrev next : ℕ → ℕ
next n = n + 1

abbrev or_length : ℕ → Option ℕ → ℕ
or_length long None = long
or_length long (Some position) = position

position_is : (names : List (List ℕ)) (name : List ℕ) → or_length (length names) (position_named names name) ≡ position_of name names
position_is [] name = refl
position_is (first ∷ others) name = step (bytes_eq first name) (position_named others name) (position_is others name) where
  step : (b : Bool) (o : Option ℕ) → or_length (length others) o ≡ position_of name others → or_length (suc (length others)) (cond b (Some 0) (option_map next o)) ≡ cond b 0 (position_of name others + 1)
  step true o ih = refl
  step false None ih = sym (add-one (length others)) ∙ ap next ih
  step false (Some position) ih = ap next ih

found_at : (names : List (List ℕ)) (name : List ℕ) (position : ℕ) → Some position ≡ position_named names name → position ≡ position_of name names
found_at names name position is = ap (or_length (length names)) is ∙ position_is names name

not_found : (names : List (List ℕ)) (name : List ℕ) → None ≡ position_named names name → length names ≡ position_of name names
not_found names name is = ap (or_length (length names)) is ∙ position_is names name

pub process_at : (script : Script) (name : List ℕ) (position : ℕ) → Some position ≡ position_named (map process_name script.procs) name → position ≡ process_of script name
process_at script name position is = found_at (map process_name script.procs) name position is

pub no_process : (script : Script) (name : List ℕ) → None ≡ position_named (map process_name script.procs) name → length script.procs ≡ process_of script name
no_process script name is = sym (length-map script.procs process_name) ∙ not_found (map process_name script.procs) name is

pub tool_at : (script : Script) (name : List ℕ) (position : ℕ) → Some position ≡ position_named (map tool_name script.tools) name → position ≡ tool_of script name
tool_at script name position is = found_at (map tool_name script.tools) name position is

pub no_tool : (script : Script) (name : List ℕ) → None ≡ position_named (map tool_name script.tools) name → length script.tools ≡ tool_of script name
no_tool script name is = sym (length-map script.tools tool_name) ∙ not_found (map tool_name script.tools) name is

pub defined_at : (script : Script) (name : List ℕ) (position : ℕ) (found : Option ProcDef) → Some position ≡ position_named (map process_name script.procs) name → found ≡ slice_get script.procs position → found ≡ process_named script.procs name
defined_at script name position found is at = at ∙ found_by process_name script.procs name (Some position) is

pub not_defined : (script : Script) (name : List ℕ) → None ≡ position_named (map process_name script.procs) name → None ≡ process_named script.procs name
not_defined script name is = found_by process_name script.procs name None is
