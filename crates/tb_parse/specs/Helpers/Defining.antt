-- The definitions that the parser keeps: processes that aren't too high, tools, and the position of the first process that is.
use Rattle.std.specs.Prelude.{◌≡◌, ℕ, suc, Bool, not, List, [], ◌∷◌, ◌++◌, filter, Option, Some, None, Result, Ok, Err, if◌then◌else◌}
use Rattle.tb_syntax.specs.Limits.{is_too_high, first_too_high}
use Rattle.tb_syntax.specs.declared.proc.Call.{Call}
use Rattle.tb_syntax.specs.declared.script.ProcDef.{ProcDef}
use Rattle.tb_syntax.specs.declared.script.Script.{Script}
use Rattle.tb_parse.specs.declared.fault.ParseFault.{ParseFault}
use Rattle.tb_parse.specs.declared.fault.ParseFault.TheVariants as fault
use Rattle.tb_parse.specs.declared.kept.Kept.{Kept}
use Rattle.tb_parse.specs.declared.kept.Made.{Made}
use Rattle.tb_parse.specs.declared.kept.Made.TheVariants.{Low, TooHigh}
use Rattle.tb_parse.specs.Helpers.Parsing.{Outcome, Found, Stops, Parser, Defined, mapped, process, definitions}
use Rattle.tb_parse.specs.Helpers.Reading.{Ahead, runs, StopsWith}

-- the definition, or only its position if its body is too high
abbrev pub made_of : ProcDef → Made
made_of d = if is_too_high d then TooHigh d.token else Low d

abbrev pub is_low : ProcDef → Bool
is_low d = not (is_too_high d)

-- the part of the definitions that the parser keeps
abbrev pub kept : Defined → Kept
kept defined = record { procs = filter is_low defined.procs; tools = defined.tools; too_high = first_too_high defined.procs }

-- the first of two positions, where each can be missing
abbrev pub first_position : Option ℕ → Option ℕ → Option ℕ
first_position None later = later
first_position (Some position) later = Some position

-- the definitions kept so far, and then those kept of the rest
abbrev pub with_rest : Kept → Kept → Kept
with_rest prefix rest = record { procs = prefix.procs ++ rest.procs; tools = prefix.tools ++ rest.tools; too_high = first_position prefix.too_high rest.too_high }

-- the definitions kept so far, and then one more
abbrev pub added : Made → Kept → Kept
added (Low d) found = record { procs = found.procs ++ d ∷ []; tools = found.tools; too_high = found.too_high }
added (TooHigh position) found = record { procs = found.procs; tools = found.tools; too_high = first_position found.too_high (Some position) }

abbrev pub process_made : ℕ → ℕ → Parser Made
process_made room position at ks = mapped made_of (process room position at ks)

abbrev pub definitions_kept : ℕ → ℕ → Parser Kept
definitions_kept inner room at ks = mapped kept (definitions inner room at ks)

-- One turn of the loop over definitions: one more is read, or none comes next, or this is the error. Any number of turns can
-- follow.
abbrev pub Defines : ℕ → Kept → Ahead → Result Bool ParseFault → Kept → Ahead → Type 0
Defines inner old_found old (Ok more) found new = (turns : ℕ) → mapped (with_rest old_found) (runs (definitions_kept inner (suc turns)) old)
    ≡ (if more then mapped (with_rest found) (runs (definitions_kept inner turns) new) else Found found new.at new.kinds)
Defines inner old_found old (Err e) found new = (turns : ℕ) → StopsWith (runs (definitions_kept inner (suc turns)) old) e

-- the script of these parts, or an error if a body is too high
abbrev pub whole_of : Option ℕ → Kept → List Call → Result Script ParseFault
whole_of None found roots = Ok (record { procs = found.procs; tools = found.tools; roots = roots })
whole_of (Some position) found roots = Err (fault.TooDeep position)

-- All tokens are a script, and no body is too high; or this is the position of its first definition whose body is too high; or the
-- parser stops at this position.
abbrev pub Judges : Outcome Script → Result Script ParseFault → Type 0
Judges outcome (Ok script) = ((at : ℕ) × (outcome ≡ Found script at [])) × (first_too_high script.procs ≡ None)
Judges outcome (Err (fault.Syntax position)) = outcome ≡ Stops position
Judges outcome (Err (fault.TooDeep position)) = (script : Script) × ((at : ℕ) × (outcome ≡ Found script at [])) × (first_too_high script.procs ≡ Some position)
Judges outcome (Err fault.NoMemory) = Unit {0}
