-- The script that a source parses as, when the script is accepted, and the program of the script.
use Rattle.std.specs.Prelude.{◌≡◌, ℕ, ◌≤◌, List, length, map, Option, Some, None, find, option_map}
use Rattle.std.specs.List.{AllZip}
use Rattle.tb_terms.specs.declared.term.Term.{Term}
use Rattle.tb_body.specs.declared.program.Program.{Program}
use Rattle.tb_body.specs.declared.program.Root.{Root}
use Rattle.tb_body.specs.declared.program.Tool.{Tool}
use Rattle.tb_body.specs.Programs.{most_roots}
use Rattle.tb_lex.specs.Tokens.{Lexes, most_tokens}
use Rattle.tb_lex.specs.declared.token.Token.{Token}
use Rattle.tb_syntax.specs.Spelling.{kinds_of}
use Rattle.tb_syntax.specs.declared.proc.Call.{Call}
use Rattle.tb_syntax.specs.declared.script.ProcDef.{ProcDef}
use Rattle.tb_syntax.specs.declared.script.Script.{Script}
use Rattle.tb_syntax.specs.declared.script.ToolDef.{ToolDef}
use Rattle.tb_parse.specs.Faults.{IsScriptOf}
use Rattle.tb_types.specs.Conditions.{Proper}
use Rattle.tb_types.specs.Values.{closed_value}
use Rattle.tb_expand.specs.Acts.{process_of}
use Rattle.tb_expand.specs.Expansion.{expansion_of, is_too_large}
use Rattle.tb_expand.specs.Faults.{HasNoCycle, IsExpansion}

-- the source has these tokens, at most as many as a script may have
pub record HasTokens (text : List ℕ) (tokens : List Token) : Type 0 where
  pub lexes : Lexes text tokens
  pub few : length tokens ≤ most_tokens

-- the source parses as the script, within the limits on tokens, open brackets and depths
pub record IsTextOf (text : List ℕ) (script : Script) : Type 0 where
  pub tokens : List Token
  pub has_tokens : HasTokens text tokens
  pub is_script : IsScriptOf (kinds_of tokens) script

-- the first process, in order of definition, whose expansion has over 20,000 atoms or a depth over 1,000
abbrev pub first_too_large : Script → Option (List ℕ)
first_too_large script = option_map (λ (d : ProcDef). d.name) (find (λ (d : ProcDef). is_too_large (expansion_of script d)) script.procs)

-- the source parses as the script, and the nine conditions hold
pub record IsChecked (text : List ℕ) (script : Script) : Type 0 where
  pub is_text : IsTextOf text script
  pub proper : Proper script

-- in addition, no calls form a cycle
pub record IsEnding (text : List ℕ) (script : Script) : Type 0 where
  pub checked : IsChecked text script
  pub no_cycle : HasNoCycle script

-- in addition, no expansion is too large
pub record IsSmall (text : List ℕ) (script : Script) : Type 0 where
  pub ending : IsEnding text script
  pub small : first_too_large script ≡ None

-- in addition, there aren't too many roots: the script is accepted, whatever the length of its source
pub record IsAccepted (text : List ℕ) (script : Script) : Type 0 where
  pub is_small : IsSmall text script
  pub few_roots : length script.roots ≤ most_roots

-- the root of a call: the position, from 0, of the process with the call's name, and the values of the arguments
pub record IsRootOf (script : Script) (call : Call) (root : Root) : Type 0 where
  pub process : root.process ≡ process_of script call.name
  pub actuals : map (λ (value : Term). Some value) root.actuals ≡ map closed_value call.actuals

-- the tool of a definition
abbrev pub declared_tool : ToolDef → Tool
declared_tool d = record { name = d.name; command = d.command }

-- The program of a script: the expansions of its processes in order of definition, its roots in the order of their calls, and its
-- tools.
pub record IsProgramOf (script : Script) (program : Program) : Type 0 where
  pub bodies : AllZip (IsExpansion script) script.procs program.bodies
  pub roots : AllZip (IsRootOf script) script.roots program.roots
  pub tools : program.tools ≡ map declared_tool script.tools
