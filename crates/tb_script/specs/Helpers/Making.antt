-- The results of the parts of the loader, for its proofs.
use Rattle.std.specs.Prelude.{◌≡◌, ◌<◌, ◌≤◌, ℕ, List, length, Option, Some, None, option_map, find, IsSome, All, Result, Ok, Err}
use Rattle.std.specs.List.{AllZip}
use Rattle.tb_body.specs.declared.body.Body.{Body}
use Rattle.tb_body.specs.declared.program.Program.{Program}
use Rattle.tb_body.specs.Programs.{most_roots}
use Rattle.tb_lex.specs.declared.fault.LexFault.{LexFault}
use Rattle.tb_lex.specs.declared.token.Token.{Token}
use Rattle.tb_parse.specs.declared.fault.ParseFault.{ParseFault}
use Rattle.tb_syntax.specs.declared.ast.Ast.{Ast}
use Rattle.tb_syntax.specs.declared.proc.Call.{Call}
use Rattle.tb_syntax.specs.declared.script.ProcDef.{ProcDef}
use Rattle.tb_syntax.specs.declared.script.Script.{Script}
use Rattle.tb_types.specs.declared.fault.CheckFault.{CheckFault}
use Rattle.tb_types.specs.declared.fault.CheckFault.TheVariants as check
use Rattle.tb_types.specs.Values.{closed_value}
use Rattle.tb_expand.specs.declared.fault.ExpandFault.{ExpandFault}
use Rattle.tb_expand.specs.declared.fault.ExpandFault.TheVariants as expand
use Rattle.tb_expand.specs.Cycles.{IsCycle}
use Rattle.tb_expand.specs.Expansion.{expansion_of, is_too_large}
use Rattle.tb_expand.specs.Faults.{HasNoCycle, IsExpansion}
use Rattle.tb_script.specs.declared.fault.ScriptFault.{ScriptFault}
use Rattle.tb_script.specs.declared.fault.ScriptFault.TheVariants as fault
use Rattle.tb_script.specs.Programs.{HasTokens, IsTextOf, IsProgramOf, first_too_large}
use Rattle.tb_script.specs.Findings.{HasNoTokens, HasNoScript, IsFound, NoTokens, NoScript}

-- the source has these tokens, no other tokens, and no error of its tokens
pub record HasOnlyTokens (text : List ℕ) (tokens : List Token) : Type 0 where
  pub has_tokens : HasTokens text tokens
  pub one : (others : List Token) → HasTokens text others → others ≡ tokens
  pub sound : (f : LexFault) → HasNoTokens text f → ⊥

-- the source parses as this script within the limits, and as no other; it has no error of its tokens or of its grammar
pub record IsOnlyScript (text : List ℕ) (script : Script) : Type 0 where
  pub is_text : IsTextOf text script
  pub one : (other : Script) → IsTextOf text other → other ≡ script
  pub has_tokens : (f : LexFault) → HasNoTokens text f → ⊥
  pub has_script : (f : ParseFault) → HasNoScript text f → ⊥

-- the script of a source, or the error of its tokens or of its grammar
abbrev pub HasReadScript : List ℕ → Result Script ScriptFault → Type 0
HasReadScript text (Ok script) = IsOnlyScript text script
HasReadScript text (Err (fault.Lex f)) = IsFound text (NoTokens f)
HasReadScript text (Err (fault.Parse f)) = IsFound text (NoScript f)
HasReadScript text (Err fault.NoMemory) = Unit {0}
HasReadScript text (Err (fault.Check f)) = ⊥
HasReadScript text (Err (fault.Expand f)) = ⊥
HasReadScript text (Err (fault.Roots count)) = ⊥
HasReadScript text (Err (fault.TooLong count)) = ⊥
HasReadScript text (Err (fault.NotBuilt token)) = ⊥

-- no calls form a cycle, no expansion is too large, and these are the expansions
pub record AreExpansions (script : Script) (bodies : List Body) : Type 0 where
  pub no_cycle : HasNoCycle script
  pub small : first_too_large script ≡ None
  pub bodies_are : AllZip (IsExpansion script) script.procs bodies

-- no calls form a cycle, and this is the first process whose expansion is too large
pub record IsFirstLarge (script : Script) (name : List ℕ) : Type 0 where
  pub no_cycle : HasNoCycle script
  pub first : first_too_large script ≡ Some name

-- the bodies of a well-formed script, or the reason why it has none
abbrev pub HasBodies : Script → Result (List Body) ExpandFault → Type 0
HasBodies script (Ok bodies) = AreExpansions script bodies
HasBodies script (Err (expand.Recursion names)) = IsCycle script names
HasBodies script (Err (expand.TooLarge name)) = IsFirstLarge script name
HasBodies script (Err expand.NoMemory) = Unit {0}

-- that the processes of a well-formed script have bodies, or the reason why they don't
abbrev pub MayHaveBodies : {A : Type 0} → Script → Result A ExpandFault → Type 0
MayHaveBodies script (Ok done) = (bodies : List Body) × AreExpansions script bodies
MayHaveBodies script (Err f) = HasBodies script (Err f)

-- there are this many roots, more than `most_roots`
pub record HasMany (script : Script) (count : ℕ) : Type 0 where
  pub are : count ≡ length script.roots
  pub many : most_roots < count

-- there aren't too many roots, and this is the program
pub record IsJoined (script : Script) (program : Program) : Type 0 where
  pub few : length script.roots ≤ most_roots
  pub meaning : IsProgramOf script program

-- the program of a script whose expansions aren't too large, or the reason why it has none
abbrev pub HasJoined : Script → Result Program ScriptFault → Type 0
HasJoined script (Ok program) = IsJoined script program
HasJoined script (Err (fault.Roots count)) = HasMany script count
HasJoined script (Err fault.NoMemory) = Unit {0}
HasJoined script (Err (fault.Lex f)) = ⊥
HasJoined script (Err (fault.Parse f)) = ⊥
HasJoined script (Err (fault.Check f)) = ⊥
HasJoined script (Err (fault.Expand f)) = ⊥
HasJoined script (Err (fault.TooLong count)) = ⊥
HasJoined script (Err (fault.NotBuilt token)) = ⊥

-- each argument of the call has a value
abbrev pub HasValues : Call → Type 0
HasValues call = All (λ (e : Ast). IsSome (closed_value e)) call.actuals

abbrev pub HaveValues : List Call → Type 0
HaveValues calls = All HasValues calls

-- the first of these processes whose expansion is too large
abbrev pub first_large_of : Script → List ProcDef → Option (List ℕ)
first_large_of script defs = option_map (λ (d : ProcDef). d.name) (find (λ (d : ProcDef). is_too_large (expansion_of script d)) defs)

-- an error of the checks, or of the expansions, as an error of the script: both report out of memory as `NoMemory`
abbrev pub of_check : CheckFault → ScriptFault
of_check check.NoMemory = fault.NoMemory
of_check (check.Twice token) = fault.Check (check.Twice token)
of_check (check.NoProcess token) = fault.Check (check.NoProcess token)
of_check (check.NoTool token) = fault.Check (check.NoTool token)
of_check (check.NoFunction token) = fault.Check (check.NoFunction token)
of_check (check.Arity token) = fault.Check (check.Arity token)
of_check (check.Undeclared token) = fault.Check (check.Undeclared token)
of_check (check.ResultInSend token) = fault.Check (check.ResultInSend token)
of_check (check.NotResult token) = fault.Check (check.NotResult token)
of_check (check.TypeClash token) = fault.Check (check.TypeClash token)

abbrev pub of_expand : ExpandFault → ScriptFault
of_expand expand.NoMemory = fault.NoMemory
of_expand (expand.Recursion names) = fault.Expand (expand.Recursion names)
of_expand (expand.TooLarge name) = fault.Expand (expand.TooLarge name)
