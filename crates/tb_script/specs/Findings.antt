-- The findings of a source: its program, or the reason why it has none. The order of the checks is: tokens, the grammar and its
-- limits, the nine conditions, cycles of calls, sizes of expansions, the number of roots.
use Rattle.std.specs.Prelude.{◌≡◌, ◌≢◌, ℕ, ◌<◌, List, length, Some}
use Rattle.tb_body.specs.declared.program.Program.{Program}
use Rattle.tb_body.specs.Programs.{most_roots}
use Rattle.tb_lex.specs.declared.fault.LexFault.{LexFault}
use Rattle.tb_lex.specs.declared.fault.LexFault.TheVariants as lex
use Rattle.tb_lex.specs.declared.token.Token.{Token}
use Rattle.tb_lex.specs.Faults.{HasFault as HasLexFault}
use Rattle.tb_syntax.specs.Spelling.{kinds_of}
use Rattle.tb_syntax.specs.declared.script.Script.{Script}
use Rattle.tb_parse.specs.declared.fault.ParseFault.{ParseFault}
use Rattle.tb_parse.specs.declared.fault.ParseFault.TheVariants as parse
use Rattle.tb_parse.specs.Faults.{HasFault as HasParseFault}
use Rattle.tb_types.specs.declared.fault.CheckFault.{CheckFault}
use Rattle.tb_types.specs.declared.fault.CheckFault.TheVariants as check
use Rattle.tb_types.specs.Conditions.{IsFault}
use Rattle.tb_expand.specs.Cycles.{IsCycle}
use Rattle.tb_script.specs.Programs.{HasTokens, IsTextOf, IsChecked, IsEnding, IsSmall, IsAccepted, IsProgramOf, first_too_large}

-- the source has no tokens within the limit, and has this error
pub record HasNoTokens (text : List ℕ) (fault : LexFault) : Type 0 where
  pub not_memory : fault ≢ lex.NoMemory
  pub fault_is : HasLexFault text fault

-- the source has tokens, they don't parse as a script within the limits, and they have this error
pub record HasNoScript (text : List ℕ) (fault : ParseFault) : Type 0 where
  pub not_memory : fault ≢ parse.NoMemory
  pub tokens : List Token
  pub has_tokens : HasTokens text tokens
  pub fault_is : HasParseFault (kinds_of tokens) fault

-- the source parses as a script within the limits, and this error is the first of the nine conditions that the script fails
pub record IsImproper (text : List ℕ) (fault : CheckFault) : Type 0 where
  pub not_memory : fault ≢ check.NoMemory
  pub script : Script
  pub is_text : IsTextOf text script
  pub fault_is : IsFault script fault

-- the nine conditions hold, and these calls form a cycle
pub record IsRecursive (text : List ℕ) (names : List (List ℕ)) : Type 0 where
  pub script : Script
  pub is_checked : IsChecked text script
  pub cycle : IsCycle script names

-- no calls form a cycle, and this is the first process whose expansion is too large
pub record IsLarge (text : List ℕ) (name : List ℕ) : Type 0 where
  pub script : Script
  pub is_ending : IsEnding text script
  pub first : first_too_large script ≡ Some name

-- no expansion is too large, and there are this many roots, more than `most_roots`
pub record HasManyRoots (text : List ℕ) (count : ℕ) : Type 0 where
  pub script : Script
  pub is_small : IsSmall text script
  pub are : count ≡ length script.roots
  pub many : most_roots < count

-- the source is accepted, and this is its program
pub record HasProgram (text : List ℕ) (program : Program) : Type 0 where
  pub script : Script
  pub is_accepted : IsAccepted text script
  pub meaning : IsProgramOf script program

-- a finding of a source: its program, or the reason why it has none
pub data Finding : Type 0 where
  NoTokens : LexFault → Finding
  NoScript : ParseFault → Finding
  Improper : CheckFault → Finding
  Recursive : List (List ℕ) → Finding
  Large : List ℕ → Finding
  ManyRoots : ℕ → Finding
  Program' : Program → Finding

-- the finding holds of the source
abbrev pub Holds : List ℕ → Finding → Type 0
Holds text (NoTokens fault) = HasNoTokens text fault
Holds text (NoScript fault) = HasNoScript text fault
Holds text (Improper fault) = IsImproper text fault
Holds text (Recursive names) = IsRecursive text names
Holds text (Large name) = IsLarge text name
Holds text (ManyRoots count) = HasManyRoots text count
Holds text (Program' program) = HasProgram text program

-- the finding is a cycle of calls, whichever cycle it is
abbrev pub IsSomeCycle : Finding → Type 0
IsSomeCycle (Recursive names) = Unit {0}
IsSomeCycle _ = ⊥

-- The two findings are the same. Exception: any two cycles of calls count as the same.
abbrev pub IsSame : Finding → Finding → Type 0
IsSame (NoScript fault) other = other ≡ NoScript fault
IsSame (Recursive names) other = IsSomeCycle other
IsSame (NoTokens fault) other = other ≡ NoTokens fault
IsSame (Improper fault) other = other ≡ Improper fault
IsSame (Large name) other = other ≡ Large name
IsSame (ManyRoots count) other = other ≡ ManyRoots count
IsSame (Program' program) other = other ≡ Program' program

-- this finding holds of the source, and each finding that holds of the source is the same
pub record IsFound (text : List ℕ) (finding : Finding) : Type 0 where
  pub holds : Holds text finding
  pub only : (other : Finding) → Holds text other → IsSame finding other
