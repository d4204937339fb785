-- The bytes of a source where its error is.
use Rattle.std.specs.Prelude.{◌≡◌, ℕ, List, ◌∷◌, ◌++◌, slice_get, Option, Some, None, option_map, codes}
use Rattle.std.specs.Fmt.{decimal}
use Rattle.tb_body.specs.Programs.{most_roots}
use Rattle.tb_lex.specs.declared.fault.LexFault.{LexFault}
use Rattle.tb_lex.specs.declared.fault.LexFault.TheVariants as lex
use Rattle.tb_lex.specs.declared.token.Token.{Token}
use Rattle.tb_syntax.specs.Spelling.{kinds_of}
use Rattle.tb_syntax.specs.declared.proc.Call.{Call}
use Rattle.tb_syntax.specs.declared.script.Script.{Script}
use Rattle.tb_parse.specs.Faults.{IsScriptOf}
use Rattle.tb_parse.specs.declared.fault.ParseFault.{ParseFault}
use Rattle.tb_parse.specs.declared.fault.ParseFault.TheVariants as parse
use Rattle.tb_types.specs.declared.fault.CheckFault.{CheckFault}
use Rattle.tb_types.specs.declared.fault.CheckFault.TheVariants as check
use Rattle.tb_expand.specs.declared.fault.ExpandFault.{ExpandFault}
use Rattle.tb_expand.specs.declared.fault.ExpandFault.TheVariants as expand
use Rattle.tb_script.specs.Programs.{HasTokens}
use Rattle.tb_script.specs.declared.fault.ScriptFault.{ScriptFault}
use Rattle.tb_script.specs.declared.fault.ScriptFault.TheVariants as fault
use Rattle.tb_source_map.specs.Marks.{mark_at}
use Rattle.tb_source_map.specs.Spots.{spot_of}
use Rattle.tb_source_map.specs.declared.mark.Mark.{Mark}
use Rattle.tb_source_map.specs.declared.spot.Spot.{Spot}
use Rattle.tb_fault_place.specs.Calls.{cycle_token, definition_token}

-- the byte that the error names, as an empty mark before this byte; too many tokens have no place
abbrev pub lex_mark : LexFault → Option Mark
lex_mark (lex.BadByte at) = Some (record { from = at; to = at })
lex_mark (lex.OpenString at) = Some (record { from = at; to = at })
lex_mark (lex.Real at) = Some (record { from = at; to = at })
lex_mark (lex.IntRange at) = Some (record { from = at; to = at })
lex_mark lex.TooMany = None
lex_mark lex.NoMemory = None

-- the token that the error names
abbrev pub parse_token : ParseFault → Option ℕ
parse_token (parse.Syntax token) = Some token
parse_token (parse.TooDeep token) = Some token
parse_token parse.NoMemory = None

abbrev pub check_token : CheckFault → Option ℕ
check_token (check.Twice token) = Some token
check_token (check.NoProcess token) = Some token
check_token (check.NoTool token) = Some token
check_token (check.NoFunction token) = Some token
check_token (check.Arity token) = Some token
check_token (check.Undeclared token) = Some token
check_token (check.ResultInSend token) = Some token
check_token (check.NotResult token) = Some token
check_token (check.TypeClash token) = Some token
check_token check.NoMemory = None

-- the token of the first call of a cycle, or of the definition of a process that is too large
abbrev pub expand_token : ExpandFault → Script → Option ℕ
expand_token (expand.Recursion names) script = cycle_token script names
expand_token (expand.TooLarge name) script = definition_token script name
expand_token expand.NoMemory script = None

-- the first root that is one too many
abbrev pub root_token : Script → Option ℕ
root_token script = option_map (λ (call : Call). call.token) (slice_get script.roots most_roots)

-- the bytes are those of this token of the source
pub record AtToken (text : List ℕ) (token : Option ℕ) (mark : Option Mark) : Type 0 where
  pub tokens : List Token
  pub has_tokens : HasTokens text tokens
  pub is : mark ≡ option_map (mark_at tokens) token

-- the bytes are those of this token of the script that the source parses as
pub record InScript (text : List ℕ) (token : Script → Option ℕ) (mark : Option Mark) : Type 0 where
  pub tokens : List Token
  pub script : Script
  pub has_tokens : HasTokens text tokens
  pub is_script : IsScriptOf (kinds_of tokens) script
  pub is : mark ≡ option_map (mark_at tokens) (token script)

-- the place of this error of the source is at these bytes
abbrev pub StandsAt : List ℕ → ScriptFault → Option Mark → Type 0
StandsAt text (fault.Lex f) mark = mark ≡ lex_mark f
StandsAt text (fault.Parse f) mark = AtToken text (parse_token f) mark
StandsAt text (fault.Check f) mark = AtToken text (check_token f) mark
StandsAt text (fault.Expand f) mark = InScript text (expand_token f) mark
StandsAt text (fault.Roots count) mark = InScript text root_token mark
-- these errors have no place in the source
StandsAt text (fault.TooLong count) mark = mark ≡ None
StandsAt text (fault.NotBuilt token) mark = mark ≡ None
-- out of memory isn't an error of the source
StandsAt text fault.NoMemory mark = ⊥

-- the name of the file and a colon, and, if the place is known, the line and the column, each with a colon after it; then a space
abbrev pub place_text : List ℕ → Option Spot → List ℕ
place_text name None = name ++ codes ": "
place_text name (Some spot) = name ++ 58 ∷ decimal spot.line ++ 58 ∷ decimal spot.column ++ codes ": "

-- the line and the column of the first byte of a mark
abbrev pub spot_of_mark : List ℕ → Option Mark → Option Spot
spot_of_mark text mark = option_map (λ (m : Mark). spot_of text m.from) mark
