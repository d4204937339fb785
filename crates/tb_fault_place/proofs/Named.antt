-- The line of each error of a source begins with the error's name.
use Rattle.std.proofs.Common.{◌≡◌, ℕ, List, [], ◌∷◌, ◌++◌, Option, refl, codes}
use Rattle.std.specs.Fmt.{decimal}
use Rattle.std.specs.List.{join_with_byte}
use Rattle.tb_lex.specs.declared.fault.LexFault.{LexFault}
use Rattle.tb_lex.specs.declared.fault.LexFault.TheVariants as lex
use Rattle.tb_parse.specs.declared.fault.ParseFault.{ParseFault}
use Rattle.tb_parse.specs.declared.fault.ParseFault.TheVariants as parse
use Rattle.tb_types.specs.declared.fault.CheckFault.{CheckFault}
use Rattle.tb_types.specs.declared.fault.CheckFault.TheVariants as check
use Rattle.tb_expand.specs.declared.fault.ExpandFault.{ExpandFault}
use Rattle.tb_expand.specs.declared.fault.ExpandFault.TheVariants as expand
use Rattle.tb_script.specs.Loading.{HasFault}
use Rattle.tb_script.specs.declared.fault.ScriptFault.{ScriptFault}
use Rattle.tb_script.specs.declared.fault.ScriptFault.TheVariants as fault
use Rattle.tb_source_map.specs.declared.mark.Mark.{Mark}
use Rattle.tb_fault_place.specs.FaultNames.{BeginsLine}
use Rattle.tb_fault_place.specs.Points.{IsPoint}
use Rattle.tb_fault_place.specs.Standing.{StandsAt}
use Rattle.tb_fault_place.specs.declared.point.Point.{Point}

-- the bytes after the name, in the line of an error at a byte and of an error at a token
abbrev at_byte : ℕ → List ℕ
at_byte at = codes " " ++ decimal at

abbrev at_token : ℕ → List ℕ
at_token token = codes " at token " ++ decimal token

begins_lex : (text : List ℕ) (f : LexFault) → HasFault text (fault.Lex f) → BeginsLine (fault.Lex f)
begins_lex text (lex.BadByte at) has = (at_byte at, refl)
begins_lex text (lex.OpenString at) has = (at_byte at, refl)
begins_lex text (lex.Real at) has = (at_byte at, refl)
begins_lex text (lex.IntRange at) has = (at_byte at, refl)
begins_lex text lex.TooMany has = ([], refl)
begins_lex text lex.NoMemory has = absurd (has.holds.not_memory refl)

begins_parse : (text : List ℕ) (f : ParseFault) → HasFault text (fault.Parse f) → BeginsLine (fault.Parse f)
begins_parse text (parse.Syntax token) has = (at_token token, refl)
begins_parse text (parse.TooDeep token) has = (at_token token, refl)
begins_parse text parse.NoMemory has = absurd (has.holds.not_memory refl)

begins_check : (text : List ℕ) (f : CheckFault) → HasFault text (fault.Check f) → BeginsLine (fault.Check f)
begins_check text (check.Twice token) has = (at_token token, refl)
begins_check text (check.NoProcess token) has = (at_token token, refl)
begins_check text (check.NoTool token) has = (at_token token, refl)
begins_check text (check.NoFunction token) has = (at_token token, refl)
begins_check text (check.Arity token) has = (at_token token, refl)
begins_check text (check.Undeclared token) has = (at_token token, refl)
begins_check text (check.ResultInSend token) has = (at_token token, refl)
begins_check text (check.NotResult token) has = (at_token token, refl)
begins_check text (check.TypeClash token) has = (at_token token, refl)
begins_check text check.NoMemory has = absurd (has.holds.not_memory refl)

begins_expand : (text : List ℕ) (f : ExpandFault) → HasFault text (fault.Expand f) → BeginsLine (fault.Expand f)
begins_expand text (expand.Recursion names) has = (codes " " ++ join_with_byte 44 names, refl)
begins_expand text (expand.TooLarge name) has = (codes " " ++ name, refl)
begins_expand text expand.NoMemory has = absurd has

begins : (text : List ℕ) (f : ScriptFault) (mark : Option Mark) → HasFault text f → StandsAt text f mark → BeginsLine f
begins text (fault.Lex f) mark has stands = begins_lex text f has
begins text (fault.Parse f) mark has stands = begins_parse text f has
begins text (fault.Check f) mark has stands = begins_check text f has
begins text (fault.Expand f) mark has stands = begins_expand text f has
begins text (fault.Roots count) mark has stands = (at_byte count, refl)
begins text (fault.TooLong count) mark has stands = absurd has
begins text (fault.NotBuilt token) mark has stands = absurd has
begins text fault.NoMemory mark has stands = absurd stands

pub begins_line : (text : List ℕ) (point : Point) → IsPoint text point → BeginsLine point.fault
begins_line text point is = begins text point.fault point.mark is.has_fault is.stands
