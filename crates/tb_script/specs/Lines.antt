-- The text of the line of an error of a script.
use Rattle.std.specs.Prelude.{ℕ, List, ◌++◌, codes}
use Rattle.std.specs.Fmt.{decimal}
use Rattle.tb_lex.specs.Lines.{lex_line}
use Rattle.tb_parse.specs.Lines.{parse_line}
use Rattle.tb_types.specs.Lines.{check_line}
use Rattle.tb_expand.specs.Lines.{expand_line}
use Rattle.tb_script.specs.declared.fault.ScriptFault.{ScriptFault}
use Rattle.tb_script.specs.declared.fault.ScriptFault.TheVariants.{Lex, Parse, Check, Expand, Roots, TooLong, NotBuilt, NoMemory}

abbrev pub script_line : ScriptFault → List ℕ
script_line (Lex fault) = lex_line fault
script_line (Parse fault) = parse_line fault
script_line (Check fault) = check_line fault
script_line (Expand fault) = expand_line fault
script_line (Roots count) = codes "script: too many processes " ++ decimal count
script_line (TooLong bytes) = codes "script: too long " ++ decimal bytes
script_line (NotBuilt token) = codes "script: not built at token " ++ decimal token
script_line NoMemory = codes "no memory"
