-- The message of each error, with its position in bytes.
use Rattle.std.specs.Prelude.{ℕ, List, ◌++◌, codes}
use Rattle.std.specs.Fmt.{decimal}
use Rattle.tb_lex.specs.declared.fault.LexFault.{LexFault}
use Rattle.tb_lex.specs.declared.fault.LexFault.TheVariants.{BadByte, OpenString, Real, IntRange, TooMany, NoMemory}

abbrev pub lex_line : LexFault → List ℕ
lex_line (BadByte at) = codes "script: byte " ++ decimal at
lex_line (OpenString at) = codes "script: open string " ++ decimal at
lex_line (Real at) = codes "script: real " ++ decimal at
lex_line (IntRange at) = codes "script: integer " ++ decimal at
lex_line TooMany = codes "script: too many tokens"
lex_line NoMemory = codes "no memory"
