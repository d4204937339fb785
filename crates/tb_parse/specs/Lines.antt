-- The message of each error, with the position of its token.
use Rattle.std.specs.Prelude.{ℕ, List, ◌++◌, codes}
use Rattle.std.specs.Fmt.{decimal}
use Rattle.tb_parse.specs.declared.fault.ParseFault.{ParseFault}
use Rattle.tb_parse.specs.declared.fault.ParseFault.TheVariants.{Syntax, TooDeep, NoMemory}

abbrev pub parse_line : ParseFault → List ℕ
parse_line (Syntax token) = codes "script: syntax at token " ++ decimal token
parse_line (TooDeep token) = codes "script: too deep at token " ++ decimal token
parse_line NoMemory = codes "no memory"
