-- The text of the line that reports an error in the arguments, with the position of the argument if the error has one.
use Rattle.std.specs.Prelude.{ℕ, List, ◌++◌, codes}
use Rattle.std.specs.Fmt.{decimal}
use Rattle.tb_cli.specs.declared.fault.WordFault.{WordFault}
use Rattle.tb_cli.specs.declared.fault.WordFault.TheVariants.{NoCommand, Unknown, Missing, Extra, Number, Range, NotBuilt, NoMemory}

abbrev pub word_line : WordFault → List ℕ
word_line NoCommand = codes "words: no command"
word_line (Unknown position) = codes "words: unknown at " ++ decimal position
word_line Missing = codes "words: missing"
word_line (Extra position) = codes "words: extra at " ++ decimal position
word_line (Number position) = codes "words: number at " ++ decimal position
word_line (Range position) = codes "words: range at " ++ decimal position
word_line (NotBuilt position) = codes "words: not built at " ++ decimal position
word_line NoMemory = codes "no memory"
