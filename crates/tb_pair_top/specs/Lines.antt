-- The line that is written for each error.
use Rattle.std.specs.Prelude.{ℕ, List, [], ◌∷◌, ◌++◌, codes}
use Rattle.tb_script.specs.Lines.{script_line}
use Rattle.tb_cli.specs.Lines.{word_line}
use Rattle.tb_pair_top.specs.declared.fault.PairFault.{PairFault}
use Rattle.tb_pair_top.specs.declared.fault.PairFault.TheVariants.{Script, Words, File, Out, Clock}
use Rattle.tb_pair_top.specs.declared.fault.PairFault.TheVariants.{Crew, Limit, NoMemory}

-- the message of an error
abbrev pub fault_words : PairFault → List ℕ
fault_words (Script fault) = script_line fault
fault_words (Words fault) = word_line fault
fault_words File = codes "outside: file"
fault_words Out = codes "outside: out"
fault_words Clock = codes "outside: clock"
fault_words Crew = codes "outside: crew"
fault_words Limit = codes "limit: events"
fault_words NoMemory = codes "no memory"

-- the line of an error: the program's name, the message of the error, and a newline
abbrev pub fault_line : PairFault → List ℕ
fault_line fault = codes "toolbus_pair: " ++ fault_words fault ++ 10 ∷ []
