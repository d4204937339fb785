-- The line that is written for each error.
use Rattle.std.specs.Prelude.{ℕ, List, [], ◌∷◌, ◌++◌, codes}
use Rattle.std.specs.Fmt.{decimal}
use Rattle.tb_script.specs.Lines.{script_line}
use Rattle.tb_feed.specs.Lines.{feed_line}
use Rattle.tb_cli.specs.Lines.{word_line}
use Rattle.tb_top.specs.declared.fault.Fault.{Fault}
use Rattle.tb_top.specs.declared.fault.Fault.TheVariants.{Script, Feed, Words, File, Out, Clock}
use Rattle.tb_top.specs.declared.fault.Fault.TheVariants.{Crew, Limit, NoMemory, Log, Stranger}
use Rattle.tb_top.specs.declared.status.Bound.{Bound}
use Rattle.tb_top.specs.declared.status.Bound.TheVariants as bound
use Rattle.tb_top.specs.declared.status.LogWrong.{LogWrong}
use Rattle.tb_top.specs.declared.status.LogWrong.TheVariants as log_wrong

abbrev pub bound_words : Bound → List ℕ
bound_words bound.Steps = codes "limit: steps"
bound_words bound.Events = codes "limit: events"

abbrev pub log_words : LogWrong → List ℕ
log_words (log_wrong.Line number) = codes "log: line " ++ decimal number
log_words (log_wrong.TooLong len) = codes "log: too long " ++ decimal len

-- the message of an error
abbrev pub fault_words : Fault → List ℕ
fault_words (Script fault) = script_line fault
fault_words (Feed fault) = feed_line fault
fault_words (Words fault) = word_line fault
fault_words File = codes "outside: file"
fault_words Out = codes "outside: out"
fault_words Clock = codes "outside: clock"
fault_words Crew = codes "outside: crew"
fault_words (Limit bound) = bound_words bound
fault_words NoMemory = codes "no memory"
fault_words (Log wrong) = log_words wrong
fault_words Stranger = codes "tool: stranger"

-- the line of an error: the program's name, the message of the error, and a newline
abbrev pub fault_line : Fault → List ℕ
fault_line fault = codes "toolbus: " ++ fault_words fault ++ 10 ∷ []
