-- The number and the entry that a line states, provided that the line is an entry's.
use Rattle.std.specs.Prelude.{ℕ, List, Option, Some, None}
use Rattle.tb_log.specs.declared.entry.Entry.{Entry}
use Rattle.tb_log_read.specs.declared.line.Numbered.{Numbered}
use Rattle.tb_log_read.specs.Helpers.Cutting.{prefix, behind}
use Rattle.tb_log_read.specs.Helpers.Numbers.{number64}
use Rattle.tb_log_read.specs.Helpers.Words.{words_of}

abbrev pub numbered_by : ℕ → Option Entry → Option Numbered
numbered_by number None = None
numbered_by number (Some entry) = Some (record { number = number; entry = entry })

abbrev pub numbered_of : List ℕ → Option Numbered
numbered_of line = let text = prefix 10 line in numbered_by (number64 (prefix 32 text)) (words_of (behind 32 text))
