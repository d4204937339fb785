use Rattle.std.proofs.Common.{◌≡◌, ◌+◌, ◌≤◌, ◌++◌, length}
use Rattle.tb_log.specs.LogText.{log_text}
use Rattle.tb_log_read.specs.Lines.{IsLog}
use Rattle.tb_log_read.proofs.log.read.Given as goal

-- the lines so far are the text of a log, and each line has at least one byte
abbrev pub invariant-lines : goal.invariant-lines
invariant-lines l = record {
  is_log : IsLog l.entries;
  so_far : l.bytes ≡ log_text l.entries ++ l.rest;
  counted : length l.entries + length l.rest ≤ length l.bytes;
}

abbrev pub decreases-lines : goal.decreases-lines
decreases-lines l = length l.rest
