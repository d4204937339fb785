use Rattle.std.proofs.Common.{◌≡◌, ◌++◌, drop, take}
use Rattle.tb_log_read.specs.Lines.{first_line}
use Rattle.tb_log_read.proofs.log.line_len.Given as goal

-- the result depends only on the remaining bytes
abbrev pub invariant-loop-place : goal.invariant-loop-place
invariant-loop-place l = take l.place l.bytes ++ first_line (drop l.place l.bytes) ≡ first_line l.bytes
