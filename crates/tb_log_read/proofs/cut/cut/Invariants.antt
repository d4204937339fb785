use Rattle.std.proofs.Common.{◌≡◌, ◌++◌, drop, take}
use Rattle.tb_log_read.specs.Helpers.Cutting.{prefix, behind}
use Rattle.tb_log_read.proofs.cut.cut.Given as goal

-- the result depends only on the remaining bytes
abbrev pub invariant-loop-place : goal.invariant-loop-place
invariant-loop-place l = record {
  before : take l.place l.bytes ++ prefix l.separator (drop l.place l.bytes) ≡ prefix l.separator l.bytes;
  after : behind l.separator (drop l.place l.bytes) ≡ behind l.separator l.bytes;
}
