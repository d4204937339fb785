use Rattle.std.proofs.Common.{◌≡◌, ◌+◌, ◌≤◌, drop}
use Rattle.tb_log_read.specs.Helpers.Parts.{part_len, depth_of}
use Rattle.tb_log_read.specs.declared.part.Standing.TheVariants.{Plain}
use Rattle.tb_log_read.proofs.part.part_len.Given as goal

-- the result depends only on the remaining bytes and the state, and each byte opens at most one bracket
abbrev pub invariant-loop-place : goal.invariant-loop-place
invariant-loop-place l = record {
  so_far : l.place + part_len l.standing (drop l.place l.bytes) ≡ part_len (Plain 0) l.bytes;
  near : depth_of l.standing ≤ l.place;
}
