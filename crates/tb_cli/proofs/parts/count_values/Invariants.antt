use Rattle.std.proofs.Common.{◌≡◌, ◌+◌, ◌-◌, ◌≤◌, length, map, drop, string_bytes, option_copied}
use Rattle.tb_cli.specs.Parts.{parts_of, given}
use Rattle.tb_cli.proofs.parts.count_values.Given as goal

abbrev pub decreases-loop-index : goal.decreases-loop-index
decreases-loop-index l = length l.words - l.index

-- The count so far and the number of values in the remaining arguments together are the number of all values. The count is at most
-- `index`.
abbrev pub invariant-loop-index : goal.invariant-loop-index
invariant-loop-index l = record {
  values : l.count + length (given (option_copied l.name) (parts_of (drop l.index (map string_bytes l.words)))) ≡ length (given (option_copied l.name) (parts_of (map string_bytes l.words)));
  few : l.count ≤ l.index;
}
