use Rattle.std.proofs.Common.{◌≡◌, ◌-◌, length, map, drop, slice_get, string_bytes, option_copied}
use Rattle.tb_cli.specs.Parts.{parts_of, given}
use Rattle.tb_cli.proofs.parts.find_value.Given as goal

abbrev pub decreases-loop-index : goal.decreases-loop-index
decreases-loop-index l = length l.words - l.index

-- the sought value is at place `left` among the values of the remaining arguments
abbrev pub invariant-loop-index : goal.invariant-loop-index
invariant-loop-index l = slice_get (given (option_copied l.name) (parts_of (drop l.index (map string_bytes l.words)))) l.left ≡ slice_get (given (option_copied l.name) (parts_of (map string_bytes l.words))) l.place
