use Rattle.std.proofs.Common.{◌≡◌, ◌≤◌, ◌-◌, length, map, take, Some, string_bytes}
use Rattle.tb_cli.specs.Parts.{parts_of, given}
use Rattle.tb_cli.proofs.values.option_commands.Given as goal

abbrev pub decreases-loop-word : goal.decreases-loop-word
decreases-loop-word l = length (given (Some l.option.name.now) (parts_of (map string_bytes l.words))) - l.place

-- the commands so far are the first `place` values, in order
abbrev pub invariant-loop-word : goal.invariant-loop-word
invariant-loop-word l = record {
  commands : l.commands ≡ take l.place (given (Some l.option.name.now) (parts_of (map string_bytes l.words)));
  within : l.place ≤ length (given (Some l.option.name.now) (parts_of (map string_bytes l.words)));
}
