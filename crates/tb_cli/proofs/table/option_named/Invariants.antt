use Rattle.std.proofs.Common.{◌≡◌, drop, map}
use Rattle.tb_cli.specs.Table.{option_named}
use Rattle.tb_cli.specs.Helpers.Tables.{setting_of}
use Rattle.tb_cli.proofs.table.option_named.Given as goal

-- the option is sought among the remaining options
abbrev pub invariant-loop-option : goal.invariant-loop-option
invariant-loop-option l = option_named (map setting_of (drop l.option-index l.options)) l.name ≡ option_named (map setting_of l.options) l.name
