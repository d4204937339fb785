-- the values that the arguments give for each operand and option
use Rattle.std.proofs.Common.{refl}
use Rattle.tb_cli.specs.declared.table.Kind.TheVariants.{File}
use Rattle.tb_cli.specs.Table.{connect, ticks, events}
use Rattle.tb_cli.proofs.command.make_run.Goals as goal

pub operand_text-requires : goal.operand_text-requires
operand_text-requires c = c.requires.operand 0 File refl

pub option_commands-requires-clause-fits : goal.option_commands-requires-clause-fits
option_commands-requires-clause-fits c = c.requires.option connect refl

pub option_number-ticks-requires-clause-fits : goal.option_number-ticks-requires-clause-fits
option_number-ticks-requires-clause-fits c = c.requires.option ticks refl

pub option_number-events-requires-clause-fits : goal.option_number-events-requires-clause-fits
option_number-events-requires-clause-fits c = c.requires.option events refl
