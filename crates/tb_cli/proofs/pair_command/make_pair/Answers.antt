-- the values that the arguments give for each operand and option
use Rattle.std.proofs.Common.{refl}
use Rattle.tb_cli.specs.declared.table.Kind.TheVariants.{File}
use Rattle.tb_cli.specs.Table.{ticks, events}
use Rattle.tb_cli.proofs.pair_command.make_pair.Goals as goal

pub operand_text-requires : goal.operand_text-requires
operand_text-requires c = c.requires.operand 0 File refl

pub operand_text-requires-2 : goal.operand_text-requires-2
operand_text-requires-2 c = c.requires.operand 1 File refl

pub option_number-ticks-requires-clause-fits : goal.option_number-ticks-requires-clause-fits
option_number-ticks-requires-clause-fits c = c.requires.option ticks refl

pub option_number-events-requires-clause-fits : goal.option_number-events-requires-clause-fits
option_number-events-requires-clause-fits c = c.requires.option events refl
