use Rattle.std.proofs.Common.{refl}
use Rattle.tb_cli.specs.declared.table.Kind.TheVariants.{File}
use Rattle.tb_cli.proofs.command.make_check.Goals as goal

pub operand_text-requires : goal.operand_text-requires
operand_text-requires c = c.requires.operand 0 File refl
