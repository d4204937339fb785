use Rattle.std.proofs.Common.{refl}
use Rattle.tb_cli.specs.declared.table.Kind.TheVariants.{File}
use Rattle.tb_cli.proofs.command.make_iface.Goals as goal

pub operand_text-requires : goal.operand_text-requires
operand_text-requires c = c.requires.operand 0 File refl

pub operand_text-requires-2 : goal.operand_text-requires-2
operand_text-requires-2 c = c.requires.operand 1 File refl
