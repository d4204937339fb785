use Rattle.std.proofs.Common.{◌≡◌, take}
use Rattle.tb_iface.specs.Interfaces.{hears, of_atoms, once}
use Rattle.tb_iface.proofs.of_program.from_of.Given as goal

abbrev pub invariant-loop-body : goal.invariant-loop-body
invariant-loop-body l = l.from ≡ once (of_atoms (hears l.program.tools l.tool) (take l.body-index l.program.bodies))
