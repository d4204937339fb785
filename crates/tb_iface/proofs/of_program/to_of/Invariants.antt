use Rattle.std.proofs.Common.{◌≡◌, take}
use Rattle.tb_iface.specs.Interfaces.{of_atoms, once, tells}
use Rattle.tb_iface.proofs.of_program.to_of.Given as goal

abbrev pub invariant-loop-body : goal.invariant-loop-body
invariant-loop-body l = l.to ≡ once (of_atoms (tells l.tool) (take l.body-index l.program.bodies))
