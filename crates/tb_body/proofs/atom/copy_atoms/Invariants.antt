use Rattle.std.proofs.Common.{◌≡◌, take}
use Rattle.tb_body.proofs.atom.copy_atoms.Given as goal

abbrev pub invariant-loop-atom : goal.invariant-loop-atom
invariant-loop-atom l = l.copies ≡ take l.atom-index l.atoms
