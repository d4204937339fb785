use Rattle.std.proofs.Common.{◌≡◌, fold, take}
use Rattle.std.specs.List.{flat_map}
use Rattle.tb_body.specs.declared.atom.Atom.{Atom}
use Rattle.tb_iface.specs.Interfaces.{tells, with_new}
use Rattle.tb_iface.proofs.of_program.add_told.Given as goal

abbrev pub invariant-loop-atom : goal.invariant-loop-atom
invariant-loop-atom l = l.to ≡ fold with_new l.initial.to (flat_map (λ (atom : Atom). tells l.tool l.body.sorts atom.act) (take l.atom-index l.body.atoms))
