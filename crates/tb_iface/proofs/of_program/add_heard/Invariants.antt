use Rattle.std.proofs.Common.{◌≡◌, fold, take}
use Rattle.std.specs.List.{flat_map}
use Rattle.tb_body.specs.declared.atom.Atom.{Atom}
use Rattle.tb_iface.specs.Interfaces.{hears, with_new}
use Rattle.tb_iface.proofs.of_program.add_heard.Given as goal

abbrev pub invariant-loop-atom : goal.invariant-loop-atom
invariant-loop-atom l = l.from ≡ fold with_new l.initial.from (flat_map (λ (atom : Atom). hears l.kinds l.tool l.body.sorts atom.act) (take l.atom-index l.body.atoms))
