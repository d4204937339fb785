use Rattle.std.proofs.Common.{◌≡◌, drop}
use Rattle.std.specs.List.{list_all}
use Rattle.tb_body.specs.Acts.{is_atom_in_body}
use Rattle.tb_body.proofs.in_range.are_atoms_in_body.Given as goal

abbrev pub invariant-loop-atom : goal.invariant-loop-atom
invariant-loop-atom l = list_all (is_atom_in_body l.slots) (drop l.atom-index l.atoms) ≡ list_all (is_atom_in_body l.slots) l.atoms
