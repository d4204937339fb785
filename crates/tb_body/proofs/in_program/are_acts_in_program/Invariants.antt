use Rattle.std.proofs.Common.{◌≡◌, drop}
use Rattle.std.specs.List.{list_all}
use Rattle.tb_body.specs.Programs.{is_act_in_program}
use Rattle.tb_body.specs.declared.atom.Atom.{Atom}
use Rattle.tb_body.proofs.in_program.are_acts_in_program.Given as goal

abbrev pub invariant-loop-atom : goal.invariant-loop-atom
invariant-loop-atom l = list_all (λ (atom : Atom). is_act_in_program l.bodies l.tools atom.act) (drop l.atom-index l.atoms) ≡ list_all (λ (atom : Atom). is_act_in_program l.bodies l.tools atom.act) l.atoms
