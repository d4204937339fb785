use Rattle.std.proofs.Common.{◌≡◌, drop}
use Rattle.std.specs.List.{list_all}
use Rattle.tb_body.specs.Programs.{is_root_in_range}
use Rattle.tb_body.proofs.in_program.are_roots_in_range.Given as goal

abbrev pub invariant-loop-root : goal.invariant-loop-root
invariant-loop-root l = list_all (is_root_in_range l.bodies) (drop l.root-index l.roots) ≡ list_all (is_root_in_range l.bodies) l.roots
