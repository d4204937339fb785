use Rattle.std.proofs.Common.{◌≡◌, drop}
use Rattle.std.specs.List.{list_all}
use Rattle.tb_body.specs.Programs.{is_body_in_program}
use Rattle.tb_body.proofs.in_program.are_bodies_in_program.Given as goal

abbrev pub invariant-loop-body : goal.invariant-loop-body
invariant-loop-body l = list_all (is_body_in_program l.bodies l.tools) (drop l.body-index l.bodies) ≡ list_all (is_body_in_program l.bodies l.tools) l.bodies
