use Rattle.std.proofs.Common.{◌≡◌, map, drop}
use Rattle.std.specs.List.{list_all}
use Rattle.tb_body.specs.Exprs.{positions_of}
use Rattle.tb_body.proofs.positions.+is_test.Given as goal

abbrev pub invariant-are_tests-loop-part : goal.invariant-are_tests-loop-part
invariant-are_tests-loop-part l = list_all (λ part. part.test) (map (positions_of l.slots) (drop l.part-index l.parts)) ≡ list_all (λ part. part.test) (map (positions_of l.slots) l.parts)
