use Rattle.std.proofs.Common.{◌≡◌, map, drop}
use Rattle.std.specs.List.{list_all}
use Rattle.tb_body.specs.Exprs.{positions_of}
use Rattle.tb_body.proofs.positions.+is_value.Given as goal

abbrev pub invariant-are_values-loop-part : goal.invariant-are_values-loop-part
invariant-are_values-loop-part l = list_all (λ part. part.value) (map (positions_of l.slots) (drop l.part-index l.parts)) ≡ list_all (λ part. part.value) (map (positions_of l.slots) l.parts)
