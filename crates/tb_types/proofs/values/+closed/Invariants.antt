use Rattle.std.proofs.Common.{◌≡◌, map, take}
use Rattle.tb_types.specs.Values.{closed}
use Rattle.tb_types.proofs.values.+closed.Given as goal

abbrev pub invariant-closed_parts-loop-part : goal.invariant-closed_parts-loop-part
invariant-closed_parts-loop-part l = l.exprs ≡ map closed (take l.part-index l.parts)
