use Rattle.std.proofs.Common.{◌≡◌, ◌++◌, take}
use Rattle.std.specs.List.{flat_map}
use Rattle.tb_types.specs.Positions.{misplaced}
use Rattle.tb_types.proofs.positions.+misplaced.Given as goal

abbrev pub invariant-push_misplaced_parts-loop-part : goal.invariant-push_misplaced_parts-loop-part
invariant-push_misplaced_parts-loop-part l = l.into ≡ l.initial.into ++ flat_map (misplaced l.position) (take l.part-index l.parts)
