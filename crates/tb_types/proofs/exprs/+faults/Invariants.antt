use Rattle.std.proofs.Common.{◌≡◌, ◌++◌, map, take}
use Rattle.tb_types.specs.Exprs.{judged, parts_faults}
use Rattle.tb_types.specs.Scopes.{visible}
use Rattle.tb_types.proofs.exprs.+faults.Given as goal

abbrev pub invariant-push_parts-loop-part : goal.invariant-push_parts-loop-part
invariant-push_parts-loop-part l = l.into ≡ l.initial.into ++ parts_faults (map (judged (visible l.scope)) (take l.part-index l.parts))
