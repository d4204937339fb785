use Rattle.std.proofs.Common.{◌≡◌, Some, map, take}
use Rattle.tb_types.specs.Values.{closed_value}
use Rattle.tb_script.proofs.roots.values_of.Given as goal

abbrev pub invariant-loop-actual : goal.invariant-loop-actual
invariant-loop-actual l = map (λ value. Some value) l.values ≡ map closed_value (take l.actual-index l.actuals)
