use Rattle.std.proofs.Common.{◌≡◌, map, take}
use Rattle.tb_living.proofs.opening.numbers_of.Given as goal

abbrev pub invariant-loop-living : goal.invariant-loop-living
invariant-loop-living g l = l.numbers.items ≡ map (λ living. living.number) (take l.living-index l.all)
