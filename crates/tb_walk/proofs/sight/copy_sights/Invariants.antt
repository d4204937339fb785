use Rattle.std.proofs.Common.{◌≡◌, take}
use Rattle.tb_walk.proofs.sight.copy_sights.Given as goal

abbrev pub invariant-loop-sight : goal.invariant-loop-sight
invariant-loop-sight l = l.copies ≡ take l.sight-index l.sights
