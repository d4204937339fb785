use Rattle.std.proofs.Common.{◌≡◌, map, take}
use Rattle.tb_fake.specs.Pairs.{fresh_pair}
use Rattle.tb_fake.proofs.pairs.pairs_of.Given as goal

abbrev pub invariant-loop-lane : goal.invariant-loop-lane
invariant-loop-lane l = l.pairs.items ≡ map (fresh_pair l.cues l.fails) (take l.lane-index l.lanes)
