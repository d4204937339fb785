use Rattle.std.proofs.Common.{◌≡◌, map, take}
use Rattle.tb_living.specs.Lives.{proc_in}
use Rattle.tb_why.specs.Standing.{standing_of}
use Rattle.tb_why.proofs.looking.stand.Given as goal

-- the processes so far are seen
abbrev pub invariant-loop-living : goal.invariant-loop-living
invariant-loop-living g l =
    l.all ≡ map (λ living. standing_of (map g.W.Walker.view.body_of l.bus.plans) l.bus.ticks (proc_in g.W.Walker.view l.bus.plans living)) (take l.living-index l.bus.living.items)
