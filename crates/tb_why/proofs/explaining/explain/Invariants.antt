use Rattle.std.proofs.Common.{◌≡◌, map, take}
use Rattle.tb_core.specs.Helpers.LiveBuses.{bus_of, procs_in}
use Rattle.tb_why.specs.Reasons.{waiter_of}
use Rattle.tb_why.proofs.explaining.explain.Given as goal

-- the lines of the processes so far
abbrev pub invariant-loop-at : goal.invariant-loop-at
invariant-loop-at g l = l.waiters ≡ map (waiter_of (bus_of g.W.Walker.view l.bus)) (take l.at (procs_in g.W.Walker.view l.bus))
