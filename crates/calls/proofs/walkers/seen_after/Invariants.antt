use Rattle.std.proofs.Common.{◌≤◌}
use Rattle.calls.proofs.walkers.seen_after.Given as goal

-- the walker stays on its plan, and has seen no more ticks than were counted
abbrev pub invariant-loop-one : goal.invariant-loop-one
invariant-loop-one g l = g.W.Walker.view.is_on l.plan l.walker × ((g.W.Walker.view.walking l.plan l.walker).ticks ≤ l.ticks)
