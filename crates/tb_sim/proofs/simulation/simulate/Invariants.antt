use Rattle.std.proofs.Common.{◌≡◌, false}
use Rattle.tb_sim.specs.Helpers.Turns.{LedOn, IsWithin, entries_left}
use Rattle.tb_core.specs.Cores.{ends_quiet}
use Rattle.tb_sim.proofs.SimLemmas.{begun}
use Rattle.tb_sim.proofs.simulation.simulate.Given as goal

-- the turns so far lead to where the core is, and it has not just said quiet
abbrev pub invariant-loop-next : goal.invariant-loop-next
invariant-loop-next g l = record { led : LedOn l.steps l.feed l.fn.core begun l.core l.so_far; within : IsWithin l.steps l.feed l.so_far; said : ends_quiet l.core.log ≡ false }

abbrev pub decreases-loop-next : goal.decreases-loop-next
decreases-loop-next g l = entries_left l.core
