use Rattle.std.proofs.Common.{◌≡◌, length}
use Rattle.tb_expand.specs.Helpers.TurnedCycles.{onward}
use Rattle.tb_expand.proofs.call_cycle.onward.Given as goal

-- what is left has the same part
abbrev pub invariant-loop-rest : goal.invariant-loop-rest
invariant-loop-rest l = onward l.again l.rest ≡ onward l.again l.way

abbrev pub decreases-loop-rest : goal.decreases-loop-rest
decreases-loop-rest l = length l.rest
