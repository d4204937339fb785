use Rattle.std.proofs.Common.{◌≡◌, drop}
use Rattle.tb_search.specs.Candidates.{receptions}
use Rattle.tb_bus.specs.Steps.{first}
use Rattle.tb_search.proofs.receivers.first_received.Given as goal

-- the remaining actions determine the result
abbrev pub invariant-loop-index : goal.invariant-loop-index
invariant-loop-index l = first (receptions l.terms l.index (drop l.index l.actions)) ≡ first (receptions l.terms 0 l.actions)
