use Rattle.std.proofs.Common.{◌≡◌, ◌-◌, drop}
use Rattle.tb_search.specs.Candidates.{partners, rows_of}
use Rattle.tb_bus.specs.Steps.{first}
use Rattle.tb_search.proofs.receivers.first_partner.Given as goal

abbrev pub decreases-loop-at : goal.decreases-loop-at
decreases-loop-at g l = l.end - l.at

-- the remaining processes determine the result
abbrev pub invariant-loop-at : goal.invariant-loop-at
invariant-loop-at g l = first (partners l.number l.terms l.at (drop l.at (rows_of l.all))) ≡ first (partners l.number l.terms 0 (rows_of l.all))
