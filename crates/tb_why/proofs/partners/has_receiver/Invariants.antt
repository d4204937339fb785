use Rattle.std.proofs.Common.{◌≡◌, drop, Some}
use Rattle.std.specs.List.{list_any}
use Rattle.tb_why.specs.Reasons.{receives_from}
use Rattle.tb_why.proofs.partners.has_receiver.Given as goal

-- the processes that are left decide
abbrev pub invariant-loop-other : goal.invariant-loop-other
invariant-loop-other l = list_any (receives_from l.bodies l.number (Some l.terms)) (drop l.other-index l.others) ≡ list_any (receives_from l.bodies l.number (Some l.terms)) l.others
