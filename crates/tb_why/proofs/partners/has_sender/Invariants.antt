use Rattle.std.proofs.Common.{◌≡◌, drop, Some}
use Rattle.std.specs.List.{list_any}
use Rattle.tb_why.specs.Reasons.{sends_to}
use Rattle.tb_why.proofs.partners.has_sender.Given as goal

-- the processes that are left decide
abbrev pub invariant-loop-other : goal.invariant-loop-other
invariant-loop-other l = list_any (sends_to l.bodies l.number (Some l.patterns)) (drop l.other-index l.others) ≡ list_any (sends_to l.bodies l.number (Some l.patterns)) l.others
