use Rattle.std.proofs.Common.{◌≡◌, drop}
use Rattle.tb_why.specs.Reasons.{first_later, gives_later}
use Rattle.tb_why.proofs.partners.first_later_sender.Given as goal

-- the processes that are left decide
abbrev pub invariant-loop-other : goal.invariant-loop-other
invariant-loop-other l = first_later l.bodies l.number (gives_later l.patterns) (drop l.other-index l.others) ≡ first_later l.bodies l.number (gives_later l.patterns) l.others
