use Rattle.std.proofs.Common.{◌≡◌, drop}
use Rattle.tb_why.specs.Reasons.{first_later, takes_later}
use Rattle.tb_why.proofs.partners.first_later_receiver.Given as goal

-- the processes that are left decide
abbrev pub invariant-loop-other : goal.invariant-loop-other
invariant-loop-other l = first_later l.bodies l.number (takes_later l.terms) (drop l.other-index l.others) ≡ first_later l.bodies l.number (takes_later l.terms) l.others
