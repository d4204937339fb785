use Rattle.std.proofs.Common.{◌≡◌, drop}
use Rattle.tb_why.specs.Reasons.{first_offer, takes_later}
use Rattle.tb_why.proofs.partners.first_taking_later.Given as goal

-- the offers that are left decide
abbrev pub invariant-loop-offer : goal.invariant-loop-offer
invariant-loop-offer l = first_offer (takes_later l.terms l.atoms) (drop l.offer-index l.offers) ≡ first_offer (takes_later l.terms l.atoms) l.offers
