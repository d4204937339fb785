use Rattle.std.proofs.Common.{◌≡◌, drop, Some}
use Rattle.std.specs.List.{list_any}
use Rattle.tb_why.specs.Reasons.{matches, received_now}
use Rattle.tb_why.specs.declared.standing.Offering.{Offering}
use Rattle.tb_why.proofs.partners.any_takes.Given as goal

-- the offers that are left decide
abbrev pub invariant-loop-offer : goal.invariant-loop-offer
invariant-loop-offer l =
    list_any (λ (offer : Offering). matches (received_now l.atoms offer) (Some l.terms)) (drop l.offer-index l.offers) ≡ list_any (λ (offer : Offering). matches (received_now l.atoms offer) (Some l.terms)) l.offers
