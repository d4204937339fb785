use Rattle.std.proofs.lemmas.List.Elements.{All-contains}
use Rattle.tb_process_steps.specs.Offers.{offers}
use Rattle.tb_process_steps.proofs.Ages.{OfferUpTo, offers-up_to, reached-up_to}
use Rattle.tb_process_steps.proofs.laws.ages_are_within_the_ticks.Goals as goal

pub returns-clause-term : goal.returns-clause-term
returns-clause-term c = λ tree ticks term r. reached-up_to r

pub returns-clause-offers : goal.returns-clause-offers
returns-clause-offers c = λ tree ticks term store offered r h. (All-contains (OfferUpTo ticks) (offers term store) offered (offers-up_to ticks term store (reached-up_to r)) h).age
