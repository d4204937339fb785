-- The offer that a call returns for a found atom.
use Rattle.tb_process_steps.specs.declared.found.Found.{Found}
use Rattle.tb_process_steps.specs.declared.offer.Offer.{Offer}

abbrev pub offer_of : Found → Offer
offer_of found = record { atom = found.atom; age = found.age; ready = found.ready }
