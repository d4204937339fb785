-- The view of a walker: the values that contracts use for it.
use Rattle.std.specs.Prelude.{List, Option}
use Rattle.tb_body.specs.declared.body.Body.{Body}
use Rattle.tb_process_steps.specs.Offers.{Offered}
use Rattle.tb_process_steps.specs.Walks.{Walking}
use Rattle.tb_process_steps.specs.declared.offer.Offer.{Offer}

-- the view of a kind of walkers, with the types of plans, walkers, and taken values
pub record View (P W T : Type 0) : Type 1 where
  -- the body of a plan
  pub body_of : P → Body
  -- the plan fits the walker
  pub is_on : P → W → Type 0
  -- the process that the walker represents
  pub walking : P → W → Walking
  -- the offers that the last look found, if they are still valid
  pub seen : W → Option (List Offer)
  -- the taken value is the rest and the store of this offer
  pub leaves : P → W → T → Offered → Type 0
