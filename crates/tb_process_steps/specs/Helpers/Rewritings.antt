-- The process that a rewriter represents, and the facts that each call keeps.
use Rattle.std.specs.Prelude.{◌≡◌, ℕ, true, IsTrue, List, map, Option, Some, None, option_map, if◌then◌else◌}
use Rattle.tb_func.specs.declared.slot.Slot.{Slot}
use Rattle.tb_process_steps.specs.Helpers.Candidates.{offer_of}
use Rattle.tb_process_steps.specs.Helpers.Selections.{is_left_on}
use Rattle.tb_process_steps.specs.Offers.{Offered}
use Rattle.tb_process_steps.specs.Helpers.Runnings.{term_of}
use Rattle.tb_process_steps.specs.Helpers.OfferViews.{or_own}
use Rattle.tb_process_steps.specs.WalkerViews.{View}
use Rattle.tb_process_steps.specs.Walks.{Walking, offers_of}
use Rattle.tb_process_steps.specs.declared.fired.Left.{Left}
use Rattle.tb_process_steps.specs.declared.found.Found.{Found}
use Rattle.tb_process_steps.specs.declared.offer.Offer.{Offer}
use Rattle.tb_process_steps.specs.declared.plan.Plan.{Plan}
use Rattle.tb_process_steps.specs.declared.rewriter.Rewriter.{Rewriter}

-- the process that a rewriter represents
abbrev pub walking_of : Plan → Rewriter → Walking
walking_of plan rewriter = record {
  term = option_map (term_of plan.nodes rewriter.ticks) rewriter.term;
  store = rewriter.store;
  ticks = rewriter.ticks;
}

-- the offers that the last look found, if they are still valid
abbrev pub seen_of : Rewriter → Option (List Offer)
seen_of rewriter = if rewriter.fresh then Some (map offer_of rewriter.found) else None

-- the parts of an offer that remain until the process takes an offer or a tick passes
pub record Kept : Type 0 where
  pub atom : ℕ
  pub age : ℕ
  pub store : List Slot

abbrev pub kept : Offered → Kept
kept offered = record { atom = offered.atom; age = offered.age; store = offered.store }

abbrev pub kept_found : List Slot → Found → Kept
kept_found base found = record { atom = found.atom; age = found.age; store = or_own found.own base }

-- Each part of the rewriter's term is a node of the plan. If nothing has happened since the last look, the found offers are those of its
-- process.
pub record IsOnPlan (plan : Plan) (rewriter : Rewriter) : Type 0 where
  pub parts : IsTrue (is_left_on plan.nodes rewriter.ticks rewriter.term)
  pub found : rewriter.fresh ≡ true → map (kept_found rewriter.store) rewriter.found ≡ map kept (offers_of (walking_of plan rewriter))

-- The taken value is the rest and the store of the offer. Each part of the rest is a node of the plan.
pub record IsLeft (plan : Plan) (rewriter : Rewriter) (left : Left) (offered : Offered) : Type 0 where
  pub term : option_map (term_of plan.nodes rewriter.ticks) left.term ≡ offered.residual
  pub store : or_own left.own rewriter.store ≡ offered.store
  pub parts : IsTrue (is_left_on plan.nodes rewriter.ticks left.term)

-- the view of rewriters
abbrev pub rewriter_view : View Plan Rewriter Left
rewriter_view = record { body_of = λ plan. plan.body; is_on = IsOnPlan; walking = walking_of; seen = seen_of; leaves = IsLeft }
