-- The process that a walk represents, the facts that each call keeps, and the taken values that are the rest and store of an offer.
use Rattle.std.specs.Prelude.{◌≡◌, ℕ, true, List, [], ◌∷◌, map, slice_get, Option, Some, None, if◌then◌else◌}
use Rattle.tb_process_steps.specs.Offers.{Offered}
use Rattle.tb_process_steps.specs.Processes.{fresh}
use Rattle.tb_process_steps.specs.Helpers.OfferViews.{or_own}
use Rattle.tb_process_steps.specs.WalkerViews.{View}
use Rattle.tb_process_steps.specs.Walks.{Walking, offers_of}
use Rattle.tb_process_steps.specs.declared.offer.Offer.{Offer}
use Rattle.tb_code.specs.Positions.{Begins}
use Rattle.tb_code.specs.declared.code.Code.{Code}
use Rattle.tb_walk.specs.Lefts.{left}
use Rattle.tb_walk.specs.Helpers.Partings.{branch_by}
use Rattle.tb_walk.specs.Helpers.Reads.{Reads, branch}
use Rattle.tb_walk.specs.Helpers.Sights.{offer_of, sighted, row_sightings}
use Rattle.tb_walk.specs.Helpers.Takings.{IsWithin, row_after}
use Rattle.tb_walk.specs.declared.taken.Outcome.{Outcome}
use Rattle.tb_walk.specs.declared.taken.Taken.{Taken}
use Rattle.tb_walk.specs.declared.taken.Taken.TheVariants as taken
use Rattle.tb_walk.specs.declared.branch.Branch.{Branch}
use Rattle.tb_walk.specs.declared.sight.Sight.{Sight}
use Rattle.tb_walk.specs.declared.walk.Walk.{Walk}

-- the process that a walk represents
abbrev pub walking_of : Code → Walk → Walking
walking_of code walk = record { term = left walk.ticks walk.row 0 (fresh code.body.tree); store = walk.store; ticks = walk.ticks }

-- the offers that the last look found, if they are still valid
abbrev pub seen_of : Walk → Option (List Offer)
seen_of walk = if walk.fresh then Some (map offer_of walk.found) else None

-- The row of the walk fits the term of the body. If nothing has happened since the last look, the found offers are those of the branches.
pub record IsOnCode (code : Code) (walk : Walk) : Type 0 where
  pub reads : Reads walk.ticks 0 (fresh code.body.tree) walk.row (left walk.ticks walk.row 0 (fresh code.body.tree))
  pub found : walk.fresh ≡ true → (now : ℕ) × (map (sighted walk.store) walk.found ≡ row_sightings (fresh code.body.tree) code.body.atoms now walk.ticks walk.store 0 walk.row)

-- The outcome is the rest and the store of the offer: the row after the step represents the rest.
pub record IsMade (code : Code) (walk : Walk) (outcome : Outcome) (offered : Offered) : Type 0 where
  pub within : IsWithin walk.row outcome.step
  pub reads : Reads walk.ticks 0 (fresh code.body.tree) (row_after walk.row outcome.step) (left walk.ticks (row_after walk.row outcome.step) 0 (fresh code.body.tree))
  pub term : left walk.ticks (row_after walk.row outcome.step) 0 (fresh code.body.tree) ≡ offered.residual
  pub store : or_own outcome.own walk.store ≡ offered.store

-- The found offer at this index is still valid, and is the given offer. When its atom happens, its branch becomes these branches. No right
-- side waits at the position of this branch.
pub record IsFound (code : Code) (walk : Walk) (k : ℕ) (inside : List Branch) (offered : Offered) : Type 0 where
  pub seen : walk.fresh ≡ true
  pub offer : slice_get (offers_of (walking_of code walk)) k ≡ Some offered
  pub begins : (one : Sight) → (b : Branch) → slice_get walk.found k ≡ Some one → slice_get walk.row one.branch ≡ Some b → Begins (fresh code.body.tree) b.position
  pub leaves : (one : Sight) → (b : Branch) → slice_get walk.found k ≡ Some one → slice_get walk.row one.branch ≡ Some b → branch_by (fresh code.body.tree) walk.ticks b one.position ≡ inside

-- the taken value is the rest and the store of the offer
abbrev pub IsLeft : Code → Walk → Taken → Offered → Type 0
IsLeft code walk (taken.Ended k) offered = IsFound code walk k [] offered
IsLeft code walk (taken.Entered k position) offered = IsFound code walk k (branch position walk.ticks ∷ []) offered
IsLeft code walk (taken.Made outcome) offered = IsMade code walk outcome offered

-- the new row represents the rest of the offer, and the new store is the store of the offer
pub record IsGone (code : Code) (old new : Walk) (offered : Offered) : Type 0 where
  pub reads : Reads old.ticks 0 (fresh code.body.tree) new.row (left old.ticks new.row 0 (fresh code.body.tree))
  pub term : left old.ticks new.row 0 (fresh code.body.tree) ≡ offered.residual
  pub store : new.store ≡ offered.store

-- the view of walks
abbrev pub walk_view : View Code Walk Taken
walk_view = record { body_of = λ code. code.body; is_on = IsOnCode; walking = walking_of; seen = seen_of; leaves = IsLeft }
