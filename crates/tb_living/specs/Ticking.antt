-- The effect of a tick on the running processes, for any kind of walkers.
use Rattle.std.specs.Prelude.{◌≡◌, ◌<◌, ◌&&◌, List, [], ◌∷◌, not, Some, slice_get, ⊤}
use Rattle.tb_process_steps.specs.Walks.{most_ticks, ticked}
use Rattle.tb_process_steps.specs.WalkerViews.{View}
use Rattle.tb_search.specs.declared.living.Living.{Living}

-- the process uses this plan, and has seen so few ticks that one more can pass
pub record IsBefore {W P T : Type 0} (view : View P W T) (plan : P) (living : Living W) : Type 0 where
  pub is_on : view.is_on plan living.walker
  pub few : (view.walking plan living.walker).ticks < most_ticks

-- one more tick can pass for the process, by the plan of its body
abbrev pub CanTick : {W P T : Type 0} → View P W T → List P → Living W → Type 0
CanTick {P = P} view plans living = (plan : P) × (slice_get plans living.body ≡ Some plan) × IsBefore view plan living

-- The process uses this plan, and is one tick older. If it is timed, it isn't fresh any more. Nothing else changes.
pub record HasTicked {W P T : Type 0} (view : View P W T) (plan : P) (old new : Living W) : Type 0 where
  pub is_on : view.is_on plan new.walker
  pub aged : view.walking plan new.walker ≡ ticked (view.walking plan old.walker)
  pub number : new.number ≡ old.number
  pub body : new.body ≡ old.body
  pub inbox : new.inbox ≡ old.inbox
  pub ready : new.ready ≡ old.ready
  pub fresh : new.fresh ≡ (old.fresh && not old.timed)
  pub timed : new.timed ≡ old.timed
  pub marks : new.marks ≡ old.marks

-- the process is one tick older, by the plan of its body
abbrev pub IsTicked : {W P T : Type 0} → View P W T → List P → Living W → Living W → Type 0
IsTicked {P = P} view plans old new = (plan : P) × (slice_get plans old.body ≡ Some plan) × HasTicked view plan old new

-- each process is one tick older, in the same order
abbrev pub AreTicked : {W P T : Type 0} → View P W T → List P → List (Living W) → List (Living W) → Type 0
AreTicked view plans [] [] = ⊤
AreTicked view plans [] (new ∷ news) = ⊥
AreTicked view plans (old ∷ olds) [] = ⊥
AreTicked view plans (old ∷ olds) (new ∷ news) = IsTicked view plans old new × AreTicked view plans olds news
