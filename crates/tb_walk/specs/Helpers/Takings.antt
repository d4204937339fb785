-- The row after an offer of one of its branches is taken.
use Rattle.std.specs.Prelude.{◌≡◌, ℕ, ◌+◌, List, ◌++◌, Option, Some, suc, slice_get, slice_set, take, drop, remove, ◌≤◌, ◌<◌, length, ⊤}
use Rattle.std.specs.Option.{option_to_list}
use Rattle.tb_func.specs.declared.slot.Slot.{Slot}
use Rattle.tb_process_steps.specs.Helpers.Selections.{On, selected}
use Rattle.tb_process_steps.specs.Processes.{Process}
use Rattle.tb_code.specs.Positions.{part, positions, size}
use Rattle.tb_code.specs.declared.node.Node.{Node}
use Rattle.tb_walk.specs.Helpers.Goings.{term_at, counted}
use Rattle.tb_walk.specs.Helpers.Places.{outset_at, root_at}
use Rattle.tb_walk.specs.Helpers.Reads.{Reads, branch}
use Rattle.tb_walk.specs.Helpers.Rests.{kept_by, or_rest, rest_behind}
use Rattle.tb_walk.specs.Helpers.Partings.{GoesOn, branch_by}
use Rattle.tb_walk.specs.declared.branch.Branch.{Branch}
use Rattle.tb_walk.specs.declared.settle.Step.{Step}
use Rattle.tb_walk.specs.declared.settle.Step.TheVariants as step
use Rattle.tb_walk.specs.declared.sight.Sight.{Sight}
use Rattle.tb_walk.specs.declared.taken.Taken.{Taken}
use Rattle.tb_walk.specs.declared.taken.Taken.TheVariants as taken
use Rattle.tb_walk.specs.declared.taken.Outcome.{Outcome}

-- after the offer at this index is taken, this row represents the rest of the branch's part, and the store is the given one
pub record LeavesRow (whole : Process) (ticks at entered : ℕ) (store : List Slot) (k : ℕ) (row : List Branch) (own : List Slot) : Type 0 where
  pub left : Option Process
  pub selects : selected (term_at whole ticks (branch at entered)) store k ≡ On left own
  pub reads : Reads ticks (root_at whole at) (part whole at) row left

-- each branch of the row is at a position of the table, and was entered no later than now
abbrev pub AreThere : Process → ℕ → List Branch → Type 0
AreThere whole ticks row = (i : ℕ) → (b : Branch) → slice_get row i ≡ Some b → (b.position < size whole) × (b.entered ≤ ticks)

-- the offer at this index of a row is an offer of the branch at the other index
pub record Picks (whole : Process) (ticks : ℕ) (row : List Branch) (store : List Slot) (k at : ℕ) (inside : List Branch) (own : List Slot) : Type 0 where
  pub one : Branch
  pub here : slice_get row at ≡ Some one
  pub rest : ℕ
  pub counts : k ≡ counted whole ticks store (take at row) + rest
  pub takes : LeavesRow whole ticks one.position one.entered store rest inside own

-- the row after a step
abbrev pub row_after : List Branch → Step → List Branch
row_after row (step.Put at branch) = slice_set row at branch
row_after row (step.Leave at) = remove row at
row_after row (step.Fall at gone next) = take at row ++ (option_to_list next ++ drop (at + 1 + gone) row)
row_after row (step.Part new) = new

-- the indices of the step are within the row
abbrev pub IsWithin : List Branch → Step → Type 0
IsWithin row (step.Put at branch) = at < length row
IsWithin row (step.Leave at) = at < length row
IsWithin row (step.Fall at gone next) = at + 1 + gone ≤ length row
IsWithin row (step.Part new) = ⊤

-- the new row is the row after the branch at this index has ended; all branches before it remain
abbrev pub EndsTo : Process → ℕ → List Branch → ℕ → List Branch → Type 0
EndsTo whole ticks row at new = (b : Branch) → (n : Node) → slice_get row at ≡ Some b → slice_get (positions whole) b.position ≡ Some n → new ≡ take at row ++ rest_behind whole ticks n.frame (take at row) (drop (suc at) row)

-- The new row has the remaining branches before this index, then the branches inside and all branches after this index. If no branch is
-- inside, the remaining branches are followed by the continuation after the end of the branch.
abbrev pub SettlesTo : Process → ℕ → List Branch → ℕ → List Branch → List Branch → Type 0
SettlesTo whole ticks row at inside new =
    (b : Branch) → (n : Node) → slice_get row at ≡ Some b → slice_get (positions whole) b.position ≡ Some n →
    new ≡ kept_by n.op b.position (take at row) ++ or_rest inside (drop (suc at) row) (rest_behind whole ticks n.frame (kept_by n.op b.position (take at row)) (drop (suc at) row))

-- the step is within the row and makes this new row
pub record IsSettled (whole : Process) (ticks : ℕ) (row : List Branch) (at : ℕ) (inside : List Branch) (step : Step) : Type 0 where
  pub within : IsWithin row step
  pub after : SettlesTo whole ticks row at inside (row_after row step)

-- The found offer is of a branch of the row. Its effect is the effect on the branch's part when its atom happens.
abbrev pub IsInRow : Process → List Branch → Sight → Type 0
IsInRow whole row sight =
    (sight.branch < length row)
    × ((b : Branch) → slice_get row sight.branch ≡ Some b → (b.position < size whole) × GoesOn (root_at whole b.position) (part whole b.position) sight.position (outset_at whole b.position) sight.behind)

-- The outcome is made for this found offer: it has the offer's own store, and its step replaces the offer's branch.
abbrev pub IsMadeBy : Process → ℕ → List Branch → Sight → Outcome → Type 0
IsMadeBy whole ticks row sight outcome =
    (outcome.own ≡ sight.own) × ((b : Branch) → slice_get row sight.branch ≡ Some b → IsSettled whole ticks row sight.branch (branch_by whole ticks b sight.position) outcome.step)

-- the taken value is an outcome that was made for this found offer
abbrev pub IsTakenBy : Process → ℕ → List Branch → Sight → Taken → Type 0
IsTakenBy whole ticks row sight (taken.Made outcome) = IsMadeBy whole ticks row sight outcome
IsTakenBy whole ticks row sight (taken.Ended k) = ⊥
IsTakenBy whole ticks row sight (taken.Entered k position) = ⊥
