-- The branches of a row that remain when one of them continues, and the continuation when a branch has ended.
use Rattle.std.specs.Prelude.{ℕ, Bool, true, false, not, ◌&&◌, ◌||◌, List, [], ◌∷◌, ◌++◌, slice_get, Option, Some, None, if◌then◌else◌}
use Rattle.tb_process_steps.specs.Processes.{Process}
use Rattle.tb_code.specs.Positions.{op_at, positions}
use Rattle.tb_code.specs.declared.node.Node.{Node}
use Rattle.tb_code.specs.declared.node.Op.{Op}
use Rattle.tb_code.specs.declared.node.Op.TheVariants as op
use Rattle.tb_walk.specs.Helpers.Reads.{any_inside, branch, is_inside}
use Rattle.tb_walk.specs.declared.branch.Branch.{Branch}

-- Facts of a frame. `bound_by` is the position after its first part. `next_by` is the position that is entered when this part has ended.
-- `falls_by` is true if this part is the left side of a disrupt. For a disrupt, `next_by` is its own position.

abbrev pub bound_by : Op → ℕ → ℕ
bound_by (op.Seq right) at = right
bound_by (op.Star right) at = right
bound_by (op.Disrupt waits) at = waits
bound_by _ at = at

abbrev pub next_by : Op → ℕ → ℕ
next_by (op.Seq right) at = right
next_by _ at = at

abbrev pub falls_by : Op → Bool
falls_by (op.Disrupt waits) = true
falls_by _ = false

-- the row without the branches between these positions, both exclusive
abbrev pub without : ℕ → ℕ → List Branch → List Branch
without at bound [] = []
without at bound (branch ∷ row) = if is_inside at bound branch then without at bound row else branch ∷ without at bound row

-- The remaining branches before one that continues. If this branch is a waiting right side, the branches of its left side leave the row.
abbrev pub kept_by : Op → ℕ → List Branch → List Branch
kept_by (op.Waits disrupt) at row = without disrupt at row
kept_by _ at row = row

-- another branch is in the first part of a frame
abbrev pub any_there : Process → ℕ → List Branch → List Branch → Bool
any_there whole at pre post = any_inside at (bound_by (op_at whole at) at) pre || any_inside at (bound_by (op_at whole at) at) post

-- The branch that is entered when a branch with this frame has ended, between the other branches. If another branch is in the first part
-- of the frame, no branch is entered: a merge there hasn't ended.
abbrev pub entered_behind : Process → ℕ → Option ℕ → List Branch → List Branch → List Branch
entered_behind whole ticks None pre post = []
entered_behind whole ticks (Some at) pre post = if any_there whole at pre post then [] else branch (next_by (op_at whole at) at) ticks ∷ []

-- the frame is a disrupt whose left side has ended completely
abbrev pub falls : Process → Option ℕ → List Branch → List Branch → Bool
falls whole None pre post = false
falls whole (Some at) pre post = falls_by (op_at whole at) && not (any_there whole at pre post)

abbrev pub frame_in : Option Node → Option ℕ
frame_in None = None
frame_in (Some node) = node.frame

-- the frame of a frame
abbrev pub frame_above : Process → Option ℕ → Option ℕ
frame_above whole None = None
frame_above whole (Some at) = frame_in (slice_get (positions whole) at)

-- The branches after a branch with this frame that has ended, with the continuation. If a left side ends with it, the branch of the waiting
-- right side leaves the row too. The disrupt's own frame then determines the continuation.
abbrev pub rest_behind : Process → ℕ → Option ℕ → List Branch → List Branch → List Branch
rest_behind whole ticks frame pre [] = entered_behind whole ticks frame pre []
rest_behind whole ticks frame pre (b ∷ post) =
    if falls whole frame pre (b ∷ post) then rest_behind whole ticks (frame_above whole frame) pre post else entered_behind whole ticks frame pre (b ∷ post) ++ (b ∷ post)

-- the branches that are left of a part and the branches after it; if no branch is left of the part, the continuation after its end
abbrev pub or_rest : List Branch → List Branch → List Branch → List Branch
or_rest [] post rest = rest
or_rest (b ∷ row) post rest = (b ∷ row) ++ post
