-- The process term that a row of branches represents.
use Rattle.std.specs.Prelude.{ℕ, suc, ◌+◌, ◌-◌, ◌==◌, List, [], ◌∷◌, Option, Some, None, if◌then◌else◌}
use Rattle.tb_process_steps.specs.Processes.{Process, At, Seq, Alt, Star, Par, Disrupt, If, When, Let}
use Rattle.tb_process_steps.specs.Helpers.Runnings.{waited}
use Rattle.tb_code.specs.Positions.{size}
use Rattle.tb_walk.specs.declared.branch.Branch.{Branch}

-- the tick at which the first branch at this position was entered, if there is one
abbrev pub entered_at : List Branch → ℕ → Option ℕ
entered_at [] at = None
entered_at (branch ∷ row) at = if branch.position == at then Some branch.entered else entered_at row at

-- if the part was entered at a tick, the part with its age; otherwise the rest within the part
abbrev pub or_within : ℕ → Option ℕ → Process → Option Process → Option Process
or_within ticks (Some entered) term within = Some (waited (ticks - entered) term)
or_within ticks None term within = within

-- the first term if it isn't the end, otherwise the second
abbrev pub either : Option Process → Option Process → Option Process
either (Some x) y = Some x
either None y = y

-- the rest of a first part in sequence with another term; the end if nothing is left of the first part
abbrev pub and_then : Option Process → Process → Option Process
and_then None y = None
and_then (Some x) y = Some (Seq x y)

-- the merge of two rests; only one rest if the other is the end
abbrev pub beside : Option Process → Option Process → Option Process
beside None y = y
beside (Some x) None = Some x
beside (Some x) (Some y) = Some (Par x y)

-- the disrupt of two rests; only one rest if the other is the end
abbrev pub against : Option Process → Option Process → Option Process
against None y = y
against (Some x) None = Some x
against (Some x) (Some y) = Some (Disrupt x y)

-- The rest of a term whose positions begin here, after this number of ticks. If no branch is within its positions, the rest is the end.
-- The branch of a disrupt's right side is at the position where it waits. After the first step of the right side, its branches are within
-- its own positions.
abbrev pub left : ℕ → List Branch → ℕ → Process → Option Process
left ticks row at (At atom age) = or_within ticks (entered_at row at) (At atom age) None
left ticks row at (Seq x y) = or_within ticks (entered_at row at) (Seq x y) (either (and_then (left ticks row (suc at) x) y) (left ticks row (suc at + size x) y))
left ticks row at (Alt x y) = or_within ticks (entered_at row at) (Alt x y) (either (left ticks row (suc at) x) (left ticks row (suc at + size x) y))
left ticks row at (Star x y) = or_within ticks (entered_at row at) (Star x y) (either (and_then (left ticks row (suc at) x) (Star x y)) (left ticks row (suc at + size x) y))
left ticks row at (Par x y) = or_within ticks (entered_at row at) (Par x y) (beside (left ticks row (suc at) x) (left ticks row (suc at + size x) y))
left ticks row at (Disrupt x y) = or_within ticks (entered_at row at) (Disrupt x y) (against (left ticks row (suc at) x) (or_within ticks (entered_at row (suc at + size x)) y (left ticks row (suc (suc at + size x)) y)))
left ticks row at (If test x y) = or_within ticks (entered_at row at) (If test x y) (either (left ticks row (suc at) x) (left ticks row (suc at + size x) y))
left ticks row at (When test x) = or_within ticks (entered_at row at) (When test x) (left ticks row (suc at) x)
left ticks row at (Let settings x) = or_within ticks (entered_at row at) (Let settings x) (left ticks row (suc at) x)
