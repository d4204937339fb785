-- The row that is left of a part when one of its atoms happens, by the position of the atom.
use Rattle.std.specs.Prelude.{◌≡◌, ℕ, suc, ◌+◌, nat_lt, List, [], ◌∷◌, ◌++◌, if◌then◌else◌, ⊤}
use Rattle.tb_process_steps.specs.Processes.{Process, At, Seq, Alt, Star, Par, Disrupt, If, When, Let}
use Rattle.tb_code.specs.Positions.{size, part}
use Rattle.tb_code.specs.declared.behind.Behind.{Behind}
use Rattle.tb_code.specs.declared.behind.Behind.TheVariants as behind
use Rattle.tb_walk.specs.Helpers.Places.{root_at}
use Rattle.tb_walk.specs.Helpers.Reads.{branch, or_entered}
use Rattle.tb_walk.specs.declared.branch.Branch.{Branch}

-- the branches of a left side, then the branch of the waiting right side; no branch if the left side has ended
abbrev pub and_waits : List Branch → Branch → List Branch
and_waits [] next = []
and_waits (b ∷ row) next = (b ∷ row) ++ next ∷ []

-- The row that is left of a part when the atom at the given position happens. The positions of the part begin here, and it has taken no
-- step yet. The continuation is entered now. The other side of a merge and the right side of a disrupt wait, and keep their tick.
abbrev pub row_by : ℕ → ℕ → ℕ → Process → ℕ → List Branch
row_by ticks entered at (At atom age) to = []
row_by ticks entered at (Seq x y) to = or_entered (row_by ticks entered (suc at) x to) (branch (suc at + size x) ticks ∷ [])
row_by ticks entered at (Alt x y) to = if nat_lt to (suc at + size x) then row_by ticks entered (suc at) x to else row_by ticks entered (suc at + size x) y to
row_by ticks entered at (Star x y) to =
    if nat_lt to (suc at + size x) then or_entered (row_by ticks entered (suc at) x to) (branch at ticks ∷ []) else row_by ticks entered (suc at + size x) y to
row_by ticks entered at (Par x y) to =
    if nat_lt to (suc at + size x) then row_by ticks entered (suc at) x to ++ branch (suc at + size x) entered ∷ [] else branch (suc at) entered ∷ row_by ticks entered (suc at + size x) y to
row_by ticks entered at (Disrupt x y) to =
    if nat_lt to (suc at + size x) then and_waits (row_by ticks entered (suc at) x to) (branch (suc at + size x) entered) else row_by ticks entered (suc (suc at + size x)) y to
row_by ticks entered at (If test x y) to = if nat_lt to (suc at + size x) then row_by ticks entered (suc at) x to else row_by ticks entered (suc at + size x) y to
row_by ticks entered at (When test x) to = row_by ticks entered (suc at) x to
row_by ticks entered at (Let settings x) to = row_by ticks entered (suc at) x to

-- the row that is left of a branch's part when the atom at the given position happens
abbrev pub branch_by : Process → ℕ → Branch → ℕ → List Branch
branch_by whole ticks branch to = row_by ticks branch.entered (root_at whole branch.position) (part whole branch.position) to

-- The rows have this effect. They depend on the number of ticks and on the tick at which the part was entered. The effect `Parted` permits
-- any rows.
abbrev pub AreRows : (ℕ → ℕ → List Branch) → Behind → Type 0
AreRows rows behind.Ended = (ticks entered : ℕ) → rows ticks entered ≡ []
AreRows rows (behind.Entered position) = (ticks entered : ℕ) → rows ticks entered ≡ branch position ticks ∷ []
AreRows rows behind.Parted = ⊤

-- The last effect is the effect on a whole when the atom at the given position of its part happens. The positions of the part begin here.
-- The first effect is the effect of the part's end. If the first effect is `Parted`, the last is `Parted` too.
abbrev pub GoesOn : ℕ → Process → ℕ → Behind → Behind → Type 0
GoesOn at x to behind.Ended result = AreRows (λ ticks entered. row_by ticks entered at x to) result
GoesOn at x to (behind.Entered next) result = AreRows (λ ticks entered. or_entered (row_by ticks entered at x to) (branch next ticks ∷ [])) result
GoesOn at x to behind.Parted result = result ≡ behind.Parted
