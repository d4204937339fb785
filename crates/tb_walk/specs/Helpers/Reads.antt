-- The rows of branches that fit a term, and the term that each of these rows represents.
use Rattle.std.specs.Prelude.{◌≤◌, ℕ, suc, ◌+◌, ◌-◌, Bool, false, ◌&&◌, ◌||◌, nat_lt, List, [], ◌∷◌, ◌++◌, Option, Some, None}
use Rattle.tb_terms.specs.declared.expr.Expr.{Expr}
use Rattle.tb_body.specs.declared.tree.Setting.{Setting}
use Rattle.tb_process_steps.specs.Processes.{Process, Seq, Alt, Star, Par, Disrupt, If, When, Let}
use Rattle.tb_process_steps.specs.Helpers.Runnings.{waited}
use Rattle.tb_code.specs.Positions.{size}
use Rattle.tb_walk.specs.Lefts.{beside}
use Rattle.tb_walk.specs.declared.branch.Branch.{Branch}

abbrev pub branch : ℕ → ℕ → Branch
branch at entered = record { position = at; entered = entered }

-- a part of a term that can be all that is left of the term after an offer is taken, with its first position
pub data Passes : ℕ → Process → ℕ → Process → Type 0 where
  behind : {at : ℕ} {x y : Process} → Passes at (Seq x y) (suc at + size x) y
  one : {at : ℕ} {x y : Process} → Passes at (Alt x y) (suc at) x
  other : {at : ℕ} {x y : Process} → Passes at (Alt x y) (suc at + size x) y
  leaves : {at : ℕ} {x y : Process} → Passes at (Star x y) (suc at + size x) y
  -- the right side of a disrupt has taken a step
  transfers : {at : ℕ} {x y : Process} → Passes at (Disrupt x y) (suc (suc at + size x)) y
  then_side : {at : ℕ} {test : Expr} {x y : Process} → Passes at (If test x y) (suc at) x
  else_side : {at : ℕ} {test : Expr} {x y : Process} → Passes at (If test x y) (suc at + size x) y
  when : {at : ℕ} {test : Expr} {x : Process} → Passes at (When test x) (suc at) x
  set : {at : ℕ} {settings : List Setting} {x : Process} → Passes at (Let settings x) (suc at) x

-- the first part of a sequence or a star, and the term that follows it, with the position at which this term is entered
pub data Follows : ℕ → Process → Process → ℕ → Process → Type 0 where
  sequence : {at : ℕ} {x y : Process} → Follows at (Seq x y) x (suc at + size x) y
  turn : {at : ℕ} {x y : Process} → Follows at (Star x y) x at (Star x y)

-- The row fits the term whose positions begin here. After this number of ticks, it represents the given rest of the term.
pub data Reads (ticks : ℕ) : ℕ → Process → List Branch → Option Process → Type 0 where
  -- the term has ended
  ended : {at : ℕ} {term : Process} → Reads ticks at term [] None
  -- the term has been entered and has taken no step yet
  waits : {at : ℕ} {term : Process} (entered : ℕ) → entered ≤ ticks → Reads ticks at term (branch at entered ∷ []) (Some (waited (ticks - entered) term))
  -- only a part of the term is left
  passes : {at : ℕ} {term : Process} (at-x : ℕ) (x : Process) {row : List Branch} {r : Process} → Passes at term at-x x → Reads ticks at-x x row (Some r) → Reads ticks at term row (Some r)
  -- the first part is left, and another term follows it
  follows : {at : ℕ} {term : Process} (x : Process) (at-z : ℕ) (z : Process) {row : List Branch} {r : Process} → Follows at term x at-z z → Reads ticks (suc at) x row (Some r) → Reads ticks at term row (Some (Seq r z))
  -- a merge has been parted into branches
  both : {at : ℕ} {x y : Process} {one other : List Branch} {s t : Option Process} → Reads ticks (suc at) x one s → Reads ticks (suc at + size x) y other t → Reads ticks at (Par x y) (one ++ other) (beside s t)
  -- the left side of a disrupt has taken a step, and the right side waits; its branch is after the branches of the left side
  stands_until : {at : ℕ} {x y : Process} {row : List Branch} {r : Process} (entered : ℕ) → entered ≤ ticks → Reads ticks (suc at) x row (Some r) → Reads ticks at (Disrupt x y) (row ++ branch (suc at + size x) entered ∷ []) (Some (Disrupt r (waited (ticks - entered) y)))

-- the branch is between these positions, both exclusive
abbrev pub is_inside : ℕ → ℕ → Branch → Bool
is_inside at bound branch = nat_lt at branch.position && nat_lt branch.position bound

-- a branch of the row is between these positions, both exclusive
abbrev pub any_inside : ℕ → ℕ → List Branch → Bool
any_inside at bound [] = false
any_inside at bound (branch ∷ row) = is_inside at bound branch || any_inside at bound row

-- the row that is left of a part; if it is empty, the row that follows the part
abbrev pub or_entered : List Branch → List Branch → List Branch
or_entered [] next = next
or_entered (b ∷ row) next = b ∷ row
