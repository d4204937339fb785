-- The terms to which a disrupt leads while only its left side takes steps, and after a step of its right side.
use Rattle.std.specs.Prelude.{◌≡◌, ◌<◌, ◌≤◌, ◌+◌, ℕ, List, [], ◌∷◌, ◌++◌, length, slice_get, Some, Contains}
use Rattle.tb_func.specs.declared.slot.Slot.{Slot}
use Rattle.tb_process_steps.specs.Processes.{Process, At, Seq, Alt, Star, Par, Disrupt, If, When, Let, aged}
use Rattle.tb_process_steps.specs.Offers.{Offered, offers}

-- the terms to which taken offers and this number of ticks lead from a term; each offer can be of any store
pub data Comes (term : Process) : ℕ → Process → Type 0 where
  -- no step and no tick
  here : Comes term 0 term
  -- an offer is taken
  goes_on : {ticks : ℕ} {later left : Process} (store : List Slot) (offered : Offered) → Comes term ticks later → Contains (offers later store) offered → offered.residual ≡ Some left → Comes term ticks left
  -- a tick passes
  grows_older : {ticks : ℕ} {later : Process} → Comes term ticks later → Comes term (ticks + 1) (aged later)

-- The terms to which steps of the left side and this number of ticks lead from `x >> y`. The first offers of a disrupt are those of its
-- left side. So an offer belongs to the left side if its index, from 0, is less than the number of these offers.
pub data OnlyLeft (x y : Process) : ℕ → Process → Type 0 where
  -- no step and no tick
  begins : OnlyLeft x y 0 (Disrupt x y)
  -- an offer of the left side is taken
  steps : {ticks k : ℕ} {r s left : Process} (store : List Slot) (offered : Offered) → OnlyLeft x y ticks (Disrupt r s)
      → slice_get (offers (Disrupt r s) store) k ≡ Some offered → k < length (offers r store) → offered.residual ≡ Some left → OnlyLeft x y ticks left
  -- a tick passes
  waits : {ticks : ℕ} {term : Process} → OnlyLeft x y ticks term → OnlyLeft x y (ticks + 1) (aged term)

-- the terms to which steps and this number of ticks lead from `x >> y`, with at least one step of its right side
pub data RightWent (x y : Process) : ℕ → Process → Type 0 where
  -- the right side takes its first step
  went : {ticks k : ℕ} {r s left : Process} (store : List Slot) (offered : Offered) → OnlyLeft x y ticks (Disrupt r s)
      → slice_get (offers (Disrupt r s) store) k ≡ Some offered → length (offers r store) ≤ k → offered.residual ≡ Some left → RightWent x y ticks left
  -- an offer is taken after that step
  goes_further : {ticks : ℕ} {later left : Process} (store : List Slot) (offered : Offered) → RightWent x y ticks later
      → Contains (offers later store) offered → offered.residual ≡ Some left → RightWent x y ticks left
  -- a tick passes
  grows : {ticks : ℕ} {later : Process} → RightWent x y ticks later → RightWent x y (ticks + 1) (aged later)

-- the atoms of a term, in the order of the source
abbrev pub atoms_of : Process → List ℕ
atoms_of (At atom age) = atom ∷ []
atoms_of (Seq x y) = atoms_of x ++ atoms_of y
atoms_of (Alt x y) = atoms_of x ++ atoms_of y
atoms_of (Star x y) = atoms_of x ++ atoms_of y
atoms_of (Par x y) = atoms_of x ++ atoms_of y
atoms_of (Disrupt x y) = atoms_of x ++ atoms_of y
atoms_of (If test x y) = atoms_of x ++ atoms_of y
atoms_of (When test x) = atoms_of x
atoms_of (Let settings x) = atoms_of x

-- The two terms have no atom in common.
abbrev pub AreApart : Process → Process → Type 0
AreApart x y = (atom : ℕ) → Contains (atoms_of x) atom → Contains (atoms_of y) atom → ⊥
