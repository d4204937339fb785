-- The offers of a process term, with one rule for each operator.
use Rattle.std.specs.Prelude.{ℕ, Bool, true, false, List, [], ◌∷◌, ◌++◌, map, Option, Some, None}
use Rattle.tb_func.specs.declared.slot.Slot.{Slot}
use Rattle.tb_process_steps.specs.Processes.{Process, At, Seq, Alt, Star, Par, Disrupt, If, When, Let}
use Rattle.tb_process_steps.specs.Settings.{tested, with_settings}

-- an atom that a process can do next: its number, its age, the store in which it happens, and its rest (the term after it, or the end)
pub record Offered : Type 0 where
  pub atom : ℕ
  pub age : ℕ
  pub store : List Slot
  pub residual : Option Process

-- the rest of a term in sequence with another term
abbrev pub followed : Option Process → Process → Process
followed None y = y
followed (Some x) y = Seq x y

-- the rest of a left side, merged with the right side
abbrev pub left_of : Option Process → Process → Process
left_of None y = y
left_of (Some x) y = Par x y

-- a left side, merged with the rest of the right side
abbrev pub right_of : Process → Option Process → Process
right_of x None = x
right_of x (Some y) = Par x y

-- the rest of a left side, disrupted by the waiting right side; the end if the left side has ended
abbrev pub until : Process → Option Process → Option Process
until y None = None
until y (Some x) = Some (Disrupt x y)

-- the offer of a first part, before the second part
abbrev pub before : Process → Offered → Offered
before y offered = record offered { residual = Some (followed offered.residual y) }

-- the offer of the left side of a merge
abbrev pub on_the_left : Process → Offered → Offered
on_the_left y offered = record offered { residual = Some (left_of offered.residual y) }

-- the offer of the right side of a merge
abbrev pub on_the_right : Process → Offered → Offered
on_the_right x offered = record offered { residual = Some (right_of x offered.residual) }

-- the offer of the left side of a disrupt, whose right side waits
abbrev pub in_wait : Process → Offered → Offered
in_wait y offered = record offered { residual = until y offered.residual }

-- the offers of the side that a truth value selects; none without a truth value
abbrev pub offers_if : Option Bool → List Offered → List Offered → List Offered
offers_if (Some true) then_side else_side = then_side
offers_if (Some false) then_side else_side = else_side
offers_if None then_side else_side = []

-- the offers in the given store; none without a store
abbrev pub offers_after : Option (List Slot) → (List Slot → List Offered) → List Offered
offers_after None offering = []
offers_after (Some store) offering = offering store

-- the offers of a term in a store, in the order of the source
abbrev pub offers : Process → List Slot → List Offered
-- an atom offers itself; its rest is the end
offers (At atom age) store = record { atom = atom; age = age; store = store; residual = None } ∷ []
-- a sequence has the offers of its first term; the second term follows each rest
offers (Seq x y) store = map (before y) (offers x store)
-- a choice has the offers of both terms; taking one drops the other term
offers (Alt x y) store = offers x store ++ offers y store
-- a star has the offers of its first term, where the star follows each rest; then those of its second term
offers (Star x y) store = map (before (Star x y)) (offers x store) ++ offers y store
-- a merge has the offers of both terms; each rest is merged with the other term
offers (Par x y) store = map (on_the_left y) (offers x store) ++ map (on_the_right x) (offers y store)
-- a disrupt has the offers of its left side, after which the right side still waits unchanged; then the offers of its right side, which
-- drop the left side
offers (Disrupt x y) store = map (in_wait y) (offers x store) ++ offers y store
-- a test has the offers of the side that its truth value in the store selects
offers (If test x y) store = offers_if (tested store test) (offers x store) (offers y store)
offers (When test x) store = offers_if (tested store test) (offers x store) []
-- a let has the offers of its term in the store after the settings
offers (Let settings x) store = offers_after (with_settings store settings) (offers x)
