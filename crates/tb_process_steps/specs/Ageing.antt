-- How a tick changes the offers of a term: each offer remains, one tick older.
use Rattle.std.specs.Prelude.{◌≡◌, ◌+◌, List, [], ◌∷◌, Option, Some, None, ⊤}
use Rattle.tb_process_steps.specs.Processes.{Process, Seq, Par, Disrupt, aged}
use Rattle.tb_process_steps.specs.Offers.{Offered}

-- The rest of an offer, and the rest of the same offer one tick later. The parts that the process enters by taking the offer are new in
-- both. The waiting parts have aged in the second.
pub data IsLeftLater : Process → Process → Type 0 where
  -- the rest is entered by taking the offer
  follows : {next : Process} → IsLeftLater next next
  -- the rest of a first part, before a second part that isn't entered
  goes_before : {left later next : Process} → IsLeftLater left later → IsLeftLater (Seq left next) (Seq later next)
  -- one side of a merge has ended: the rest is its other side
  stays : {other : Process} → IsLeftLater other (aged other)
  -- the rest of the left side of a merge
  goes_beside : {left later other : Process} → IsLeftLater left later → IsLeftLater (Par left other) (Par later (aged other))
  -- the rest of the right side of a merge
  goes_along : {left later other : Process} → IsLeftLater left later → IsLeftLater (Par other left) (Par (aged other) later)
  -- the rest of the left side of a disrupt, whose right side waits
  goes_until : {left later other : Process} → IsLeftLater left later → IsLeftLater (Disrupt left other) (Disrupt later (aged other))

-- both rests are the end, or the second is the rest of the same offer one tick later
abbrev pub LeavesLater : Option Process → Option Process → Type 0
LeavesLater None None = ⊤
LeavesLater None (Some later) = ⊥
LeavesLater (Some left) None = ⊥
LeavesLater (Some left) (Some later) = IsLeftLater left later

-- an offer, and the same offer one tick later
pub record IsAged (offered later : Offered) : Type 0 where
  pub atom : later.atom ≡ offered.atom
  pub age : later.age ≡ offered.age + 1
  pub store : later.store ≡ offered.store
  pub left : LeavesLater offered.residual later.residual

-- the offers of two lists, one by one: the second list has the same offers one tick later
abbrev pub AreAged : List Offered → List Offered → Type 0
AreAged [] [] = ⊤
AreAged [] (later ∷ laters) = ⊥
AreAged (offered ∷ others) [] = ⊥
AreAged (offered ∷ others) (later ∷ laters) = IsAged offered later × AreAged others laters
