-- After all joins, each seat has seen exactly those of its own entries that it had seen before.
use Rattle.std.proofs.Common.{◌≡◌, ℕ, suc, arith, List, [], ◌∷◌, ◌++◌, Bool, true, false, ◌||◌, refl, sym, ap, ◌∙◌, subst, append_assoc, append-nil, map, ◌+◌, ◌⊎◌, inl, inr, ⊎_elim}
use Rattle.std.specs.List.{All, fold}
use Rattle.tb_log.specs.declared.entry.Entry.{Entry}
use Rattle.tb_lock.specs.declared.rights.Rights.{Rights}
use Rattle.tb_lock.specs.Rights.{Right, AreAmong, has, own, united}
use Rattle.tb_lock.specs.Seats.{SeatView}
use Rattle.tb_lock.specs.Calls.{Joins}
use Rattle.tb_run.specs.Joining.{JoinsAll}

-- what the shared bus gives, by its laws
abbrev pub FirstLaw : Type 0
FirstLaw = (old other new : SeatView) (some : Rights) → Joins old other new → AreAmong some old.rights → own some new.seen ≡ own some old.seen

abbrev pub SecondLaw : Type 0
SecondLaw = (old other new : SeatView) (some : Rights) → Joins old other new → AreAmong some other.rights → own some new.seen ≡ own some other.seen

-- of the bits of united rights (has-united of the shared bus)
abbrev pub UnitedLaw : Type 0
UnitedLaw = (rights more : Rights) (right : Right) → has (united rights more) right ≡ (has rights right || has more right)

-- the last seat has seen all that another had, and of the entries of its rights no others
pub record Kept (last other : SeatView) : Type 0 where
  pub keeps : (some : Rights) → AreAmong some other.rights → own some last.seen ≡ own some other.seen
  pub rest : List Entry
  pub begins : last.seen ≡ other.seen ++ rest

abbrev pub AllKept : SeatView → List SeatView → Type 0
AllKept last [] = Unit {0}
AllKept last (other ∷ others) = Kept last other × AllKept last others

module _ (first : FirstLaw) (second : SecondLaw) (bits : UnitedLaw) where
  or_left : (a b : Bool) → a ≡ true → (a || b) ≡ true
  or_left a b e = ap (λ (x : Bool). x || b) e

  or_right : (a b : Bool) → b ≡ true → (a || b) ≡ true
  or_right true b e = refl
  or_right false b e = e

  keeps_left : (old other new : SeatView) → Joins old other new → AreAmong old.rights new.rights
  keeps_left old other new j right h = subst (λ (s : SeatView). has s.rights right ≡ true) (sym j.seat) (bits old.rights other.rights right ∙ or_left (has old.rights right) (has other.rights right) h)

  keeps_right : (old other new : SeatView) → Joins old other new → AreAmong other.rights new.rights
  keeps_right old other new j right h = subst (λ (s : SeatView). has s.rights right ≡ true) (sym j.seat) (bits old.rights other.rights right ∙ or_right (has old.rights right) (has other.rights right) h)

  -- of the rights that the one seat had
  pub own_first : (seat last : SeatView) (others : List SeatView) (some : Rights) → JoinsAll seat others last → AreAmong some seat.rights → own some last.seen ≡ own some seat.seen
  own_first seat last [] some j among = ap (λ (s : SeatView). own some s.seen) (sym j)
  own_first seat last (other ∷ others) some j among =
      own_first j.0 last others some j.2 (λ right h. keeps_left seat other j.0 j.1 right (among right h)) ∙ first seat other j.0 some j.1 among

  -- what the one seat has seen begins with what it had seen
  pub begins : (seat last : SeatView) (others : List SeatView) → JoinsAll seat others last → (rest : List Entry) × (last.seen ≡ seat.seen ++ rest)
  begins seat last [] j = ([], ap (λ (s : SeatView). s.seen) (sym j) ∙ sym (append-nil seat.seen))
  begins seat last (other ∷ others) j =
      let t = begins j.0 last others j.2 in
      (j.1.grows.rest ++ t.0, t.1 ∙ (ap (λ (s : List Entry). s ++ t.0) j.1.grows.is ∙ append_assoc seat.seen j.1.grows.rest t.0))

  pub own_each : (seat last : SeatView) (others : List SeatView) → JoinsAll seat others last → AllKept last others
  own_each seat last [] j = tt
  own_each seat last (other ∷ others) j =
      let t = begins j.0 last others j.2 in (
        record {
          keeps = λ some among. own_first j.0 last others some j.2 (λ right h. keeps_right seat other j.0 j.1 right (among right h)) ∙ second seat other j.0 some j.1 among;
          rest = j.1.other_grows.rest ++ t.0;
          begins = t.1 ∙ (ap (λ (s : List Entry). s ++ t.0) j.1.other_grows.is ∙ append_assoc other.seen j.1.other_grows.rest t.0);
        },
        own_each j.0 last others j.2,
      )

  -- a mark of any seat is one of the last
  pub told_first : (seat last : SeatView) (others : List SeatView) → JoinsAll seat others last → seat.told ≡ true → last.told ≡ true
  told_first seat last [] j h = ap (λ (s : SeatView). s.told) (sym j) ∙ h
  told_first seat last (other ∷ others) j h = told_first j.0 last others j.2 (ap (λ (s : SeatView). s.told) j.1.seat ∙ ap (λ (b : Bool). b || other.told) h)

pub all_tail : {X : Type 0} (P : X → Type 0) (x : X) (xs : List X) → All P (x ∷ xs) → All P xs
all_tail P x xs a k d h = a (suc k) d (omega (arith, h))

-- the rights and the room of the last seat
pub rights_of_all : (seat last : SeatView) (others : List SeatView) → JoinsAll seat others last → last.rights ≡ fold united seat.rights (map (λ (s : SeatView). s.rights) others)
rights_of_all seat last [] j = ap (λ (s : SeatView). s.rights) (sym j)
rights_of_all seat last (other ∷ others) j =
    rights_of_all j.0 last others j.2 ∙ ap (λ (r : Rights). fold united r (map (λ (s : SeatView). s.rights) others)) (ap (λ (s : SeatView). s.rights) j.1.seat)

pub room_of_all : (seat last : SeatView) (others : List SeatView) → JoinsAll seat others last → last.room ≡ fold (λ a b. a + b) seat.room (map (λ (s : SeatView). s.room) others)
room_of_all seat last [] j = ap (λ (s : SeatView). s.room) (sym j)
room_of_all seat last (other ∷ others) j =
    room_of_all j.0 last others j.2 ∙ ap (λ (r : ℕ). fold (λ a b. a + b) r (map (λ (s : SeatView). s.room) others)) (ap (λ (s : SeatView). s.room) j.1.seat)

-- which of all has called `stop`
abbrev pub SomeCalled : List SeatView → Type 0
SomeCalled [] = ⊥
SomeCalled (other ∷ others) = (other.called ≡ true) ⊎ SomeCalled others

either : (a b : Bool) → (a || b) ≡ true → (a ≡ true) ⊎ (b ≡ true)
either true b e = inl refl
either false b e = inr e

pub called_by : (seat last : SeatView) (others : List SeatView) → JoinsAll seat others last → last.called ≡ true → (seat.called ≡ true) ⊎ SomeCalled others
called_by seat last [] j h = inl (ap (λ (s : SeatView). s.called) j ∙ h)
called_by seat last (other ∷ others) j h =
    ⊎_elim
    (λ e. ⊎_elim (λ p. inl p) (λ q. inr (inl q)) (either seat.called other.called (sym (ap (λ (s : SeatView). s.called) j.1.seat) ∙ e)))
    (λ s. inr (inr s))
    (called_by j.0 last others j.2 h)
