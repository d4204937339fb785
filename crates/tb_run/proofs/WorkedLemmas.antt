-- The seats that the first seat of a bus has split off, from when each was new until it was joined again, and the state of the last seat
-- after all seats were joined to it.
use Rattle.std.proofs.Common.{◌≡◌, ◌+◌, ℕ, suc, List, [], ◌∷◌, ◌++◌, map, length, Bool, true, false, nat_lt, Option, None, MatchOption, if◌then◌else◌, refl, sym, ap, ◌∙◌, subst, arith}
use Rattle.std.specs.Prelude.{⊤}
use Rattle.std.specs.List.{fold}
use Rattle.tb_log.specs.declared.entry.Entry.{Entry}
use Rattle.tb_bus.specs.Buses.{start}
use Rattle.tb_bus.specs.Traces.{IsTrace}
use Rattle.tb_bus.specs.declared.origin.Origin.{Origin}
use Rattle.tb_lock.specs.declared.rights.Rights.{Rights}
use Rattle.tb_lock.specs.Rights.{united}
use Rattle.tb_lock.specs.Seats.{SeatView, joined}
use Rattle.tb_lock.specs.Histories.{IsSparse, longer}
use Rattle.tb_lock.proofs.HistoryLemmas.{sparse_nil}
use Rattle.tb_run.specs.declared.ends.WorkEnd.{WorkEnd}
use Rattle.tb_run.specs.Joining.{JoinsAll}
use Rattle.tb_run.specs.Seats.{Adds, Marks, SeesTrace}
use Rattle.tb_run.proofs.JoinLemmas.{AllKept, rights_of_all, room_of_all}
use Rattle.tb_run.proofs.SeatLemmas.{adds_none}

-- a seat that the first seat of a bus has passed on, and that has not been used
pub record IsNew (first seat : SeatView) : Type 0 where
  pub bus : seat.bus ≡ first.bus
  pub origin : seat.origin ≡ first.origin
  pub seen : seat.seen ≡ []
  pub called : seat.called ≡ false
  pub room : seat.room ≡ 1

abbrev pub EachNew : SeatView → List SeatView → Type 0
EachNew first [] = ⊤
EachNew first (seat ∷ seats) = IsNew first seat × EachNew first seats

-- A seat that the first seat of a bus has passed on, when it was new and when it was given back; and why its worker ended, if it had one
-- that reports.
pub record Worked (first : SeatView) : Type 0 where
  pub begun : SeatView
  pub done : SeatView
  pub new : IsNew first begun
  pub more : List Entry
  pub adds : Adds begun done more
  pub end : Option WorkEnd
  pub marks : MatchOption end ⊤ (Marks begun done)

-- the seats as they were given back
abbrev pub seats_of : {first : SeatView} → List (Worked first) → List SeatView
seats_of [] = []
seats_of (worked ∷ rest) = worked.done ∷ seats_of rest

-- the rights that they had
abbrev pub rights_of : {first : SeatView} → List (Worked first) → List Rights
rights_of [] = []
rights_of (worked ∷ rest) = worked.begun.rights ∷ rights_of rest

-- seats that nobody has used
abbrev pub unused_of : (first : SeatView) (seats : List SeatView) → EachNew first seats → List (Worked first)
unused_of first [] n = []
unused_of first (seat ∷ seats) n = record { begun = seat; done = seat; new = n.0; more = []; adds = adds_none seat; end = None; marks = tt } ∷ unused_of first seats n.1

pub seats_unused : (first : SeatView) (seats : List SeatView) (n : EachNew first seats) → seats_of (unused_of first seats n) ≡ seats
seats_unused first [] n = refl
seats_unused first (seat ∷ seats) n = ap (λ (ss : List SeatView). seat ∷ ss) (seats_unused first seats n.1)

pub count_unused : (first : SeatView) (seats : List SeatView) (n : EachNew first seats) → length (unused_of first seats n) ≡ length seats
count_unused first [] n = refl
count_unused first (seat ∷ seats) n = ap suc (count_unused first seats n.1)

pub rights_unused : (first : SeatView) (seats : List SeatView) (n : EachNew first seats) → rights_of (unused_of first seats n) ≡ map (λ (s : SeatView). s.rights) seats
rights_unused first [] n = refl
rights_unused first (seat ∷ seats) n = ap (λ (rs : List Rights). seat.rights ∷ rs) (rights_unused first seats n.1)

pub new_append : (first : SeatView) (one other : List SeatView) → EachNew first one → EachNew first other → EachNew first (one ++ other)
new_append first [] other a b = b
new_append first (seat ∷ one) other a b = (a.0, new_append first one other a.1 b)

-- of those before and of those after
pub seats_append : {first : SeatView} (one other : List (Worked first)) → seats_of (one ++ other) ≡ seats_of one ++ seats_of other
seats_append [] other = refl
seats_append (worked ∷ one) other = ap (λ (ss : List SeatView). worked.done ∷ ss) (seats_append one other)

pub rights_append : {first : SeatView} (one other : List (Worked first)) → rights_of (one ++ other) ≡ rights_of one ++ rights_of other
rights_append [] other = refl
rights_append (worked ∷ one) other = ap (λ (rs : List Rights). worked.begun.rights ∷ rs) (rights_append one other)

pub kept_before : (last : SeatView) (one other : List SeatView) → AllKept last (one ++ other) → AllKept last one
kept_before last [] other k = tt
kept_before last (seat ∷ one) other k = (k.0, kept_before last one other k.1)

pub kept_behind : (last : SeatView) (one other : List SeatView) → AllKept last (one ++ other) → AllKept last other
kept_behind last [] other k = k
kept_behind last (seat ∷ one) other k = kept_behind last one other k.1

-- a seat that has seen nothing sees a trace
pub sees_nothing : (seat : SeatView) → seat.seen ≡ [] → SeesTrace seat
sees_nothing seat e = record {
  trace = subst (IsTrace (start seat.origin)) (sym e) tt;
  sparse = subst IsSparse (sym e) sparse_nil;
}

-- all have seen a trace of the origin of the bus
abbrev pub EachSees : Origin → List SeatView → Type 0
EachSees origin [] = ⊤
EachSees origin (s ∷ ss) = (s.origin ≡ origin) × SeesTrace s × EachSees origin ss

-- the origin and the bus of the last seat are those of the first
pub origin_of_all : (seat last : SeatView) (others : List SeatView) → JoinsAll seat others last → last.origin ≡ seat.origin
origin_of_all seat last [] j = ap (λ (s : SeatView). s.origin) (sym j)
origin_of_all seat last (other ∷ others) j = origin_of_all j.0 last others j.2 ∙ ap (λ (s : SeatView). s.origin) j.1.seat

pub bus_of_all : (seat last : SeatView) (others : List SeatView) → JoinsAll seat others last → last.bus ≡ seat.bus
bus_of_all seat last [] j = ap (λ (s : SeatView). s.bus) (sym j)
bus_of_all seat last (other ∷ others) j = bus_of_all j.0 last others j.2 ∙ ap (λ (s : SeatView). s.bus) j.1.seat

-- it has seen a trace, since each had
joined_sees : (seat other : SeatView) → SeesTrace seat → other.origin ≡ seat.origin → SeesTrace other → SeesTrace (joined seat other)
joined_sees seat other a same b = go (nat_lt (length seat.seen) (length other.seen))
  where
    go : (c : Bool) → SeesTrace (record (joined seat other) { seen = if c then other.seen else seat.seen })
    go true = record { trace = subst (λ (o : Origin). IsTrace (start o) other.seen) same b.trace; sparse = b.sparse }
    go false = record { trace = a.trace; sparse = a.sparse }

pub sees_of_all : (origin : Origin) (seat last : SeatView) (others : List SeatView) → JoinsAll seat others last → seat.origin ≡ origin → SeesTrace seat → EachSees origin others → SeesTrace last
sees_of_all origin seat last [] j o s e = subst SeesTrace j s
sees_of_all origin seat last (other ∷ others) j o s e =
    sees_of_all origin j.0 last others j.2 (ap (λ (s : SeatView). s.origin) j.1.seat ∙ o) (subst SeesTrace (sym j.1.seat) (joined_sees seat other s (e.0 ∙ sym o) e.1)) e.2

-- the first seat of a bus, with the rights and the room that it has kept
pub record IsFirst (first kept : SeatView) : Type 0 where
  pub bus : kept.bus ≡ first.bus
  pub origin : kept.origin ≡ first.origin
  pub seen : kept.seen ≡ []
  pub called : kept.called ≡ false

each_sees : {first : SeatView} (all : List (Worked first)) → EachSees first.origin (seats_of all)
each_sees [] = tt
each_sees (worked ∷ rest) = (worked.adds.origin ∙ worked.new.origin, worked.adds.trace (sees_nothing worked.begun worked.new.seen), each_sees rest)

rights_stay : {first : SeatView} (all : List (Worked first)) → map (λ (s : SeatView). s.rights) (seats_of all) ≡ rights_of all
rights_stay [] = refl
rights_stay (worked ∷ rest) = ap (λ (r : Rights). r ∷ map (λ (s : SeatView). s.rights) (seats_of rest)) worked.adds.rights ∙ ap (λ (rs : List Rights). worked.begun.rights ∷ rs) (rights_stay rest)

rooms_stay : {first : SeatView} (all : List (Worked first)) (n : ℕ) → fold (λ (a b : ℕ). a + b) n (map (λ (s : SeatView). s.room) (seats_of all)) ≡ n + length all
rooms_stay [] n = let e : n ≡ n + 0 = omega arith in e
rooms_stay (worked ∷ rest) n =
    let one : worked.done.room ≡ 1 = worked.adds.room ∙ worked.new.room in
    let so : n + worked.done.room + length rest ≡ n + suc (length rest) = omega (arith, one) in
    rooms_stay rest (n + worked.done.room) ∙ so

-- What the last seat has, in which all these and the first have become one.
pub record Unites (first kept last : SeatView) (all : List (Worked first)) : Type 0 where
  pub bus : last.bus ≡ first.bus
  pub origin : last.origin ≡ first.origin
  pub rights : last.rights ≡ fold united kept.rights (rights_of all)
  pub room : last.room ≡ kept.room + length all
  pub sees : SeesTrace last

pub unites : (first kept last : SeatView) (all : List (Worked first)) → IsFirst first kept → JoinsAll kept (seats_of all) last → Unites first kept last all
unites first kept last all is joins = record {
  bus = bus_of_all kept last (seats_of all) joins ∙ is.bus;
  origin = origin_of_all kept last (seats_of all) joins ∙ is.origin;
  rights = rights_of_all kept last (seats_of all) joins ∙ ap (λ (rs : List Rights). fold united kept.rights rs) (rights_stay all);
  room = room_of_all kept last (seats_of all) joins ∙ rooms_stay all kept.room;
  sees = sees_of_all first.origin kept last (seats_of all) joins is.origin (sees_nothing kept is.seen) (each_sees all);
}

-- where none of them has seen anything, nor has the last
pub seen_of_all : (first seat last : SeatView) (others : List SeatView) → JoinsAll seat others last → seat.seen ≡ [] → EachNew first others → last.seen ≡ []
seen_of_all first seat last [] j e n = ap (λ (s : SeatView). s.seen) (sym j) ∙ e
seen_of_all first seat last (other ∷ others) j e n =
    seen_of_all first j.0 last others j.2
    (ap (λ (s : SeatView). s.seen) j.1.seat ∙ (ap (λ (s : List Entry). longer s other.seen) e ∙ ap (λ (s : List Entry). longer [] s) n.0.seen)) n.1
