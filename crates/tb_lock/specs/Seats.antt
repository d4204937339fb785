-- What contracts see of a handle, and the results of opening, splitting, and joining handles.
use Rattle.std.specs.Prelude.{◌≡◌, ℕ, ◌+◌, ◌-◌, List, [], Bool, true, false, ◌||◌, ◌⊎◌, refl}
use Rattle.std.specs.Coded.{Coded, code_by, coded×, coded⊎, coded_ℕ, coded_bool, coded_list}
use mathlib.Core.Logic.{inl, inr}
use base.Stored.{coded_unit}
use Rattle.atomic_table.specs.Seated.{TableId, table_id_coded}
use Rattle.tb_body.specs.Programs.{is_program_in_range}
use Rattle.tb_log.specs.declared.entry.Entry.{Entry}
use Rattle.tb_log.specs.contracts.entry.Entry as entry
use Rattle.tb_bus.specs.declared.origin.Origin.{Origin}
use Rattle.tb_bus.specs.contracts.origin.Origin as origin
use Rattle.tb_lock.specs.declared.rights.Rights.{Rights}
use Rattle.tb_lock.specs.contracts.rights.Rights as rights
use Rattle.tb_lock.specs.Rights.{all_rights, no_rights, without, united}
use Rattle.tb_lock.specs.Histories.{Own, longer, merged}

-- The stage of a handle within its call. Between two calls, a handle is idle.
pub data Stage : Type 0 where
  -- the one handle of a bus that is being made: its turn is the first, and no core is there yet
  Opening : Stage
  Idle : Stage
  -- it has drawn this ticket
  Waiting : ℕ → Stage
  -- its turn is open: its ticket, and whether the taken core is stopped
  Serving : ℕ → Bool → Stage
  -- it was just joined with another: the entries that each had seen, with its rights
  Joined : List Entry → Rights → List Entry → Rights → Stage

-- what contracts see of a handle
pub record SeatView : Type 0 where
  -- the bus of the handle, and the origin of this bus
  pub bus : TableId
  pub origin : Origin
  -- the history, as far as the handle has seen it
  pub seen : List Entry
  -- the entries that the handle's own calls have made, with their indices in the history
  pub mine : List Own
  pub rights : Rights
  -- its quota: the number of handles that it can become, itself included
  pub room : ℕ
  -- this handle, or one that joined it, has called `stop`
  pub called : Bool
  -- this handle, or one that joined it, has called `stop` or received `Stopped`
  pub told : Bool
  pub stage : Stage

abbrev stage_parts : Stage → (Unit {0} ⊎ Unit {0}) ⊎ (ℕ ⊎ ((ℕ × Bool) ⊎ (List Entry × (Rights × (List Entry × Rights)))))
stage_parts Opening = inl (inl tt)
stage_parts Idle = inl (inr tt)
stage_parts (Waiting ticket) = inr (inl ticket)
stage_parts (Serving ticket mark) = inr (inr (inl (ticket, mark)))
stage_parts (Joined one rights other more) = inr (inr (inr (one, (rights, (other, more)))))

abbrev stage_of : (Unit {0} ⊎ Unit {0}) ⊎ (ℕ ⊎ ((ℕ × Bool) ⊎ (List Entry × (Rights × (List Entry × Rights))))) → Stage
stage_of (inl (inl _)) = Opening
stage_of (inl (inr _)) = Idle
stage_of (inr (inl ticket)) = Waiting ticket
stage_of (inr (inr (inl t))) = Serving t.0 t.1
stage_of (inr (inr (inr t))) = Joined t.0 t.1.0 t.1.1.0 t.1.1.1

pub stage_back : (stage : Stage) → stage_of (stage_parts stage) ≡ stage
stage_back Opening = refl
stage_back Idle = refl
stage_back (Waiting ticket) = refl
stage_back (Serving ticket mark) = refl
stage_back (Joined one rights other more) = refl

abbrev entries_code : Coded (List Entry)
entries_code = coded_list entry.the_row.coded

abbrev rights_code : Coded Rights
rights_code = rights.the_row.coded

abbrev stage_code : Coded Stage
stage_code =
    code_by ((Unit {0} ⊎ Unit {0}) ⊎ (ℕ ⊎ ((ℕ × Bool) ⊎ (List Entry × (Rights × (List Entry × Rights))))))
    (coded⊎ (coded⊎ coded_unit coded_unit) (coded⊎ coded_ℕ (coded⊎ (coded× coded_ℕ coded_bool) (coded× entries_code (coded× rights_code (coded× entries_code rights_code))))))
    stage_parts stage_of stage_back

abbrev own_code : Coded Own
own_code = code_by (ℕ × Entry) (coded× coded_ℕ entry.the_row.coded) (λ own. (own.index, own.entry)) (λ t. record { index = t.0; entry = t.1 }) (λ _. refl)

abbrev pub seat_code : Coded SeatView
seat_code =
    code_by (TableId × (Origin × (List Entry × (List Own × (Rights × (ℕ × (Bool × (Bool × Stage))))))))
    (coded× table_id_coded (coded× origin.the_row.coded (coded× entries_code (coded× (coded_list own_code) (coded× rights_code (coded× coded_ℕ (coded× coded_bool (coded× coded_bool stage_code))))))))
    (λ s. (s.bus, (s.origin, (s.seen, (s.mine, (s.rights, (s.room, (s.called, (s.told, s.stage)))))))))
    (λ t. record { bus = t.0; origin = t.1.0; seen = t.1.1.0; mine = t.1.1.1.0; rights = t.1.1.1.1.0; room = t.1.1.1.1.1.0; called = t.1.1.1.1.1.1.0; told = t.1.1.1.1.1.1.1.0; stage = t.1.1.1.1.1.1.1.1 })
    (λ _. refl)

-- the name of no bus
abbrev pub no_bus : TableId
no_bus = record { words = 0; slots = 0; views_name = 0; atom = 0; block = 0; offset = 0; slot_names = [] }

pub no_program : is_program_in_range [] [] [] ≡ true
unfolding is_program_in_range
no_program = refl

abbrev pub no_origin : Origin
no_origin = record { program = record { bodies = []; roots = []; tools = []; in_range = no_program }; connects = []; limit = 0 }

-- the view that is left of a handle after it was joined to another
abbrev pub nobody : SeatView
nobody = record { bus = no_bus; origin = no_origin; seen = []; mine = []; rights = no_rights; room = 0; called = false; told = false; stage = Idle }

-- the greatest number of handles of a bus, which is the first handle's quota
abbrev pub most_seats : ℕ
most_seats = 64

-- the first handle of a bus, which has all rights
abbrev pub first_seat : TableId → Origin → SeatView
first_seat bus origin = record { bus = bus; origin = origin; seen = []; mine = []; rights = all_rights; room = most_seats; called = false; told = false; stage = Idle }

-- a handle after a split that gives these rights to a new handle
abbrev pub kept_of : Rights → SeatView → SeatView
kept_of gone seat = record seat { rights = without seat.rights gone; room = seat.room - 1 }

-- the new handle of this split: it has these rights, has seen as much as the old one, and has no own entries
abbrev pub handed_on : Rights → SeatView → SeatView
handed_on gone seat = record seat { mine = []; rights = gone; room = 1; called = false; told = false }

-- the join of two handles
abbrev pub joined : SeatView → SeatView → SeatView
joined seat other = record seat {
  seen = longer seat.seen other.seen;
  mine = merged seat.mine other.mine;
  rights = united seat.rights other.rights;
  room = seat.room + other.room;
  called = seat.called || other.called;
  told = seat.told || other.told;
}
