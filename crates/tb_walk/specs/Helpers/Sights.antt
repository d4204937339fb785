-- The offers that a look finds, each with its branch and its position.
use Rattle.std.specs.Prelude.{ℕ, suc, ◌+◌, ◌-◌, Bool, true, false, List, [], ◌∷◌, ◌++◌, Option, Some, None}
use Rattle.tb_func.specs.declared.slot.Slot.{Slot}
use Rattle.tb_body.specs.declared.atom.Atom.{Atom}
use Rattle.tb_process_steps.specs.Atoms.{is_ready, times_of}
use Rattle.tb_process_steps.specs.Processes.{Process, At, Seq, Alt, Star, Par, Disrupt, If, When, Let}
use Rattle.tb_process_steps.specs.Settings.{tested, with_settings}
use Rattle.tb_process_steps.specs.Helpers.OfferViews.{OfferView, or_own}
use Rattle.tb_process_steps.specs.declared.offer.Offer.{Offer}
use Rattle.tb_code.specs.Entries.{followed}
use Rattle.tb_code.specs.Positions.{size, part}
use Rattle.tb_code.specs.declared.behind.Behind.{Behind}
use Rattle.tb_code.specs.declared.behind.Behind.TheVariants as behind
use Rattle.tb_code.specs.declared.entry.Entry.{Entry}
use Rattle.tb_code.specs.declared.entry.What.{What}
use Rattle.tb_code.specs.declared.entry.What.TheVariants as what
use Rattle.tb_walk.specs.Helpers.Places.{outset_at, root_at}
use Rattle.tb_walk.specs.declared.branch.Branch.{Branch}
use Rattle.tb_walk.specs.declared.look.Clock.{Clock}
use Rattle.tb_walk.specs.declared.sight.Sight.{Sight}

-- an offer, the index of its branch, the position of its atom, and the effect on the branch's part when the atom happens
pub record Sighting : Type 0 where
  pub branch : ℕ
  pub position : ℕ
  pub behind : Behind
  pub seen : OfferView

-- the offer that a call returns for a found offer
abbrev pub offer_of : Sight → Offer
offer_of sight = record { atom = sight.atom; age = sight.age; ready = sight.ready }

-- a found offer, in a process with this store
abbrev pub sighted : List Slot → Sight → Sighting
sighted base sight = record {
  branch = sight.branch;
  position = sight.position;
  behind = sight.behind;
  seen = record { atom = sight.atom; age = sight.age; ready = sight.ready; store = or_own sight.own base };
}

-- the arguments of a look: the atoms, the index of the branch, its age, and the ticks of the bus
pub record Looking : Type 0 where
  pub atoms : List Atom
  pub branch : ℕ
  pub age : ℕ
  pub now : ℕ

abbrev pub looking : List Atom → Clock → Looking
looking atoms clock = record { atoms = atoms; branch = clock.branch; age = clock.ticks - clock.entered; now = clock.bus }

-- the offer of an atom at a position
abbrev pub sighting_at : Looking → Behind → ℕ → ℕ → List Slot → Sighting
sighting_at by so_far at atom store = record {
  branch = by.branch;
  position = at;
  behind = so_far;
  seen = record { atom = atom; age = by.age; ready = is_ready store by.age by.now (times_of by.atoms atom); store = store };
}

-- the offer of an atom without times, which is ready
abbrev pub ready_sighting : Looking → Behind → ℕ → ℕ → List Slot → Sighting
ready_sighting by so_far at atom store = record {
  branch = by.branch;
  position = at;
  behind = so_far;
  seen = record { atom = atom; age = by.age; ready = true; store = store };
}

-- the offers of the side that a truth value selects; none without a truth value
abbrev pub sightings_if : Option Bool → List Sighting → List Sighting → List Sighting
sightings_if (Some true) then_side else_side = then_side
sightings_if (Some false) then_side else_side = else_side
sightings_if None then_side else_side = []

-- the offers in the given store; none without a store
abbrev pub sightings_after : Option (List Slot) → (List Slot → List Sighting) → List Sighting
sightings_after None f = []
sightings_after (Some store) f = f store

-- The offers of a part whose positions begin here and that has taken no step yet. `so_far` is the effect of the part's end.
abbrev pub sightings : Looking → Behind → ℕ → Process → List Slot → List Sighting
sightings by so_far at (At atom age) store = sighting_at by so_far at atom store ∷ []
sightings by so_far at (Seq x y) store = sightings by (followed (behind.Entered (suc at + size x)) so_far) (suc at) x store
sightings by so_far at (Alt x y) store = sightings by so_far (suc at) x store ++ sightings by so_far (suc at + size x) y store
sightings by so_far at (Star x y) store = sightings by (followed (behind.Entered at) so_far) (suc at) x store ++ sightings by so_far (suc at + size x) y store
sightings by so_far at (Par x y) store = sightings by behind.Parted (suc at) x store ++ sightings by behind.Parted (suc at + size x) y store
sightings by so_far at (Disrupt x y) store = sightings by behind.Parted (suc at) x store ++ sightings by so_far (suc (suc at + size x)) y store
sightings by so_far at (If test x y) store = sightings_if (tested store test) (sightings by so_far (suc at) x store) (sightings by so_far (suc at + size x) y store)
sightings by so_far at (When test x) store = sightings_if (tested store test) (sightings by so_far (suc at) x store) []
sightings by so_far at (Let settings x) store = sightings_after (with_settings store settings) (sightings by so_far (suc at) x)

-- the offers of the part at a position
abbrev pub sightings_at : Process → Looking → Behind → ℕ → List Slot → List Sighting
sightings_at whole by so_far at store = sightings by (followed (outset_at whole at) so_far) (root_at whole at) (part whole at) store

-- the offers of an entry of a list: the offer of the atom, or the offers of the gate's part
abbrev pub seen_by : Process → Looking → List Slot → ℕ → Behind → What → List Sighting
seen_by whole by store at so_far (what.Atom atom) = ready_sighting by so_far at atom store ∷ []
seen_by whole by store at so_far (what.Timed atom) = sighting_at by so_far at atom store ∷ []
seen_by whole by store at so_far what.Gate = sightings_at whole by so_far at store

-- the offers of an entry of a list
abbrev pub entry_sightings : Process → Looking → List Slot → Entry → List Sighting
entry_sightings whole by store entry = seen_by whole by store entry.position entry.behind entry.what

-- the offers of the branch at this index
abbrev pub branch_sightings : Process → List Atom → ℕ → ℕ → List Slot → ℕ → Branch → List Sighting
branch_sightings whole atoms now ticks store at branch =
    sightings_at whole (record { atoms = atoms; branch = at; age = ticks - branch.entered; now = now }) behind.Ended branch.position store

-- the offers of a row's branches; the first branch has this index
abbrev pub row_sightings : Process → List Atom → ℕ → ℕ → List Slot → ℕ → List Branch → List Sighting
row_sightings whole atoms now ticks store at [] = []
row_sightings whole atoms now ticks store at (branch ∷ row) =
    branch_sightings whole atoms now ticks store at branch ++ row_sightings whole atoms now ticks store (suc at) row
