-- The facts that a look keeps of each offer of a term.
use Rattle.std.specs.Prelude.{ℕ, Bool, List, map, Option, Some, None}
use Rattle.tb_func.specs.declared.slot.Slot.{Slot}
use Rattle.tb_body.specs.declared.atom.Atom.{Atom}
use Rattle.tb_process_steps.specs.Processes.{Process}
use Rattle.tb_process_steps.specs.Offers.{Offered, offers}
use Rattle.tb_process_steps.specs.Atoms.{is_ready, times_of}
use Rattle.tb_process_steps.specs.declared.found.Found.{Found}

-- an offer without its rest, and whether it is ready
pub record OfferView : Type 0 where
  pub atom : ℕ
  pub age : ℕ
  pub ready : Bool
  pub store : List Slot

abbrev pub offer_view : List Atom → ℕ → Offered → OfferView
offer_view atoms now offered = record { atom = offered.atom; age = offered.age; ready = is_ready offered.store offered.age now (times_of atoms offered.atom); store = offered.store }

-- the offers of a term, at this number of ticks of the bus
unfoldable pub offer_views : List Atom → ℕ → Process → List Slot → List OfferView
offer_views atoms now term store = map (offer_view atoms now) (offers term store)

-- the store that a `let` made; without one, the store of the process
abbrev pub or_own : Option (List Slot) → List Slot → List Slot
or_own None base = base
or_own (Some own) base = own

-- a found offer, in a process with this store
abbrev pub shown : List Slot → Found → OfferView
shown base found = record { atom = found.atom; age = found.age; ready = found.ready; store = or_own found.own base }
