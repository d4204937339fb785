-- The rest and the store of the offer at an index; past the last offer, the index minus the number of offers.
use Rattle.std.specs.Prelude.{ℕ, zero, suc, Bool, true, false, List, [], ◌∷◌, Option, Some, None, option_map}
use Rattle.tb_func.specs.declared.slot.Slot.{Slot}
use Rattle.tb_process_steps.specs.Processes.{Process}
use Rattle.tb_process_steps.specs.Offers.{Offered, offers}
use Rattle.tb_process_steps.specs.Helpers.Runnings.{term_of, is_on}
use Rattle.tb_process_steps.specs.Helpers.OfferViews.{or_own}
use Rattle.tb_process_steps.specs.declared.node.Node.{Node}
use Rattle.tb_process_steps.specs.declared.running.Running.{Running}
use Rattle.tb_process_steps.specs.declared.fired.Fired.{Fired}
use Rattle.tb_process_steps.specs.declared.fired.Fired.TheVariants as fired

pub data Selected : Type 0 where
  Past : ℕ → Selected
  On : Option Process → List Slot → Selected

abbrev pub selected_at : ℕ → List Offered → Selected
selected_at k [] = Past k
selected_at zero (offered ∷ others) = On offered.residual offered.store
selected_at (suc k) (offered ∷ others) = selected_at k others

-- the offer of a term at this index
unfoldable pub selected : Process → List Slot → ℕ → Selected
selected term store k = selected_at k (offers term store)

-- the selection with a changed rest
abbrev pub selected_with : (Option Process → Option Process) → Selected → Selected
selected_with f (Past rest) = Past rest
selected_with f (On left store) = On (f left) store

-- past the last offer, the selection in the next list
abbrev pub or_past : Selected → (ℕ → Selected) → Selected
or_past (Past rest) next = next rest
or_past (On left store) next = On left store

-- the part that the truth value of a test selects
abbrev pub chosen : Option Bool → ℕ → Option ℕ → Option ℕ
chosen (Some true) x y = Some x
chosen (Some false) x y = y
chosen None x y = None

-- the selection that a result of the search represents, in a process with this store
abbrev pub selected_of : List Node → ℕ → List Slot → Fired → Selected
selected_of nodes ticks base (fired.Past rest) = Past rest
selected_of nodes ticks base (fired.Taken left own) = On (option_map (term_of nodes ticks) left) (or_own own base)

-- each part of the rest is a node of the plan
abbrev pub is_left_on : List Node → ℕ → Option Running → Bool
is_left_on nodes ticks None = true
is_left_on nodes ticks (Some term) = is_on nodes ticks term

abbrev pub is_fired_on : List Node → ℕ → Fired → Bool
is_fired_on nodes ticks (fired.Past rest) = true
is_fired_on nodes ticks (fired.Taken left own) = is_left_on nodes ticks left
