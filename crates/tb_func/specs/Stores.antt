-- The slots of a store, each with a type and a value: their initial values, and the change of one value.
use Rattle.std.specs.Prelude.{ℕ, zero, suc, Bool, List, [], ◌∷◌, Option, option_map, slice_get}
use Rattle.std.specs.List.{list_all}
use Rattle.tb_terms.specs.declared.term.Term.{Term}
use Rattle.tb_terms.specs.declared.sort.Sort.{Sort}
use Rattle.tb_terms.specs.Sorts.{has_sort, initial_value}
use Rattle.tb_func.specs.declared.slot.Slot.{Slot}

-- the value of the slot has the type of the slot
abbrev pub is_well_sorted : Slot → Bool
is_well_sorted slot = has_sort slot.value slot.sort

abbrev pub are_well_sorted : List Slot → Bool
are_well_sorted slots = list_all is_well_sorted slots

-- a slot with the initial value of its type
abbrev pub fresh_slot : Sort → Slot
fresh_slot sort = record { sort = sort; value = initial_value sort }

abbrev pub sort_at : List Slot → ℕ → Option Sort
sort_at slots at = option_map (λ (slot : Slot). slot.sort) (slice_get slots at)

abbrev pub value_at : List Slot → ℕ → Option Term
value_at slots at = option_map (λ (slot : Slot). slot.value) (slice_get slots at)

-- the slots, with another value at this position; unchanged if there is no such slot
abbrev pub with_value : List Slot → ℕ → Term → List Slot
with_value [] at term = []
with_value (slot ∷ slots) zero term = record slot { value = term } ∷ slots
with_value (slot ∷ slots) (suc at) term = slot ∷ with_value slots at term
