-- The store after binds, and the binds that a store takes.
use Rattle.std.specs.Prelude.{Bool, false, List, [], ◌∷◌, Option, Some, None}
use Rattle.std.specs.List.{list_all}
use Rattle.tb_terms.specs.declared.term.Term.{Term}
use Rattle.tb_terms.specs.declared.sort.Sort.{Sort}
use Rattle.tb_terms.specs.Sorts.{has_sort}
use Rattle.tb_func.specs.declared.slot.Slot.{Slot}
use Rattle.tb_func.specs.Stores.{sort_at, with_value}
use Rattle.tb_match.specs.declared.bind.Bind.{Bind}

-- the store after these binds, set one after another
abbrev pub with_binds : List Slot → List Bind → List Slot
with_binds slots [] = slots
with_binds slots (bind ∷ binds) = with_binds (with_value slots bind.slot bind.value) binds

-- the slot exists, and the term has its type
abbrev pub has_slot_sort : Option Sort → Term → Bool
has_slot_sort None term = false
has_slot_sort (Some sort) term = has_sort term sort

abbrev pub takes_bind : List Slot → Bind → Bool
takes_bind slots bind = has_slot_sort (sort_at slots bind.slot) bind.value

-- each bind's slot exists, and each value has the type of its slot
abbrev pub takes_binds : List Slot → List Bind → Bool
takes_binds slots binds = list_all (takes_bind slots) binds
