-- The change of one slot of a store, and that each slot stays well-sorted: its value has its type.
use Rattle.std.proofs.Common.{◌≡◌, ℕ, zero, suc, ◌<◌, true, Option, Some, List, [], ◌∷◌, get_or, set, length, refl, ap, sym, arith}
use Rattle.std.proofs.lemmas.Bool.{and_from, and_parts}
use Rattle.tb_terms.specs.declared.term.Term.{Term}
use Rattle.tb_terms.specs.declared.sort.Sort.{Sort}
use Rattle.tb_func.specs.declared.slot.Slot.{Slot}
use Rattle.tb_func.specs.Stores.{with_value, are_well_sorted, is_well_sorted, sort_at}

-- a write of one field is a write of the slot
pub set-with_value : (slots : List Slot) (at : ℕ) (term : Term) (slot : Slot) → at < length slots → slot ≡ get_or slots at slot → set slots at (record slot { value = term }) ≡ with_value slots at term
set-with_value [] at term slot h e = refl
set-with_value (s ∷ slots) zero term slot h e = ap (λ (t : Slot). record t { value = term } ∷ slots) e
set-with_value (s ∷ slots) (suc at) term slot h e = ap (λ rest. s ∷ rest) (set-with_value slots at term slot (omega arith) e)

pub sort_at-get_or : (slots : List Slot) (at : ℕ) (slot : Slot) → at < length slots → slot ≡ get_or slots at slot → ◌≡◌ {A = Option Sort} (sort_at slots at) (Some slot.sort)
sort_at-get_or [] at slot h e = absurd (omega arith)
sort_at-get_or (s ∷ slots) zero slot h e = ap (λ (t : Slot). Some t.sort) (sym e)
sort_at-get_or (s ∷ slots) (suc at) slot h e = sort_at-get_or slots at slot (omega arith) e

pub are_well_sorted-set : (slots : List Slot) (at : ℕ) (slot : Slot) → are_well_sorted slots ≡ true → is_well_sorted slot ≡ true → are_well_sorted (set slots at slot) ≡ true
are_well_sorted-set [] at slot h k = refl
are_well_sorted-set (s ∷ slots) zero slot h k =
    let parts = and_parts (is_well_sorted s) (are_well_sorted slots) h in
    and_from (is_well_sorted slot) (are_well_sorted slots) k parts.1
are_well_sorted-set (s ∷ slots) (suc at) slot h k =
    let parts = and_parts (is_well_sorted s) (are_well_sorted slots) h in
    and_from (is_well_sorted s) (are_well_sorted (set slots at slot)) parts.0 (are_well_sorted-set slots at slot parts.1 k)
