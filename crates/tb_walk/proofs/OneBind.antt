-- A single bind that a store takes.
use Rattle.std.proofs.Common.{◌≡◌, ℕ, zero, suc, ◌<◌, true, false, IsTrue, List, [], ◌∷◌, ◌++◌, length, Option, Some, None, ap, subst, arith, length-append}
use Rattle.std.specs.Option.{ForSome}
use Rattle.std.proofs.lemmas.Bool.{and_parts}
use Rattle.tb_terms.specs.declared.term.Term.{Term}
use Rattle.tb_terms.specs.declared.sort.Sort.{Sort}
use Rattle.tb_terms.specs.Sorts.{has_sort}
use Rattle.tb_func.specs.declared.slot.Slot.{Slot}
use Rattle.tb_func.specs.Stores.{sort_at}
use Rattle.tb_match.specs.declared.bind.Bind.{Bind}
use Rattle.tb_process_steps.specs.Binds.{has_slot_sort, takes_bind, takes_binds}

pub only : (rest : List Bind) (bind : Bind) (binds : List Bind) → binds ≡ rest ++ bind ∷ [] → length binds ≡ 1 → binds ≡ bind ∷ []
only [] bind binds e h = e
only (first ∷ rest) bind binds e h = (let l = length-append rest (bind ∷ []) in let k = ap length e in absurd (omega arith))

pub taken_one : (slots : List Slot) (bind : Bind) (binds : List Bind) → binds ≡ bind ∷ [] → IsTrue (takes_binds slots binds) → takes_bind slots bind ≡ true
taken_one slots bind binds e h =
    let all : takes_binds slots (bind ∷ []) ≡ true = subst (λ (l : List Bind). takes_binds slots l ≡ true) e h in
    (and_parts (takes_bind slots bind) true all).0

pub in_range : (slots : List Slot) (at : ℕ) (value : Term) → has_slot_sort (sort_at slots at) value ≡ true → at < length slots
in_range [] at value h = (let no : false ≡ true = h in cc)
in_range (slot ∷ slots) zero value h = omega arith
in_range (slot ∷ slots) (suc at) value h = (let k = in_range slots at value h in omega arith)

pub sorted : (o : Option Sort) (value : Term) → has_slot_sort o value ≡ true → ForSome o (λ sort. IsTrue (has_sort value sort))
sorted None value h = λ sort e. (let no : ◌≡◌ {A = Option Sort} None (Some sort) = e in cc)
sorted (Some found) value h = λ sort e.
    (let same : found ≡ sort = (let t : ◌≡◌ {A = Option Sort} (Some found) (Some sort) = e in cc) in
    subst (λ (s : Sort). has_sort value s ≡ true) same h)
