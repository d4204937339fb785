-- Setting binds keeps the types of the store. The values that settings give have the types of their slots.
use Rattle.std.proofs.Common.{◌≡◌, ℕ, zero, suc, Bool, true, false, ◌&&◌, Option, Some, None, List, [], ◌∷◌, map, option_map, slice_get, remove, refl, ap, sym, ◌∙◌, subst, if◌then◌else◌}
use Rattle.std.proofs.lemmas.Bool.{and_from, and_parts}
use Rattle.tb_terms.specs.declared.term.Term.{Term}
use Rattle.tb_terms.specs.declared.sort.Sort.{Sort}
use Rattle.tb_terms.specs.Sorts.{has_sort}
use Rattle.tb_func.specs.declared.slot.Slot.{Slot}
use Rattle.tb_func.specs.Arguments.{of_both}
use Rattle.tb_func.specs.Stores.{with_value, sort_at}
use Rattle.tb_func.specs.Values.{all_of}
use Rattle.tb_match.specs.declared.bind.Bind.{Bind}
use Rattle.tb_body.specs.declared.tree.Setting.{Setting}
use Rattle.tb_process_steps.specs.Binds.{takes_bind, takes_binds, with_binds, has_slot_sort}
use Rattle.tb_process_steps.specs.Settings.{given_by, well_sorted, start_value}

pub sort_at-with_value : (slots : List Slot) (at : ℕ) (term : Term) (other : ℕ) → ◌≡◌ {A = Option Sort} (sort_at (with_value slots at term) other) (sort_at slots other)
sort_at-with_value [] at term other = refl
sort_at-with_value (slot ∷ slots) zero term zero = refl
sort_at-with_value (slot ∷ slots) zero term (suc other) = refl
sort_at-with_value (slot ∷ slots) (suc at) term zero = refl
sort_at-with_value (slot ∷ slots) (suc at) term (suc other) = sort_at-with_value slots at term other

pub takes_binds-with_value : (slots : List Slot) (at : ℕ) (term : Term) (binds : List Bind) → takes_binds (with_value slots at term) binds ≡ takes_binds slots binds
takes_binds-with_value slots at term [] = refl
takes_binds-with_value slots at term (bind ∷ binds) =
    ap (λ (o : Option Sort). has_slot_sort o bind.value && takes_binds (with_value slots at term) binds) (sort_at-with_value slots at term bind.slot)
    ∙ ap (λ (b : Bool). takes_bind slots bind && b) (takes_binds-with_value slots at term binds)

-- after one bind is set, the store still takes the other binds
pub rest_taken : (slots : List Slot) (rest : List Bind) (bind : Bind) → slice_get rest 0 ≡ Some bind → takes_binds slots rest ≡ true → takes_binds (with_value slots bind.slot bind.value) (remove rest 0) ≡ true
rest_taken slots [] bind e h = cc
rest_taken slots (first ∷ rest) bind e h =
    let parts = and_parts (takes_bind slots first) (takes_binds slots rest) h in
    takes_binds-with_value slots bind.slot bind.value rest ∙ parts.1

pub rest_completes : (slots : List Slot) (rest : List Bind) (bind : Bind) → slice_get rest 0 ≡ Some bind → with_binds (with_value slots bind.slot bind.value) (remove rest 0) ≡ with_binds slots rest
rest_completes slots [] bind e = cc
rest_completes slots (first ∷ rest) bind e =
    let same : first ≡ bind = cc in
    ap (λ (b : Bind). with_binds (with_value slots b.slot b.value) rest) (sym same)

well_sorted_taken : (slots : List Slot) (slot : ℕ) (sort : Sort) (value : Term) (b : Bool) (bind : Bind) → ◌≡◌ {A = Option Sort} (sort_at slots slot) (Some sort) → has_sort value sort ≡ b → option_map (λ (v : Term). record { slot = slot; value = v }) (if b then Some value else None) ≡ Some bind → takes_bind slots bind ≡ true
well_sorted_taken slots slot sort value false bind h k e = cc
well_sorted_taken slots slot sort value true bind h k e =
    let same : record { slot = slot; value = value } ≡ bind = cc in
    subst (λ (b : Bind). takes_bind slots b ≡ true) same (ap (λ (o : Option Sort). has_slot_sort o value) h ∙ k)

given_taken_by : (slots : List Slot) (slot : ℕ) (sort : Option Sort) (value : Option Term) (bind : Bind) → ◌≡◌ {A = Option Sort} (sort_at slots slot) sort → option_map (λ (v : Term). record { slot = slot; value = v }) (well_sorted sort value) ≡ Some bind → takes_bind slots bind ≡ true
given_taken_by slots slot None value bind h e = cc
given_taken_by slots slot (Some sort) None bind h e = cc
given_taken_by slots slot (Some sort) (Some value) bind h e = well_sorted_taken slots slot sort value (has_sort value sort) bind h refl e

given_taken : (slots : List Slot) (setting : Setting) (bind : Bind) → given_by slots setting ≡ Some bind → takes_bind slots bind ≡ true
given_taken slots setting bind e =
    given_taken_by slots setting.slot (sort_at slots setting.slot) (start_value slots setting.slot setting.start) bind refl e

both_taken : (slots : List Slot) (first : Option Bind) (rest : Option (List Bind)) (binds : List Bind) → ((bind : Bind) → first ≡ Some bind → takes_bind slots bind ≡ true) → ((others : List Bind) → rest ≡ Some others → takes_binds slots others ≡ true) → of_both (λ x xs. Some (x ∷ xs)) first rest ≡ Some binds → takes_binds slots binds ≡ true
both_taken slots None rest binds f g e = cc
both_taken slots (Some bind) None binds f g e = cc
both_taken slots (Some bind) (Some others) binds f g e =
    let same : bind ∷ others ≡ binds = cc in
    subst (λ (l : List Bind). takes_binds slots l ≡ true) same (and_from (takes_bind slots bind) (takes_binds slots others) (f bind refl) (g others refl))

pub all_given_taken : (slots : List Slot) (settings : List Setting) (binds : List Bind) → all_of (map (given_by slots) settings) ≡ Some binds → takes_binds slots binds ≡ true
all_given_taken slots [] binds e =
    let same : [] ≡ binds = cc in
    subst (λ (l : List Bind). takes_binds slots l ≡ true) same refl
all_given_taken slots (setting ∷ settings) binds e =
    both_taken slots (given_by slots setting) (all_of (map (given_by slots) settings)) binds (given_taken slots setting) (all_given_taken slots settings) e
