-- Binds, settings, and offers keep the types of a store. If the values of the store have their types, they still do afterwards.
use Rattle.std.proofs.Common.{◌≡◌, ℕ, zero, suc, Bool, true, false, ◌&&◌, List, [], ◌∷◌, map, Option, Some, None, IfSome, option_map, if◌then◌else◌, refl, ap, sym, ◌∙◌, slice_get, Contains}
use Rattle.std.proofs.lemmas.Bool.{and_from, and_parts}
use Rattle.std.proofs.lemmas.List.Elements.{All-nil, All-cons, All-append, All-weaker, All-map, All-contains}
use Rattle.std.specs.List.{All}
use Rattle.tb_terms.specs.declared.term.Term.{Term}
use Rattle.tb_terms.specs.declared.sort.Sort.{Sort}
use Rattle.tb_terms.specs.Sorts.{has_sort}
use Rattle.tb_func.specs.declared.slot.Slot.{Slot}
use Rattle.tb_func.specs.Arguments.{of_both}
use Rattle.tb_func.specs.Stores.{fresh_slot, sort_at, with_value, is_well_sorted, are_well_sorted}
use Rattle.tb_func.specs.Values.{all_of}
use Rattle.tb_match.specs.declared.bind.Bind.{Bind}
use Rattle.tb_body.specs.declared.tree.Setting.{Setting}
use Rattle.tb_process_steps.specs.Binds.{with_binds, has_slot_sort, takes_bind, takes_binds}
use Rattle.tb_process_steps.specs.Settings.{well_sorted, start_value, given_by, with_settings, tested}
use Rattle.tb_process_steps.specs.Processes.{Process, At, Seq, Alt, Star, Par, Disrupt, If, When, Let}
use Rattle.tb_process_steps.specs.Offers.{in_wait, Offered, before, on_the_left, on_the_right, offers}
use Rattle.tb_process_steps.specs.Walks.{Walking, offers_of, offers_of_term, fired, sorts_of}
use Rattle.tb_process_steps.proofs.Offering.{if-all, after-all, contains-at}

-- one value

pub sorts-with_value : (slots : List Slot) (at : ℕ) (term : Term) → sorts_of (with_value slots at term) ≡ sorts_of slots
sorts-with_value [] at term = refl
sorts-with_value (slot ∷ slots) zero term = refl
sorts-with_value (slot ∷ slots) (suc at) term = ap (λ (sorts : List Sort). slot.sort ∷ sorts) (sorts-with_value slots at term)

pub sort_at-with_value : (slots : List Slot) (at : ℕ) (term : Term) (n : ℕ) → sort_at (with_value slots at term) n ≡ sort_at slots n
sort_at-with_value [] at term n = refl
sort_at-with_value (slot ∷ slots) zero term zero = refl
sort_at-with_value (slot ∷ slots) zero term (suc n) = refl
sort_at-with_value (slot ∷ slots) (suc at) term zero = refl
sort_at-with_value (slot ∷ slots) (suc at) term (suc n) = sort_at-with_value slots at term n

pub well_sorted-with_value : (slots : List Slot) (at : ℕ) (term : Term) → are_well_sorted slots ≡ true → has_slot_sort (sort_at slots at) term ≡ true → are_well_sorted (with_value slots at term) ≡ true
well_sorted-with_value [] at term h k = refl
well_sorted-with_value (slot ∷ slots) zero term h k = and_from (has_sort term slot.sort) (are_well_sorted slots) k (and_parts (is_well_sorted slot) (are_well_sorted slots) h).1
well_sorted-with_value (slot ∷ slots) (suc at) term h k =
    let parts = and_parts (is_well_sorted slot) (are_well_sorted slots) h in
    and_from (is_well_sorted slot) (are_well_sorted (with_value slots at term)) parts.0 (well_sorted-with_value slots at term parts.1 k)

-- binds

takes_bind-with_value : (slots : List Slot) (at : ℕ) (term : Term) (bind : Bind) → takes_bind (with_value slots at term) bind ≡ takes_bind slots bind
takes_bind-with_value slots at term bind = ap (λ (o : Option Sort). has_slot_sort o bind.value) (sort_at-with_value slots at term bind.slot)

pub takes-with_value : (slots : List Slot) (at : ℕ) (term : Term) (binds : List Bind) → takes_binds (with_value slots at term) binds ≡ takes_binds slots binds
takes-with_value slots at term [] = refl
takes-with_value slots at term (bind ∷ binds) =
    ap (λ (b : Bool). b && takes_binds (with_value slots at term) binds) (takes_bind-with_value slots at term bind)
    ∙ ap (λ (b : Bool). takes_bind slots bind && b) (takes-with_value slots at term binds)

pub sorts-with_binds : (slots : List Slot) (binds : List Bind) → sorts_of (with_binds slots binds) ≡ sorts_of slots
sorts-with_binds slots [] = refl
sorts-with_binds slots (bind ∷ binds) = sorts-with_binds (with_value slots bind.slot bind.value) binds ∙ sorts-with_value slots bind.slot bind.value

pub well_sorted-with_binds : (slots : List Slot) (binds : List Bind) → takes_binds slots binds ≡ true → are_well_sorted slots ≡ true → are_well_sorted (with_binds slots binds) ≡ true
well_sorted-with_binds slots [] k h = h
well_sorted-with_binds slots (bind ∷ binds) k h =
    let parts = and_parts (takes_bind slots bind) (takes_binds slots binds) k in
    well_sorted-with_binds (with_value slots bind.slot bind.value) binds
    (takes-with_value slots bind.slot bind.value binds ∙ parts.1)
    (well_sorted-with_value slots bind.slot bind.value h parts.0)

-- settings: the store takes the bind that each setting gives

abbrev GivesTaken : List Slot → Option Bind → Type 0
GivesTaken slots found = IfSome found (λ bind. takes_bind slots bind ≡ true)

made-taken : (slots : List Slot) (slot : ℕ) (sort : Sort) (value : Term) (b : Bool) → sort_at slots slot ≡ Some sort → has_sort value sort ≡ b →
    GivesTaken slots (option_map (λ v. record { slot = slot; value = v }) (if b then Some value else None))
made-taken slots slot sort value true e h = ap (λ (o : Option Sort). has_slot_sort o value) e ∙ h
made-taken slots slot sort value false e h = tt

well_sorted-taken : (slots : List Slot) (slot : ℕ) (o : Option Sort) (start : Option Term) → sort_at slots slot ≡ o →
    GivesTaken slots (option_map (λ v. record { slot = slot; value = v }) (well_sorted o start))
well_sorted-taken slots slot None start e = tt
well_sorted-taken slots slot (Some sort) None e = tt
well_sorted-taken slots slot (Some sort) (Some value) e = made-taken slots slot sort value (has_sort value sort) e refl

given-taken : (slots : List Slot) (setting : Setting) → GivesTaken slots (given_by slots setting)
given-taken slots setting = well_sorted-taken slots setting.slot (sort_at slots setting.slot) (start_value slots setting.slot setting.start) refl

abbrev GivesAllTaken : List Slot → Option (List Bind) → Type 0
GivesAllTaken slots found = IfSome found (λ binds. takes_binds slots binds ≡ true)

cons-taken : (slots : List Slot) (o : Option Bind) (os : Option (List Bind)) → GivesTaken slots o → GivesAllTaken slots os → GivesAllTaken slots (of_both (λ x xs. Some (x ∷ xs)) o os)
cons-taken slots None os h k = tt
cons-taken slots (Some bind) None h k = tt
cons-taken slots (Some bind) (Some binds) h k = and_from (takes_bind slots bind) (takes_binds slots binds) h k

all_given-taken : (slots : List Slot) (settings : List Setting) → GivesAllTaken slots (all_of (map (given_by slots) settings))
all_given-taken slots [] = refl
all_given-taken slots (setting ∷ settings) = cons-taken slots (given_by slots setting) (all_of (map (given_by slots) settings)) (given-taken slots setting) (all_given-taken slots settings)

-- a later store has the same types; if the values had their types, the values of the later store have them too

pub record Keeps (old new : List Slot) : Type 0 where
  pub sorts : sorts_of new ≡ sorts_of old
  pub values : are_well_sorted old ≡ true → are_well_sorted new ≡ true

pub keeps-all : (store : List Slot) → Keeps store store
keeps-all store = record { sorts = refl; values = λ h. h }

pub keeps-both : (old new last : List Slot) → Keeps old new → Keeps new last → Keeps old last
keeps-both old new last h k = record { sorts = k.sorts ∙ h.sorts; values = λ e. k.values (h.values e) }

pub binds-keep : (store : List Slot) (binds : List Bind) → takes_binds store binds ≡ true → Keeps store (with_binds store binds)
binds-keep store binds k = record { sorts = sorts-with_binds store binds; values = well_sorted-with_binds store binds k }

made-keep : (store : List Slot) (o : Option (List Bind)) → GivesAllTaken store o → IfSome (option_map (with_binds store) o) (Keeps store)
made-keep store None h = tt
made-keep store (Some binds) h = binds-keep store binds h

pub settings-keep : (store : List Slot) (settings : List Setting) → IfSome (with_settings store settings) (Keeps store)
settings-keep store settings = made-keep store (all_of (map (given_by store) settings)) (all_given-taken store settings)

-- offers

abbrev KeepsIn : List Slot → Offered → Type 0
KeepsIn store offered = Keeps store offered.store

let-keep : (store : List Slot) (o : Option (List Slot)) (offering : List Slot → List Offered) → IfSome o (Keeps store) → ((s : List Slot) → All (KeepsIn s) (offering s)) → IfSome o (λ s. All (KeepsIn store) (offering s))
let-keep store None offering h k = tt
let-keep store (Some s) offering h k = All-weaker (KeepsIn s) (KeepsIn store) (λ offered. keeps-both store s offered.store h) (offering s) (k s)

pub offers-keep : (term : Process) (store : List Slot) → All (λ offered. Keeps store offered.store) (offers term store)
offers-keep (At atom age) store = All-cons (KeepsIn store) _ [] (keeps-all store) (All-nil (KeepsIn store))
offers-keep (Seq x y) store = All-map (KeepsIn store) (before y) (offers x store) (offers-keep x store)
offers-keep (Alt x y) store = All-append (KeepsIn store) (offers x store) (offers y store) (offers-keep x store) (offers-keep y store)
offers-keep (Star x y) store =
    All-append (KeepsIn store) (map (before (Star x y)) (offers x store)) (offers y store)
    (All-map (KeepsIn store) (before (Star x y)) (offers x store) (offers-keep x store)) (offers-keep y store)
offers-keep (Par x y) store =
    All-append (KeepsIn store) (map (on_the_left y) (offers x store)) (map (on_the_right x) (offers y store))
    (All-map (KeepsIn store) (on_the_left y) (offers x store) (offers-keep x store))
    (All-map (KeepsIn store) (on_the_right x) (offers y store) (offers-keep y store))
offers-keep (Disrupt x y) store =
    All-append (KeepsIn store) (map (in_wait y) (offers x store)) (offers y store)
    (All-map (KeepsIn store) (in_wait y) (offers x store) (offers-keep x store)) (offers-keep y store)
offers-keep (If test x y) store = if-all (KeepsIn store) (tested store test) (offers x store) (offers y store) (offers-keep x store) (offers-keep y store)
offers-keep (When test x) store = if-all (KeepsIn store) (tested store test) (offers x store) [] (offers-keep x store) (All-nil (KeepsIn store))
offers-keep (Let settings x) store = after-all (KeepsIn store) (with_settings store settings) (offers x) (let-keep store (with_settings store settings) (offers x) (settings-keep store settings) (offers-keep x))

pub offer-keeps : (term : Process) (store : List Slot) (offered : Offered) → Contains (offers term store) offered → Keeps store offered.store
offer-keeps term store offered c = All-contains (KeepsIn store) (offers term store) offered (offers-keep term store) c

-- an offer by its index

term-keeps : (term : Option Process) (store : List Slot) (k : ℕ) (offered : Offered) → slice_get (offers_of_term term store) k ≡ Some offered → Keeps store offered.store
term-keeps None store k offered e = absurd (let t : ◌≡◌ {A = Option Offered} None (Some offered) = e in cc)
term-keeps (Some term) store k offered e = offer-keeps term store offered (contains-at (offers term store) k offered e)

pub offer_at-keeps : (walking : Walking) (k : ℕ) (offered : Offered) → slice_get (offers_of walking) k ≡ Some offered → Keeps walking.store offered.store
unfolding offers_of
offer_at-keeps walking k offered e = term-keeps walking.term walking.store k offered e

-- a taken offer
pub fired-keeps : (walking : Walking) (k : ℕ) (offered : Offered) (binds : List Bind) → slice_get (offers_of walking) k ≡ Some offered → takes_binds offered.store binds ≡ true → Keeps walking.store (fired binds walking.ticks offered).store
fired-keeps walking k offered binds e h =
    keeps-both walking.store offered.store (with_binds offered.store binds) (offer_at-keeps walking k offered e) (binds-keep offered.store binds h)

-- the facts that depend on the types alone

pub sorts-fresh : (sorts : List Sort) → sorts_of (map fresh_slot sorts) ≡ sorts
sorts-fresh [] = refl
sorts-fresh (sort ∷ sorts) = ap (λ (rest : List Sort). sort ∷ rest) (sorts-fresh sorts)

pub sort_at-sorts_of : (slots : List Slot) (n : ℕ) → sort_at slots n ≡ slice_get (sorts_of slots) n
sort_at-sorts_of [] n = refl
sort_at-sorts_of (slot ∷ slots) zero = refl
sort_at-sorts_of (slot ∷ slots) (suc n) = sort_at-sorts_of slots n

takes_bind-same_sorts : (one other : List Slot) (bind : Bind) → sorts_of one ≡ sorts_of other → takes_bind one bind ≡ takes_bind other bind
takes_bind-same_sorts one other bind e =
    ap (λ (o : Option Sort). has_slot_sort o bind.value) (sort_at-sorts_of one bind.slot ∙ ap (λ (sorts : List Sort). slice_get sorts bind.slot) e ∙ sym (sort_at-sorts_of other bind.slot))

-- stores with the same sorts take the same binds
pub takes-same_sorts : (one other : List Slot) (binds : List Bind) → sorts_of one ≡ sorts_of other → takes_binds one binds ≡ takes_binds other binds
takes-same_sorts one other [] e = refl
takes-same_sorts one other (bind ∷ binds) e =
    ap (λ (b : Bool). b && takes_binds one binds) (takes_bind-same_sorts one other bind e) ∙ ap (λ (b : Bool). takes_bind other bind && b) (takes-same_sorts one other binds e)

-- a store takes a value of the type at the slot's index
pub takes-value : (store : List Slot) (sorts : List Sort) (slot : ℕ) (sort : Sort) (value : Term) → sorts_of store ≡ sorts → slice_get sorts slot ≡ Some sort → has_sort value sort ≡ true →
    takes_binds store (record { slot = slot; value = value } ∷ []) ≡ true
takes-value store sorts slot sort value e at h =
    let found : sort_at store slot ≡ Some sort = sort_at-sorts_of store slot ∙ ap (λ (all : List Sort). slice_get all slot) e ∙ at in
    let taken : has_slot_sort (sort_at store slot) value ≡ true = ap (λ (o : Option Sort). has_slot_sort o value) found ∙ h in
    and_from (has_slot_sort (sort_at store slot) value) true taken refl
