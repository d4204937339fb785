-- Stores with the sorts of a body, whose values have these sorts: how they open, and that they stay so.
use Rattle.std.proofs.Common.{◌≡◌, ℕ, zero, suc, ◌+◌, add-one, pos, true, ◌&&◌, ◌==◌, List, [], ◌∷◌, map, drop, length, slice_get, codes, Option, Some, None, refl, ap, ◌∙◌}
use Rattle.std.specs.List.{All, list_all}
use Rattle.std.specs.Str.{bytes_eq}
use Rattle.std.proofs.lemmas.Bool.{and_from, and_parts}
use Rattle.std.proofs.lemmas.List.Elements.{All-nil, All-append}
use Rattle.std.proofs.lemmas.Slice.Eq.{bytes_eq-Decides}
use Rattle.tb_terms.specs.declared.term.Term.{Term, out-Term}
use Rattle.tb_terms.specs.declared.term.Term.TheVariants as term
use Rattle.tb_terms.specs.declared.sort.Sort.{Sort, Sort-F, out-Sort}
use Rattle.tb_terms.specs.declared.sort.Sort.TheOpen as layer
use Rattle.tb_terms.specs.Sizes.{is_within_limits}
use Rattle.tb_terms.specs.Sorts.{is_int, is_str, is_list_of, is_tool, term_test, has_sort, initial_of, initial_value}
use Rattle.tb_func.specs.declared.slot.Slot.{Slot}
use Rattle.tb_func.specs.Stores.{fresh_slot, sort_at, with_value, is_well_sorted, are_well_sorted}
use Rattle.tb_body.specs.declared.body.Body.{Body}
use Rattle.tb_body.specs.declared.program.Root.{Root}
use Rattle.tb_body.specs.declared.program.Tool.{Tool as ToolKind}
use Rattle.tb_body.specs.Programs.{have_sorts, starts, is_root_in_range, is_program_in_range}
use Rattle.tb_process_steps.specs.Binds.{has_slot_sort}
use Rattle.tb_process_steps.specs.Processes.{fresh}
use Rattle.tb_process_steps.specs.Walks.{sorts_of}
use Rattle.tb_process_steps.proofs.Sorts.{Keeps, sorts-with_value, well_sorted-with_value, sorts-fresh, sort_at-sorts_of}
use Rattle.tb_notes.specs.Inboxes.{nothing}
use Rattle.tb_bus.specs.Buses.{Proc, with_values, opening_store, opened_one, opened}
use Rattle.tb_bus.specs.Slots.{fits_formals}
use Rattle.tb_bus.proofs.OrderLemmas.{All-one}
use Rattle.tb_iface.proofs.OutlineLemmas.{test, has-layer, is_bool}

-- the body of this number is there, and this is a store of it
pub record IsStoreOf (bodies : List Body) (number : ℕ) (store : List Slot) : Type 0 where
  pub body : Body
  pub there : slice_get bodies number ≡ Some body
  pub sorts : sorts_of store ≡ body.sorts
  pub values : are_well_sorted store ≡ true

-- a process has a store of its body
abbrev pub HasStore : List Body → Proc → Type 0
HasStore bodies proc = IsStoreOf bodies proc.body proc.store

abbrev pub HaveStores : List Body → List Proc → Type 0
HaveStores bodies procs = All (HasStore bodies) procs

-- so is what it goes on as
pub store-kept : (bodies : List Body) (number : ℕ) (old new : List Slot) → Keeps old new → IsStoreOf bodies number old → IsStoreOf bodies number new
store-kept bodies number old new keeps h = record { body = h.body; there = h.there; sorts = keeps.sorts ∙ h.sorts; values = keeps.values h.values }

-- the value with which a sort begins has the sort

initial-by : (w : Sort-F Sort) → test w (initial_of w) ≡ true
initial-by layer.Bool = ap is_bool (term.outs-Appl (codes "false") [])
initial-by layer.Int = ap is_int (term.outs-Int (pos 0))
initial-by layer.Str = ap is_str (term.outs-Str [])
initial-by (layer.List members) = ap (is_list_of (term_test members)) (term.outs-List [])
initial-by layer.Any = refl
initial-by (layer.Tool name) =
    ap (is_tool name) (term.outs-Appl name (term.Int (pos 0) ∷ []))
    ∙ and_from (bytes_eq name name) (is_int (out-Term (term.Int (pos 0)))) ((bytes_eq-Decides name name).1 refl) (ap is_int (term.outs-Int (pos 0)))

initial-sorted : (s : Sort) → has_sort (initial_value s) s ≡ true
initial-sorted s = has-layer (initial_value s) s ∙ initial-by (out-Sort s)

fresh-sorted : (sorts : List Sort) → are_well_sorted (map fresh_slot sorts) ≡ true
fresh-sorted [] = refl
fresh-sorted (s ∷ sorts) = and_from (is_well_sorted (fresh_slot s)) (are_well_sorted (map fresh_slot sorts)) (initial-sorted s) (fresh-sorted sorts)

-- arguments in the first slots

sorts-with_values : (store : List Slot) (slot : ℕ) (terms : List Term) → sorts_of (with_values store slot terms) ≡ sorts_of store
sorts-with_values store slot [] = refl
sorts-with_values store slot (t ∷ terms) = sorts-with_values (with_value store slot t) (slot + 1) terms ∙ sorts-with_value store slot t

drop-first : {X : Type 0} (xs : List X) (n : ℕ) (x : X) (rest : List X) → drop n xs ≡ x ∷ rest → (slice_get xs n ≡ Some x) × (drop (suc n) xs ≡ rest)
drop-first [] zero x rest e = cc
drop-first [] (suc n) x rest e = cc
drop-first (y ∷ ys) zero x rest e = (cc, cc)
drop-first (y ∷ ys) (suc n) x rest e = drop-first ys n x rest e

-- the terms have the sorts from a slot on
abbrev FitFrom : List Slot → ℕ → List Term → Type 0
FitFrom store slot terms = have_sorts (drop slot (sorts_of store)) terms ≡ true

record FitsFirst (store : List Slot) (slot : ℕ) (t : Term) (terms : List Term) : Type 0 where
  here : has_slot_sort (sort_at store slot) t ≡ true
  rest : FitFrom (with_value store slot t) (slot + 1) terms

fits-by : (store : List Slot) (slot : ℕ) (t : Term) (terms : List Term) (sorts : List Sort) → drop slot (sorts_of store) ≡ sorts → have_sorts sorts (t ∷ terms) ≡ true → FitsFirst store slot t terms
fits-by store slot t terms [] e h = cc
fits-by store slot t terms (s ∷ sorts) e h =
    let parts = and_parts (has_sort t s) (have_sorts sorts terms) h in
    let at = drop-first (sorts_of store) slot s sorts e in
    let next : drop (slot + 1) (sorts_of (with_value store slot t)) ≡ sorts = ap (drop (slot + 1)) (sorts-with_value store slot t) ∙ ap (λ n. drop n (sorts_of store)) (add-one slot) ∙ at.1 in
    record {
      here = ap (λ (o : Option Sort). has_slot_sort o t) (sort_at-sorts_of store slot ∙ at.0) ∙ parts.0;
      rest = ap (λ (all : List Sort). have_sorts all terms) next ∙ parts.1;
    }

values-sorted : (store : List Slot) (slot : ℕ) (terms : List Term) → FitFrom store slot terms → are_well_sorted store ≡ true → are_well_sorted (with_values store slot terms) ≡ true
values-sorted store slot [] h k = k
values-sorted store slot (t ∷ terms) h k =
    let first = fits-by store slot t terms (drop slot (sorts_of store)) refl h in
    values-sorted (with_value store slot t) (slot + 1) terms first.rest (well_sorted-with_value store slot t k first.here)

opening-of : (bodies : List Body) (number : ℕ) (body : Body) (actuals : List Term) → slice_get bodies number ≡ Some body → have_sorts body.sorts actuals ≡ true → IsStoreOf bodies number (opening_store body actuals)
opening-of bodies number body actuals there h =
    let store = map fresh_slot body.sorts in
    let fit : FitFrom store 0 actuals = ap (λ (all : List Sort). have_sorts all actuals) (sorts-fresh body.sorts) ∙ h in
    record {
      body = body;
      there = there;
      sorts = sorts-with_values store 0 actuals ∙ sorts-fresh body.sorts;
      values = values-sorted store 0 actuals fit (fresh-sorted body.sorts);
    }

-- A process that begins with arguments that fit has a store of its body.
pub one-opened : (bodies : List Body) (number process : ℕ) (actuals : List Term) (found : Option Body) → slice_get bodies process ≡ found → fits_formals found actuals ≡ true → HaveStores bodies (opened_one number process actuals found)
one-opened bodies number process actuals None e h = All-nil (HasStore bodies)
one-opened bodies number process actuals (Some body) e h =
    All-one (HasStore bodies) (record { number = number; body = process; term = fresh body.tree; store = opening_store body actuals; inbox = nothing })
    (opening-of bodies process body actuals e (and_parts (length actuals == body.formals) (have_sorts body.sorts actuals) h).1)

starts-fits : (found : Option Body) (actuals : List Term) → starts found actuals ≡ true → fits_formals found actuals ≡ true
starts-fits None actuals h = h
starts-fits (Some body) actuals h = (and_parts (length actuals == body.formals && have_sorts body.sorts actuals) (list_all is_within_limits actuals) h).0

roots-opened : (bodies : List Body) (number : ℕ) (roots : List Root) → list_all (is_root_in_range bodies) roots ≡ true → HaveStores bodies (opened bodies number roots)
roots-opened bodies number [] h = All-nil (HasStore bodies)
roots-opened bodies number (root ∷ roots) h =
    let parts = and_parts (is_root_in_range bodies root) (list_all (is_root_in_range bodies) roots) h in
    let found = slice_get bodies root.process in
    All-append (HasStore bodies) (opened_one number root.process root.actuals found) (opened bodies (number + 1) roots)
    (one-opened bodies number root.process root.actuals found refl (starts-fits found root.actuals parts.0)) (roots-opened bodies (number + 1) roots parts.1)

range-roots : (bodies : List Body) (roots : List Root) (tools : List ToolKind) → is_program_in_range bodies roots tools ≡ true → list_all (is_root_in_range bodies) roots ≡ true
unfolding is_program_in_range
range-roots bodies roots tools h = (and_parts _ (list_all (is_root_in_range bodies) roots) h).1

-- So have the roots of a program.
pub program-opened : (bodies : List Body) (number : ℕ) (roots : List Root) (tools : List ToolKind) → is_program_in_range bodies roots tools ≡ true → HaveStores bodies (opened bodies number roots)
program-opened bodies number roots tools h = roots-opened bodies number roots (range-roots bodies roots tools h)
