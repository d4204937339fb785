-- Values, binds and stores have no more levels than a term may have.
use Rattle.std.proofs.Common.{◌≡◌, ℕ, zero, suc, ◌+◌, ◌≤◌, max, pos, Bool, true, false, List, [], ◌∷◌, ◌++◌, map, fold, Option, Some, None, IfSome, option_map, option_and_then, if◌then◌else◌, Contains, refl, ap, sym, ◌∙◌, subst, arith, codes}
use Rattle.std.proofs.lemmas.Option.{same_Some}
use Rattle.std.proofs.lemmas.List.Elements.{All-nil, All-cons, All-head, All-tail, All-append, All-map, All-contains, recursion_from_All}
use Rattle.std.specs.List.{All, AllByRecursion}
use Rattle.std.specs.Str.{bytes_eq}
use Rattle.tb_terms.specs.declared.term.Term.{Term, Term-F, map-Term, out-Term, fold_out-Term}
use Rattle.tb_terms.specs.declared.term.Term.TheOpen as term_layer
use Rattle.tb_terms.specs.declared.term.Term.TheVariants as term
use Rattle.tb_terms.specs.declared.sort.Sort.{Sort, Sort-F, out-Sort}
use Rattle.tb_terms.specs.declared.sort.Sort.TheOpen as sort_layer
use Rattle.tb_terms.specs.declared.expr.Expr.{Expr, Expr-F, map-Expr, out-Expr, fold_out-Expr}
use Rattle.tb_terms.specs.declared.expr.Expr.TheOpen as layer
use Rattle.tb_terms.specs.declared.pattern.Pattern.{Pattern, Pattern-F, map-Pattern, ind-Pattern, roll-Pattern, fold-roll-Pattern}
use Rattle.tb_terms.specs.declared.pattern.Pattern.TheOpen as pattern_layer
use Rattle.tb_terms.specs.Same.{is_same_term}
use Rattle.tb_terms.specs.Sizes.{term_levels, greatest, levels_step, is_within_limits, IsWithinLimits}
use Rattle.tb_terms.specs.Sorts.{has_sort, initial_of, initial_value}
use Rattle.tb_terms.proofs.Induction.{fold-Int, fold-Str, fold-Appl, fold-List}
use Rattle.tb_terms.proofs.LimitLemmas.{within-limits}
use Rattle.tb_func.specs.declared.slot.Slot.{Slot}
use Rattle.tb_func.specs.Apply.{apply_of, given}
use Rattle.tb_func.specs.Arguments.{of_both}
use Rattle.tb_func.specs.Limits.{limited}
use Rattle.tb_func.specs.Stores.{sort_at, value_at, with_value}
use Rattle.tb_func.specs.Values.{all_of, value_of, value_step}
use Rattle.tb_match.specs.declared.bind.Bind.{Bind}
use Rattle.tb_match.specs.Joining.{bound, agreed, with_bind, joined, both}
use Rattle.tb_match.specs.Matches.{Matching, match_all, match_appl, match_members, binds_if, match_step, match_term, match_list}
use Rattle.tb_match.proofs.Grouping.{both_steps, agreed_same}
use Rattle.tb_body.specs.declared.tree.Setting.{Setting}
use Rattle.tb_process_steps.specs.Processes.{Process, At, Seq, Alt, Star, Par, Disrupt, If, When, Let}
use Rattle.tb_process_steps.specs.Offers.{Offered, before, on_the_left, on_the_right, in_wait, offers}
use Rattle.tb_process_steps.specs.Settings.{given_by, well_sorted, start_value, tested, with_settings}
use Rattle.tb_process_steps.specs.Binds.{with_binds}
use Rattle.tb_process_steps.proofs.Offering.{if-all, after-all}
use Rattle.tb_bus.specs.Waiting.{IsShallow, IsShallowStore}

-- the term that a limit lets through

-- a value that is found is within the limits
abbrev pub GivesWithin : Option Term → Type 0
GivesWithin found = IfSome found IsWithinLimits

abbrev pub GivesShallow : Option Term → Type 0
GivesShallow found = IfSome found IsShallow

limited-by : (t : Term) (b : Bool) → is_within_limits t ≡ b → GivesWithin (if b then Some t else None)
limited-by t true e = within-limits t e
limited-by t false e = tt

pub limited-within : (t : Term) → GivesWithin (limited t)
limited-within t = limited-by t (is_within_limits t) refl

pub then-within : {A : Type 0} (o : Option A) (f : A → Option Term) → ((x : A) → GivesWithin (f x)) → GivesWithin (option_and_then f o)
then-within None f h = tt
then-within (Some x) f h = h x

pub within-shallow : (o : Option Term) → GivesWithin o → GivesShallow o
within-shallow None h = tt
within-shallow (Some t) h = h.levels

-- values

int-shallow : (t : Term) → term_levels t ≡ 1 → IsShallow t
int-shallow t e = omega (arith, e)

there-shallow : (store : List Slot) (at : ℕ) → IsShallowStore store → GivesShallow (value_at store at)
there-shallow [] at h = tt
there-shallow (slot ∷ store) zero h = All-head (λ (s : Slot). IsShallow s.value) slot store h
there-shallow (slot ∷ store) (suc at) h = there-shallow store at (All-tail (λ (s : Slot). IsShallow s.value) slot store h)

layer-shallow : (store : List Slot) → IsShallowStore store → (w : Expr-F (Option Term)) → GivesShallow (value_step store w)
layer-shallow store h (layer.Int n) = int-shallow (term.Int n) (fold-Int ℕ levels_step n)
layer-shallow store h (layer.Str s) = within-shallow (limited (term.Str s)) (limited-within (term.Str s))
layer-shallow store h (layer.Var slot) = there-shallow store slot h
layer-shallow store h (layer.Result slot) = tt
layer-shallow store h (layer.Hole sort) = tt
layer-shallow store h (layer.Appl name parts) =
    within-shallow (option_and_then (λ ts. limited (term.Appl name ts)) (all_of parts)) (then-within (all_of parts) (λ ts. limited (term.Appl name ts)) (λ ts. limited-within (term.Appl name ts)))
layer-shallow store h (layer.Call func parts) =
    within-shallow (option_and_then (apply_of func) (all_of parts)) (then-within (all_of parts) (apply_of func) (λ ts. then-within (given func ts) limited limited-within))
layer-shallow store h (layer.List parts) =
    within-shallow (option_and_then (λ ts. limited (term.List ts)) (all_of parts)) (then-within (all_of parts) (λ ts. limited (term.List ts)) (λ ts. limited-within (term.List ts)))

pub value-shallow : (store : List Slot) (expr : Expr) → IsShallowStore store → GivesShallow (value_of store expr)
value-shallow store expr h =
    subst GivesShallow (sym (fold_out-Expr (Option Term) (value_step store) expr)) (layer-shallow store h (map-Expr Expr (Option Term) (value_of store) (out-Expr expr)))

-- stores

abbrev pub AreShallowBinds : List Bind → Type 0
AreShallowBinds binds = All (λ (bind : Bind). IsShallow bind.value) binds

pub shallow-with_value : (store : List Slot) (at : ℕ) (t : Term) → IsShallowStore store → IsShallow t → IsShallowStore (with_value store at t)
shallow-with_value [] at t h k = h
shallow-with_value (slot ∷ store) zero t h k =
    All-cons (λ (s : Slot). IsShallow s.value) (record slot { value = t }) store k (All-tail (λ (s : Slot). IsShallow s.value) slot store h)
shallow-with_value (slot ∷ store) (suc at) t h k =
    All-cons (λ (s : Slot). IsShallow s.value) slot (with_value store at t) (All-head (λ (s : Slot). IsShallow s.value) slot store h)
    (shallow-with_value store at t (All-tail (λ (s : Slot). IsShallow s.value) slot store h) k)

pub shallow-with_binds : (store : List Slot) (binds : List Bind) → IsShallowStore store → AreShallowBinds binds → IsShallowStore (with_binds store binds)
shallow-with_binds store [] h k = h
shallow-with_binds store (bind ∷ binds) h k =
    shallow-with_binds (with_value store bind.slot bind.value) binds
    (shallow-with_value store bind.slot bind.value h (All-head (λ (b : Bind). IsShallow b.value) bind binds k))
    (All-tail (λ (b : Bind). IsShallow b.value) bind binds k)

word-shallow : (name : List ℕ) → IsShallow (term.Appl name [])
word-shallow name = int-shallow (term.Appl name []) (fold-Appl ℕ levels_step name [])

tool-shallow : (name : List ℕ) → IsShallow (term.Appl name (term.Int (pos 0) ∷ []))
tool-shallow name =
    let e : term_levels (term.Appl name (term.Int (pos 0) ∷ [])) ≡ 1 + max 0 (term_levels (term.Int (pos 0))) = fold-Appl ℕ levels_step name (term.Int (pos 0) ∷ []) in
    let f : term_levels (term.Int (pos 0)) ≡ 1 = fold-Int ℕ levels_step (pos 0) in
    omega arith

initial-by : (w : Sort-F Sort) → IsShallow (initial_of w)
initial-by sort_layer.Bool = word-shallow (codes "false")
initial-by sort_layer.Int = int-shallow (term.Int (pos 0)) (fold-Int ℕ levels_step (pos 0))
initial-by sort_layer.Str = int-shallow (term.Str []) (fold-Str ℕ levels_step [])
initial-by (sort_layer.List members) = int-shallow (term.List []) (fold-List ℕ levels_step [])
initial-by sort_layer.Any = word-shallow (codes "none")
initial-by (sort_layer.Tool name) = tool-shallow name

pub initial-shallow : (sort : Sort) → IsShallow (initial_value sort)
initial-shallow sort = initial-by (out-Sort sort)

-- settings

abbrev GivesShallowBind : Option Bind → Type 0
GivesShallowBind found = IfSome found (λ bind. IsShallow bind.value)

maybe_initial-shallow : (o : Option Sort) → GivesShallow (option_map initial_value o)
maybe_initial-shallow None = tt
maybe_initial-shallow (Some sort) = initial-shallow sort

start-shallow : (store : List Slot) (slot : ℕ) (start : Option Expr) → IsShallowStore store → GivesShallow (start_value store slot start)
start-shallow store slot None h = maybe_initial-shallow (sort_at store slot)
start-shallow store slot (Some expr) h = value-shallow store expr h

if-shallow : (slot : ℕ) (b : Bool) (t : Term) → IsShallow t → GivesShallowBind (option_map (λ value. record { slot = slot; value = value }) (if b then Some t else None))
if-shallow slot true t h = h
if-shallow slot false t h = tt

well_sorted-shallow : (slot : ℕ) (sort : Option Sort) (value : Option Term) → GivesShallow value → GivesShallowBind (option_map (λ value. record { slot = slot; value = value }) (well_sorted sort value))
well_sorted-shallow slot None value h = tt
well_sorted-shallow slot (Some sort) None h = tt
well_sorted-shallow slot (Some sort) (Some value) h = if-shallow slot (has_sort value sort) value h

given-shallow : (store : List Slot) (setting : Setting) → IsShallowStore store → GivesShallowBind (given_by store setting)
given-shallow store setting h =
    well_sorted-shallow setting.slot (sort_at store setting.slot) (start_value store setting.slot setting.start) (start-shallow store setting.slot setting.start h)

cons-shallow : (o : Option Bind) (os : Option (List Bind)) → GivesShallowBind o → IfSome os AreShallowBinds → IfSome (of_both (λ x xs. Some (x ∷ xs)) o os) AreShallowBinds
cons-shallow None os h k = tt
cons-shallow (Some bind) None h k = tt
cons-shallow (Some bind) (Some binds) h k = All-cons (λ (b : Bind). IsShallow b.value) bind binds h k

all_given-shallow : (store : List Slot) (settings : List Setting) → IsShallowStore store → IfSome (all_of (map (given_by store) settings)) AreShallowBinds
all_given-shallow store [] h = All-nil (λ (b : Bind). IsShallow b.value)
all_given-shallow store (setting ∷ settings) h = cons-shallow (given_by store setting) (all_of (map (given_by store) settings)) (given-shallow store setting h) (all_given-shallow store settings h)

made-shallow : (store : List Slot) (o : Option (List Bind)) → IsShallowStore store → IfSome o AreShallowBinds → IfSome (option_map (with_binds store) o) IsShallowStore
made-shallow store None h k = tt
made-shallow store (Some binds) h k = shallow-with_binds store binds h k

settings-shallow : (store : List Slot) (settings : List Setting) → IsShallowStore store → IfSome (with_settings store settings) IsShallowStore
settings-shallow store settings h = made-shallow store (all_of (map (given_by store) settings)) h (all_given-shallow store settings h)

-- offers

abbrev IsShallowOffer : Offered → Type 0
IsShallowOffer offered = IsShallowStore offered.store

let-shallow : (o : Option (List Slot)) (offering : List Slot → List Offered) → IfSome o IsShallowStore → ((s : List Slot) → IsShallowStore s → All IsShallowOffer (offering s)) → IfSome o (λ s. All IsShallowOffer (offering s))
let-shallow None offering h k = tt
let-shallow (Some s) offering h k = k s h

offers-shallow : (term : Process) (store : List Slot) → IsShallowStore store → All IsShallowOffer (offers term store)
offers-shallow (At atom age) store h = All-cons IsShallowOffer _ [] h (All-nil IsShallowOffer)
offers-shallow (Seq x y) store h = All-map IsShallowOffer (before y) (offers x store) (offers-shallow x store h)
offers-shallow (Alt x y) store h = All-append IsShallowOffer (offers x store) (offers y store) (offers-shallow x store h) (offers-shallow y store h)
offers-shallow (Star x y) store h =
    All-append IsShallowOffer (map (before (Star x y)) (offers x store)) (offers y store)
    (All-map IsShallowOffer (before (Star x y)) (offers x store) (offers-shallow x store h)) (offers-shallow y store h)
offers-shallow (Par x y) store h =
    All-append IsShallowOffer (map (on_the_left y) (offers x store)) (map (on_the_right x) (offers y store))
    (All-map IsShallowOffer (on_the_left y) (offers x store) (offers-shallow x store h))
    (All-map IsShallowOffer (on_the_right x) (offers y store) (offers-shallow y store h))
offers-shallow (Disrupt x y) store h =
    All-append IsShallowOffer (map (in_wait y) (offers x store)) (offers y store)
    (All-map IsShallowOffer (in_wait y) (offers x store) (offers-shallow x store h)) (offers-shallow y store h)
offers-shallow (If test x y) store h = if-all IsShallowOffer (tested store test) (offers x store) (offers y store) (offers-shallow x store h) (offers-shallow y store h)
offers-shallow (When test x) store h = if-all IsShallowOffer (tested store test) (offers x store) [] (offers-shallow x store h) (All-nil IsShallowOffer)
offers-shallow (Let settings x) store h = after-all IsShallowOffer (with_settings store settings) (offers x) (let-shallow (with_settings store settings) (offers x) (settings-shallow store settings h) (offers-shallow x))

pub offer-shallow : (term : Process) (store : List Slot) (offered : Offered) → IsShallowStore store → Contains (offers term store) offered → IsShallowStore offered.store
offer-shallow term store offered h c = All-contains IsShallowOffer (offers term store) offered (offers-shallow term store h) c

-- the parts of a term have fewer levels

pub greatest-from : (least most : ℕ) (xs : List ℕ) → fold max least xs ≤ most → (least ≤ most) × AllByRecursion (λ x. x ≤ most) xs
greatest-from least most [] h = (h, tt)
greatest-from least most (x ∷ xs) h =
    let rest = greatest-from (max least x) most xs h in
    let most_of = rest.0 in
    (omega arith, (omega arith, rest.1))

parts-by : (ts : List Term) → AllByRecursion (λ x. x ≤ 63) (map term_levels ts) → AllByRecursion IsShallow ts
parts-by [] h = tt
parts-by (t ∷ ts) h = let first = h.0 in (omega arith, parts-by ts h.1)

parts-shallow : (ts : List Term) → 1 + greatest (map term_levels ts) ≤ 64 → AllByRecursion IsShallow ts
parts-shallow ts h = parts-by ts (greatest-from 0 63 (map term_levels ts) (omega arith)).1

opened-levels : (t : Term) (w : Term-F Term) → out-Term t ≡ w → term_levels t ≡ levels_step (map-Term Term ℕ term_levels w)
opened-levels t w e = fold_out-Term ℕ levels_step t ∙ ap (λ (v : Term-F Term). levels_step (map-Term Term ℕ term_levels v)) e

-- binds that are joined

abbrev Binds : Type 0
Binds = List Bind

abbrev GivesShallowBinds : Option Binds → Type 0
GivesShallowBinds found = IfSome found AreShallowBinds

one-shallow : (x : Bind) → IsShallow x.value → AreShallowBinds (x ∷ [])
one-shallow x h = All-cons (λ (b : Bind). IsShallow b.value) x [] h (All-nil (λ (b : Bind). IsShallow b.value))

agreed-shallow : (a : Binds) (y : Bind) (all : Binds) (o : Option Term) → AreShallowBinds a → IsShallow y.value → agreed a y o ≡ Some all → AreShallowBinds all
agreed-shallow a y all None h k e = subst AreShallowBinds (same_Some (a ++ y ∷ []) all e) (All-append (λ (b : Bind). IsShallow b.value) a (y ∷ []) h (one-shallow y k))
agreed-shallow a y all (Some w) h k e = subst AreShallowBinds (agreed_same (is_same_term w y.value) a all e).1 h

joined-shallow : (a b ab : Binds) → AreShallowBinds a → AreShallowBinds b → joined a b ≡ Some ab → AreShallowBinds ab
joined-shallow a [] ab h k e = subst AreShallowBinds (same_Some a ab e) h
joined-shallow a (y ∷ b) ab h k e =
    let p = both_steps (λ (all : Binds). joined all b) (with_bind a y) ab e in
    joined-shallow p.0 b ab (agreed-shallow a y p.0 (bound y.slot a) h (All-head (λ (b : Bind). IsShallow b.value) y b k) p.1) (All-tail (λ (b : Bind). IsShallow b.value) y b k) p.2

joined-by : (a b : Binds) (o : Option Binds) → AreShallowBinds a → AreShallowBinds b → joined a b ≡ o → GivesShallowBinds o
joined-by a b None h k e = tt
joined-by a b (Some ab) h k e = joined-shallow a b ab h k e

both-shallow : (m r : Option Binds) → GivesShallowBinds m → GivesShallowBinds r → GivesShallowBinds (both m r)
both-shallow None r h k = tt
both-shallow (Some a) None h k = tt
both-shallow (Some a) (Some b) h k = joined-by a b (joined a b) h k refl

-- matches bind parts of what is matched

abbrev BindsShallow : Matching → Type 0
BindsShallow matching = (t : Term) → IsShallow t → GivesShallowBinds (matching t)

match_all-shallow : (ms : List Matching) (ts : List Term) → AllByRecursion BindsShallow ms → AllByRecursion IsShallow ts → GivesShallowBinds (match_all ms ts)
match_all-shallow [] [] h k = All-nil (λ (b : Bind). IsShallow b.value)
match_all-shallow [] (t ∷ ts) h k = tt
match_all-shallow (m ∷ ms) [] h k = tt
match_all-shallow (m ∷ ms) (t ∷ ts) h k = both-shallow (m t) (match_all ms ts) (h.0 t k.0) (match_all-shallow ms ts h.1 k.1)

none-shallow : (b : Bool) → GivesShallowBinds (binds_if b [])
none-shallow true = All-nil (λ (b : Bind). IsShallow b.value)
none-shallow false = tt

if-one-shallow : (b : Bool) (x : Bind) → IsShallow x.value → GivesShallowBinds (binds_if b (x ∷ []))
if-one-shallow true x h = one-shallow x h
if-one-shallow false x h = tt

same_name-shallow : (b : Bool) (o : Option Binds) → GivesShallowBinds o → GivesShallowBinds (if b then o else None)
same_name-shallow true o h = h
same_name-shallow false o h = tt

appl-shallow : (name : List ℕ) (ms : List Matching) (w : Term-F Term) → AllByRecursion BindsShallow ms → levels_step (map-Term Term ℕ term_levels w) ≤ 64 → GivesShallowBinds (match_appl name ms w)
appl-shallow name ms (term_layer.Int n) h k = tt
appl-shallow name ms (term_layer.Str s) h k = tt
appl-shallow name ms (term_layer.Appl other ts) h k = same_name-shallow (bytes_eq name other) (match_all ms ts) (match_all-shallow ms ts h (parts-shallow ts k))
appl-shallow name ms (term_layer.List ts) h k = tt

members-shallow : (ms : List Matching) (w : Term-F Term) → AllByRecursion BindsShallow ms → levels_step (map-Term Term ℕ term_levels w) ≤ 64 → GivesShallowBinds (match_members ms w)
members-shallow ms (term_layer.Int n) h k = tt
members-shallow ms (term_layer.Str s) h k = tt
members-shallow ms (term_layer.Appl name ts) h k = tt
members-shallow ms (term_layer.List ts) h k = match_all-shallow ms ts h (parts-shallow ts k)

opened-within : (t : Term) → IsShallow t → levels_step (map-Term Term ℕ term_levels (out-Term t)) ≤ 64
opened-within t h = subst (λ n. n ≤ 64) (opened-levels t (out-Term t) refl) h

abbrev PatternShallow : Pattern → Type 0
PatternShallow p = BindsShallow (match_term p)

abbrev Shown : Type 0
Shown = (p : Pattern) × PatternShallow p

each : (ps : List Shown) → AllByRecursion BindsShallow (map match_term (map (λ (s : Shown). s.0) ps))
each [] = tt
each (s ∷ ps) = (s.1, each ps)

rolled : (x y : Pattern-F Pattern) → BindsShallow (match_step (map-Pattern Pattern Matching match_term y)) → y ≡ x → PatternShallow (roll-Pattern x)
rolled x y h e = subst (λ (w : Pattern-F Pattern). PatternShallow (roll-Pattern w)) e (subst BindsShallow (sym (fold-roll-Pattern Matching match_step y)) h)

match_term-shallow : (p : Pattern) → PatternShallow p
match_term-shallow = ind-Pattern PatternShallow step where
  step : (x : Pattern-F Pattern) (y : Pattern-F Shown) → map-Pattern Shown Pattern (λ s. s.0) y ≡ x → PatternShallow (roll-Pattern x)
  step x (pattern_layer.Fixed f) e = rolled x (pattern_layer.Fixed f) (λ t h. none-shallow (is_same_term f t)) e
  step x (pattern_layer.Hole s) e = rolled x (pattern_layer.Hole s) (λ t h. none-shallow (has_sort t s)) e
  step x (pattern_layer.Result n s) e = rolled x (pattern_layer.Result n s) (λ t h. if-one-shallow (has_sort t s) (record { slot = n; value = t }) h) e
  step x (pattern_layer.Appl n ps) e =
      rolled x (pattern_layer.Appl n (map (λ (s : Shown). s.0) ps)) (λ t h. appl-shallow n (map match_term (map (λ (s : Shown). s.0) ps)) (out-Term t) (each ps) (opened-within t h)) e
  step x (pattern_layer.List ps) e =
      rolled x (pattern_layer.List (map (λ (s : Shown). s.0) ps)) (λ t h. members-shallow (map match_term (map (λ (s : Shown). s.0) ps)) (out-Term t) (each ps) (opened-within t h)) e

all-patterns : (ps : List Pattern) → AllByRecursion BindsShallow (map match_term ps)
all-patterns [] = tt
all-patterns (p ∷ ps) = (match_term-shallow p, all-patterns ps)

found-shallow : (o : Option Binds) (binds : Binds) → GivesShallowBinds o → o ≡ Some binds → AreShallowBinds binds
found-shallow None binds h e = cc
found-shallow (Some b) binds h e = subst AreShallowBinds (same_Some b binds e) h

-- what terms bind that match is as shallow as they are
pub match-shallow : (ps : List Pattern) (ts : List Term) (binds : List Bind) → All IsShallow ts → match_list ps ts ≡ Some binds → AreShallowBinds binds
match-shallow ps ts binds h e = found-shallow (match_list ps ts) binds (match_all-shallow (map match_term ps) ts (all-patterns ps) (recursion_from_All IsShallow ts h)) e
