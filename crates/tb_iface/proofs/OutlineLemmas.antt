-- The value of an expression matches its outline, and so does a value that matches it as a pattern.
use Rattle.std.proofs.Common.{◌≡◌, ℕ, zero, suc, Bool, true, false, ◌&&◌, ◌||◌, codes, List, [], ◌∷◌, map, Option, Some, None, is_some, IsSome, IfSome, IsTrue, option_map, option_and_then, if◌then◌else◌, refl, sym, ap, ◌∙◌, subst}
use Rattle.std.proofs.lemmas.Bool.{and_parts}
use Rattle.std.proofs.lemmas.Slice.Eq.{bytes_eq-Decides}
use Rattle.std.specs.List.{AllByRecursion}
use Rattle.std.specs.Str.{bytes_eq}
use Rattle.tb_terms.specs.declared.term.Term.{Term, Term-F, out-Term}
use Rattle.tb_terms.specs.declared.term.Term.TheOpen as layer
use Rattle.tb_terms.specs.declared.term.Term.TheVariants as term
use Rattle.tb_terms.specs.declared.sort.Sort.{Sort, Sort-F, map-Sort, out-Sort, fold-Sort, fold_out-Sort}
use Rattle.tb_terms.specs.declared.sort.Sort.TheOpen as open_sort
use Rattle.tb_terms.specs.declared.sort.Sort.TheVariants as sort
use Rattle.tb_terms.specs.declared.expr.Func.{Func}
use Rattle.tb_terms.specs.declared.expr.Expr.{Expr, Expr-F, map-Expr, out-Expr, fold_out-Expr, fold-roll-Expr, ind-Expr, roll-Expr}
use Rattle.tb_terms.specs.declared.expr.Expr.TheOpen as open_expr
use Rattle.tb_terms.specs.declared.pattern.Pattern.{Pattern}
use Rattle.tb_terms.specs.declared.pattern.Pattern.TheVariants as pattern
use Rattle.tb_terms.specs.Sizes.{is_within_limits}
use Rattle.tb_terms.specs.Sorts.{has_sort, sort_step, is_word, is_int, is_str, is_list_of, is_one_int, is_tool}
use Rattle.tb_func.specs.declared.slot.Slot.{Slot}
use Rattle.tb_func.specs.Apply.{apply_of}
use Rattle.tb_func.specs.Fitting.{fits, sort_of}
use Rattle.tb_func.specs.Functions.{signature_of}
use Rattle.tb_func.specs.Limits.{limited}
use Rattle.tb_func.specs.Patterns.{pattern_of, pattern_step, appl_pattern, call_pattern, list_pattern, of_parts, fixed_terms}
use Rattle.tb_func.specs.Stores.{are_well_sorted, is_well_sorted, sort_at, value_at}
use Rattle.tb_func.specs.Values.{all_of, value_of, value_step}
use Rattle.tb_func.proofs.FittingLemmas.{value-fits}
use Rattle.tb_match.specs.Matches.{match_list, match_term}
use Rattle.tb_process_steps.specs.Atoms.{patterns_of}
use Rattle.tb_process_steps.specs.Walks.{sorts_of}
use Rattle.tb_iface.specs.Outlines.{outline, outline_step, may_be, may_be_in, may_be_sort, slot_sort}
use Rattle.tb_iface.proofs.MatchLemmas.{then-some, map-some, cons-some, list-match, fixed-is, hole-has, result-has, fixed-plain, hole-plain, both-plain, Within, AreWithin, none-within, cons-within, appl-within, list-within, fixed-all}
pub use Rattle.tb_iface.proofs.MatchLemmas.{line-match}

-- what is left of a value, of a variable's and of a function's

if-is : (b : Bool) (t u : Term) → ◌≡◌ {A = Option Term} (if b then Some t else None) (Some u) → t ≡ u
if-is true t u h = cc
if-is false t u h = cc

limited-is : (t u : Term) → limited t ≡ Some u → t ≡ u
limited-is t u h = if-is (is_within_limits t) t u h

value-sorted : (store : List Slot) (slot : ℕ) (t : Term) → are_well_sorted store ≡ true → value_at store slot ≡ Some t → has_sort t (slot_sort (sorts_of store) slot) ≡ true
value-sorted [] slot t well h = cc
value-sorted (s ∷ store) zero t well h =
    let e : s.value ≡ t = cc in
    subst (λ (u : Term). has_sort u s.sort ≡ true) e (and_parts (is_well_sorted s) (are_well_sorted store) well).0
value-sorted (s ∷ store) (suc slot) t well h = value-sorted store slot t (and_parts (is_well_sorted s) (are_well_sorted store) well).1 h

sort-at : (store : List Slot) (slot : ℕ) (s : Sort) → sort_at store slot ≡ Some s → s ≡ slot_sort (sorts_of store) slot
sort-at [] slot s h = cc
sort-at (one ∷ store) zero s h = cc
sort-at (one ∷ store) (suc slot) s h = sort-at store slot s h

result-fits : (func : Func) (ts : List Term) (t : Term) → apply_of func ts ≡ Some t → has_sort t (sort_of (signature_of func).result) ≡ true
result-fits func ts t h = subst (λ (o : Option Term). IfSome o (λ v. IsTrue (fits (signature_of func).result v))) h (value-fits func ts)

-- The value of an expression matches its outline.

abbrev outlines : List Slot → List Expr → List Pattern
outlines store es = map (outline (sorts_of store)) es

abbrev Worth : List Slot → Expr → Type 0
Worth store e = (t : Term) → value_of store e ≡ Some t → match_term (outline (sorts_of store) e) t ≡ Some []

values-plain : (store : List Slot) (es : List Expr) (ts : List Term) → AllByRecursion (Worth store) es → all_of (map (value_of store) es) ≡ Some ts → match_list (outlines store es) ts ≡ Some []
values-plain store [] ts each h =
    let e : [] ≡ ts = cc in
    subst (λ (l : List Term). match_list [] l ≡ Some []) e refl
values-plain store (e ∷ es) ts each h =
    let c = cons-some (value_of store e) (all_of (map (value_of store) es)) ts h in
    let both = both-plain (match_term (outline (sorts_of store) e) c.0) (match_list (outlines store es) c.1) (each.0 c.0 c.2) (values-plain store es c.1 each.1 c.3) in
    subst (λ (l : List Term). match_list (outlines store (e ∷ es)) l ≡ Some []) c.4 both

abbrev WorthIn : List Slot → Expr-F Expr → Type 0
WorthIn store x = (t : Term) → value_step store (map-Expr Expr (Option Term) (value_of store) x) ≡ Some t → match_term (outline_step (sorts_of store) (map-Expr Expr Pattern (outline (sorts_of store)) x)) t ≡ Some []

abbrev Shown : (Expr → Type 0) → Type 0
Shown P = (e : Expr) × P e

abbrev exprs_in : (P : Expr → Type 0) → List (Shown P) → List Expr
exprs_in P ps = map (λ (p : Shown P). p.0) ps

each : (P : Expr → Type 0) (ps : List (Shown P)) → AllByRecursion P (exprs_in P ps)
each P [] = tt
each P (p ∷ ps) = (p.1, each P ps)

worth-appl : (store : List Slot) (name : List ℕ) (es : List Expr) → AllByRecursion (Worth store) es → WorthIn store (open_expr.Appl name es)
worth-appl store name es parts t h =
    let a = then-some (λ (ts : List Term). limited (term.Appl name ts)) (all_of (map (value_of store) es)) t h in
    subst (λ (u : Term). match_term (pattern.Appl name (outlines store es)) u ≡ Some []) (limited-is (term.Appl name a.0) t a.2) (line-match name (outlines store es) a.0 ∙ values-plain store es a.0 parts a.1)

worth-list : (store : List Slot) (es : List Expr) → AllByRecursion (Worth store) es → WorthIn store (open_expr.List es)
worth-list store es parts t h =
    let a = then-some (λ (ts : List Term). limited (term.List ts)) (all_of (map (value_of store) es)) t h in
    subst (λ (u : Term). match_term (pattern.List (outlines store es)) u ≡ Some []) (limited-is (term.List a.0) t a.2) (list-match (outlines store es) a.0 ∙ values-plain store es a.0 parts a.1)

worth-in : (store : List Slot) → are_well_sorted store ≡ true → (y : Expr-F (Shown (Worth store))) → WorthIn store (map-Expr (Shown (Worth store)) Expr (λ s. s.0) y)
worth-in store well (open_expr.Int n) t h =
    let e : term.Int n ≡ t = cc in
    fixed-plain (term.Int n) t e
worth-in store well (open_expr.Str s) t h = fixed-plain (term.Str s) t (limited-is (term.Str s) t h)
worth-in store well (open_expr.Var slot) t h = hole-plain (slot_sort (sorts_of store) slot) t (value-sorted store slot t well h)
worth-in store well (open_expr.Result slot) t h = cc
worth-in store well (open_expr.Hole s) t h = cc
worth-in store well (open_expr.Appl name ps) t h = worth-appl store name (exprs_in (Worth store) ps) (each (Worth store) ps) t h
worth-in store well (open_expr.Call func ps) t h =
    let a = then-some (apply_of func) (all_of (map (value_of store) (exprs_in (Worth store) ps))) t h in
    hole-plain (sort_of (signature_of func).result) t (result-fits func a.0 t a.2)
worth-in store well (open_expr.List ps) t h = worth-list store (exprs_in (Worth store) ps) (each (Worth store) ps) t h

worth-roll : (store : List Slot) (x : Expr-F Expr) → WorthIn store x → Worth store (roll-Expr x)
worth-roll store x f t h =
    ap (λ (p : Pattern). match_term p t) (fold-roll-Expr Pattern (outline_step (sorts_of store)) x)
    ∙ f t (sym (fold-roll-Expr (Option Term) (value_step store) x) ∙ h)

worth : (store : List Slot) → are_well_sorted store ≡ true → (e : Expr) → Worth store e
worth store well = ind-Expr (Worth store) step where
  step : (x : Expr-F Expr) (y : Expr-F (Shown (Worth store))) → map-Expr (Shown (Worth store)) Expr (λ s. s.0) y ≡ x → Worth store (roll-Expr x)
  step x y e = worth-roll store x (subst (WorthIn store) e (worth-in store well y))

each-worth : (store : List Slot) → are_well_sorted store ≡ true → (es : List Expr) → AllByRecursion (Worth store) es
each-worth store well [] = tt
each-worth store well (e ∷ es) = (worth store well e, each-worth store well es)

pub value-match : (store : List Slot) (expr : Expr) (value : Term) → are_well_sorted store ≡ true → value_of store expr ≡ Some value → IsSome (match_term (outline (sorts_of store) expr) value)
value-match store expr value well h = ap is_some (worth store well expr value h)

pub values-match : (store : List Slot) (exprs : List Expr) (terms : List Term) → are_well_sorted store ≡ true → all_of (map (value_of store) exprs) ≡ Some terms → IsSome (match_list (map (outline (sorts_of store)) exprs) terms)
values-match store exprs terms well h = ap is_some (values-plain store exprs terms (each-worth store well exprs) h)

-- What matches an expression as a pattern matches its outline.

abbrev Wide : List Slot → Expr → Type 0
Wide store e = (p : Pattern) → pattern_of store e ≡ Some p → Within p (outline (sorts_of store) e)

patterns-wide : (store : List Slot) (es : List Expr) (ps : List Pattern) → AllByRecursion (Wide store) es → all_of (map (pattern_of store) es) ≡ Some ps → AreWithin ps (outlines store es)
patterns-wide store [] ps each h =
    let e : [] ≡ ps = cc in
    subst (λ (l : List Pattern). AreWithin l []) e none-within
patterns-wide store (e ∷ es) ps each h =
    let c = cons-some (pattern_of store e) (all_of (map (pattern_of store) es)) ps h in
    let both = cons-within c.0 (outline (sorts_of store) e) c.1 (outlines store es) (each.0 c.0 c.2) (patterns-wide store es c.1 each.1 c.3) in
    subst (λ (l : List Pattern). AreWithin l (outlines store (e ∷ es))) c.4 both

fixed-within : (f : Term) (q : Pattern) → match_term q f ≡ Some [] → Within (pattern.Fixed f) q
fixed-within f q h t k = subst (λ (u : Term). match_term q u ≡ Some []) (fixed-is f t k) h

-- a term of parts, which is one term alone where the parts are
record IsNode (node : List Pattern → Pattern) (made : List Term → Term) : Type 0 where
  opens : (ps : List Pattern) (ts : List Term) → match_term (node ps) (made ts) ≡ match_list ps ts
  within : (ps qs : List Pattern) → AreWithin ps qs → Within (node ps) (node qs)

parts-wide : (node : List Pattern → Pattern) (made : List Term → Term) → IsNode node made → (ps qs : List Pattern) (p : Pattern) (o : Option (List Term)) → AreWithin ps qs → fixed_terms ps ≡ o →
    of_parts (λ ts. limited (made ts)) (node ps) o ≡ Some p → Within p (node qs)
parts-wide node made is ps qs p None f e h =
    let same : node ps ≡ p = cc in
    subst (λ (one : Pattern). Within one (node qs)) same (is.within ps qs f)
parts-wide node made is ps qs p (Some ts) f e h =
    let a = map-some pattern.Fixed (limited (made ts)) p h in
    let own : match_term (node qs) (made ts) ≡ Some [] = is.opens qs ts ∙ f ts (ap is_some (fixed-all ps ts e)) in
    let here = fixed-within a.0 (node qs) (subst (λ (u : Term). match_term (node qs) u ≡ Some []) (limited-is (made ts) a.0 a.1) own) in
    subst (λ (one : Pattern). Within one (node qs)) a.2 here

appl-node : (name : List ℕ) → IsNode (pattern.Appl name) (term.Appl name)
appl-node name = record { opens = line-match name; within = appl-within name }

list-node : IsNode pattern.List term.List
list-node = record { opens = list-match; within = list-within }

abbrev WideIn : List Slot → Expr-F Expr → Type 0
WideIn store x = (p : Pattern) → pattern_step store (map-Expr Expr (Option Pattern) (pattern_of store) x) ≡ Some p → Within p (outline_step (sorts_of store) (map-Expr Expr Pattern (outline (sorts_of store)) x))

wide-appl : (store : List Slot) (name : List ℕ) (es : List Expr) → AllByRecursion (Wide store) es → WideIn store (open_expr.Appl name es)
wide-appl store name es parts p h =
    let a = then-some (appl_pattern name) (all_of (map (pattern_of store) es)) p h in
    parts-wide (pattern.Appl name) (term.Appl name) (appl-node name) a.0 (outlines store es) p (fixed_terms a.0) (patterns-wide store es a.0 parts a.1) refl a.2

wide-list : (store : List Slot) (es : List Expr) → AllByRecursion (Wide store) es → WideIn store (open_expr.List es)
wide-list store es parts p h =
    let a = then-some list_pattern (all_of (map (pattern_of store) es)) p h in
    parts-wide pattern.List term.List list-node a.0 (outlines store es) p (fixed_terms a.0) (patterns-wide store es a.0 parts a.1) refl a.2

-- a pattern that is this term alone
alone-within : (o : Option Term) (p q : Pattern) → option_map pattern.Fixed o ≡ Some p → ((t : Term) → o ≡ Some t → match_term q t ≡ Some []) → Within p q
alone-within o p q h f =
    let a = map-some pattern.Fixed o p h in
    subst (λ (one : Pattern). Within one q) a.2 (fixed-within a.0 q (f a.0 a.1))

wide-in : (store : List Slot) → are_well_sorted store ≡ true → (y : Expr-F (Shown (Wide store))) → WideIn store (map-Expr (Shown (Wide store)) Expr (λ s. s.0) y)
wide-in store well (open_expr.Int n) p h =
    let e : pattern.Fixed (term.Int n) ≡ p = cc in
    subst (λ (one : Pattern). Within one (pattern.Fixed (term.Int n))) e (fixed-within (term.Int n) (pattern.Fixed (term.Int n)) (fixed-plain (term.Int n) (term.Int n) refl))
wide-in store well (open_expr.Str s) p h = alone-within (limited (term.Str s)) p (pattern.Fixed (term.Str s)) h (λ t k. fixed-plain (term.Str s) t (limited-is (term.Str s) t k))
wide-in store well (open_expr.Var slot) p h =
    let hole = slot_sort (sorts_of store) slot in
    alone-within (value_at store slot) p (pattern.Hole hole) h (λ t k. hole-plain hole t (value-sorted store slot t well k))
wide-in store well (open_expr.Result slot) p h =
    let hole = slot_sort (sorts_of store) slot in
    let a = map-some (pattern.Result slot) (sort_at store slot) p h in
    subst (λ (one : Pattern). Within one (pattern.Hole hole)) a.2
    (λ t k. hole-plain hole t (subst (λ (s : Sort). has_sort t s ≡ true) (sort-at store slot a.0 a.1) (result-has slot a.0 t k)))
wide-in store well (open_expr.Hole s) p h =
    let e : pattern.Hole s ≡ p = cc in
    subst (λ (one : Pattern). Within one (pattern.Hole s)) e (λ t k. hole-plain s t (hole-has s t k))
wide-in store well (open_expr.Appl name ps) p h = wide-appl store name (exprs_in (Wide store) ps) (each (Wide store) ps) p h
wide-in store well (open_expr.Call func ps) p h =
    let hole = sort_of (signature_of func).result in
    let a = then-some (call_pattern func) (all_of (map (pattern_of store) (exprs_in (Wide store) ps))) p h in
    alone-within (option_and_then (apply_of func) (fixed_terms a.0)) p (pattern.Hole hole) a.2
    (λ t k. let b = then-some (apply_of func) (fixed_terms a.0) t k in hole-plain hole t (result-fits func b.0 t b.2))
wide-in store well (open_expr.List ps) p h = wide-list store (exprs_in (Wide store) ps) (each (Wide store) ps) p h

wide-roll : (store : List Slot) (x : Expr-F Expr) → WideIn store x → Wide store (roll-Expr x)
wide-roll store x f p h t k =
    ap (λ (q : Pattern). match_term q t) (fold-roll-Expr Pattern (outline_step (sorts_of store)) x)
    ∙ f p (sym (fold-roll-Expr (Option Pattern) (pattern_step store) x) ∙ h) t k

wide : (store : List Slot) → are_well_sorted store ≡ true → (e : Expr) → Wide store e
wide store well = ind-Expr (Wide store) step where
  step : (x : Expr-F Expr) (y : Expr-F (Shown (Wide store))) → map-Expr (Shown (Wide store)) Expr (λ s. s.0) y ≡ x → Wide store (roll-Expr x)
  step x y e = wide-roll store x (subst (WideIn store) e (wide-in store well y))

each-wide : (store : List Slot) → are_well_sorted store ≡ true → (es : List Expr) → AllByRecursion (Wide store) es
each-wide store well [] = tt
each-wide store well (e ∷ es) = (wide store well e, each-wide store well es)

pub pattern-match : (store : List Slot) (expr : Expr) (pattern : Pattern) (term : Term) → are_well_sorted store ≡ true → pattern_of store expr ≡ Some pattern → IsSome (match_term pattern term) → IsSome (match_term (outline (sorts_of store) expr) term)
pattern-match store expr pattern term well h k = ap is_some (wide store well expr pattern h term k)

pub patterns-match : (store : List Slot) (exprs : List Expr) (patterns : List Pattern) (terms : List Term) → are_well_sorted store ≡ true → patterns_of store exprs ≡ Some patterns →
    IsSome (match_list patterns terms) → IsSome (match_list (map (outline (sorts_of store)) exprs) terms)
patterns-match store exprs patterns terms well h k = ap is_some (patterns-wide store exprs patterns (each-wide store well exprs) h terms k)

-- An expression that evaluates to a tool may be that tool.

abbrev pub Test : Type 0
Test = Term → Bool

abbrev pub test : Sort-F Sort → Test
test w = sort_step (map-Sort Sort Test (fold-Sort Test sort_step) w)

pub has-layer : (t : Term) (s : Sort) → has_sort t s ≡ test (out-Sort s) t
has-layer t s = ap (λ (g : Test). g t) (fold_out-Sort Test sort_step s)

pub has-tool : (t : Term) (tool : List ℕ) → has_sort t (sort.Tool tool) ≡ is_tool tool (out-Term t)
has-tool t tool = has-layer t (sort.Tool tool) ∙ ap (λ (w : Sort-F Sort). test w t) (sort.outs-Tool tool)

-- a tool is its name with one number
record IsToolIn (tool : List ℕ) (x : Term-F Term) : Type 0 where
  number : Term
  is : x ≡ layer.Appl tool (number ∷ [])

one-number : (tool name : List ℕ) (ts : List Term) → bytes_eq name tool ≡ true → is_one_int ts ≡ true → IsToolIn tool (layer.Appl name ts)
one-number tool name [] same one = cc
one-number tool name (t ∷ []) same one = record { number = t; is = ap (λ (word : List ℕ). layer.Appl word (t ∷ [])) ((bytes_eq-Decides name tool).0 same) }
one-number tool name (t ∷ u ∷ ts) same one = cc

tool-in : (tool : List ℕ) (x : Term-F Term) → is_tool tool x ≡ true → IsToolIn tool x
tool-in tool (layer.Int n) h = cc
tool-in tool (layer.Str s) h = cc
tool-in tool (layer.Appl name ts) h =
    let parts = and_parts (bytes_eq name tool) (is_one_int ts) h in
    one-number tool name ts parts.0 parts.1
tool-in tool (layer.List ts) h = cc

abbrev pub is_bool : Term-F Term → Bool
is_bool x = is_word (codes "true") x || is_word (codes "false") x

may-sort : (tool : List ℕ) (number t : Term) (w : Sort-F Sort) → out-Term t ≡ layer.Appl tool (number ∷ []) → test w t ≡ true → may_be_sort tool w ≡ true
may-sort tool number t open_sort.Bool e h = sym (ap is_bool e) ∙ h
may-sort tool number t open_sort.Int e h = sym (ap is_int e) ∙ h
may-sort tool number t open_sort.Str e h = sym (ap is_str e) ∙ h
may-sort tool number t (open_sort.List members) e h = sym (ap (is_list_of (fold-Sort Test sort_step members)) e) ∙ h
may-sort tool number t open_sort.Any e h = refl
may-sort tool number t (open_sort.Tool name) e h =
    let named : (bytes_eq tool name && is_one_int (number ∷ [])) ≡ true = sym (ap (is_tool name) e) ∙ h in
    let same = (bytes_eq-Decides tool name).0 (and_parts (bytes_eq tool name) (is_one_int (number ∷ [])) named).0 in
    (bytes_eq-Decides name tool).1 (sym same)

may-hole : (tool : List ℕ) (number t : Term) (s : Sort) → out-Term t ≡ layer.Appl tool (number ∷ []) → has_sort t s ≡ true → may_be tool (pattern.Hole s) ≡ true
may-hole tool number t s e h = ap (may_be_in tool) (pattern.outs-Hole s) ∙ may-sort tool number t (out-Sort s) e (sym (has-layer t s) ∙ h)

may-parts : (store : List Slot) (tool : List ℕ) (number : Term) (es : List Expr) → all_of (map (value_of store) es) ≡ Some (number ∷ []) → may_be tool (pattern.Appl tool (outlines store es)) ≡ true
may-parts store tool number [] h = cc
may-parts store tool number (e ∷ []) h = ap (may_be_in tool) (pattern.outs-Appl tool (outlines store (e ∷ []))) ∙ (bytes_eq-Decides tool tool).1 refl
may-parts store tool number (e ∷ f ∷ es) h =
    let c = cons-some (value_of store e) (all_of (map (value_of store) (f ∷ es))) (number ∷ []) h in
    let d = cons-some (value_of store f) (all_of (map (value_of store) es)) c.1 c.3 in
    let rest : c.1 ≡ [] = cc in
    let more : d.0 ∷ d.1 ≡ [] = d.4 ∙ rest in
    cc

may-in : (store : List Slot) (tool : List ℕ) (number t : Term) → are_well_sorted store ≡ true → out-Term t ≡ layer.Appl tool (number ∷ []) → (x : Expr-F Expr) → value_step store (map-Expr Expr (Option Term) (value_of store) x) ≡ Some t →
    may_be tool (outline_step (sorts_of store) (map-Expr Expr Pattern (outline (sorts_of store)) x)) ≡ true
may-in store tool number t well e (open_expr.Int n) h =
    let is : term.Int n ≡ t = cc in
    let same : ◌≡◌ {A = Term-F Term} (layer.Int n) (layer.Appl tool (number ∷ [])) = sym (term.outs-Int n) ∙ ap out-Term is ∙ e in
    cc
may-in store tool number t well e (open_expr.Str s) h =
    let same : ◌≡◌ {A = Term-F Term} (layer.Str s) (layer.Appl tool (number ∷ [])) = sym (term.outs-Str s) ∙ ap out-Term (limited-is (term.Str s) t h) ∙ e in
    cc
may-in store tool number t well e (open_expr.Var slot) h = may-hole tool number t (slot_sort (sorts_of store) slot) e (value-sorted store slot t well h)
may-in store tool number t well e (open_expr.Result slot) h = cc
may-in store tool number t well e (open_expr.Hole s) h = cc
may-in store tool number t well e (open_expr.Appl name es) h =
    let a = then-some (λ (ts : List Term). limited (term.Appl name ts)) (all_of (map (value_of store) es)) t h in
    let same : ◌≡◌ {A = Term-F Term} (layer.Appl name a.0) (layer.Appl tool (number ∷ [])) = sym (term.outs-Appl name a.0) ∙ ap out-Term (limited-is (term.Appl name a.0) t a.2) ∙ e in
    let named : name ≡ tool = cc in
    let parts : a.0 ≡ number ∷ [] = cc in
    subst (λ (word : List ℕ). may_be tool (pattern.Appl word (outlines store es)) ≡ true) (sym named) (may-parts store tool number es (a.1 ∙ ap (λ (l : List Term). Some l) parts))
may-in store tool number t well e (open_expr.Call func es) h =
    let a = then-some (apply_of func) (all_of (map (value_of store) es)) t h in
    may-hole tool number t (sort_of (signature_of func).result) e (result-fits func a.0 t a.2)
may-in store tool number t well e (open_expr.List es) h =
    let a = then-some (λ (ts : List Term). limited (term.List ts)) (all_of (map (value_of store) es)) t h in
    let same : ◌≡◌ {A = Term-F Term} (layer.List a.0) (layer.Appl tool (number ∷ [])) = sym (term.outs-List a.0) ∙ ap out-Term (limited-is (term.List a.0) t a.2) ∙ e in
    cc

pub tool-may_be : (store : List Slot) (first : Expr) (value : Term) (tool : List ℕ) → are_well_sorted store ≡ true → value_of store first ≡ Some value → has_sort value (sort.Tool tool) ≡ true →
    may_be tool (outline (sorts_of store) first) ≡ true
tool-may_be store first value tool well h k =
    let is = tool-in tool (out-Term value) (sym (has-tool value tool) ∙ k) in
    let worth_so = sym (fold_out-Expr (Option Term) (value_step store) first) ∙ h in
    ap (may_be tool) (fold_out-Expr Pattern (outline_step (sorts_of store)) first)
    ∙ may-in store tool is.number value well is.is (out-Expr first) worth_so
