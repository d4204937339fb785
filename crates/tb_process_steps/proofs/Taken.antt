-- A store takes the binds of its patterns: each slot exists, and each value has the type of its slot.
use Rattle.std.proofs.Common.{◌≡◌, ℕ, Bool, true, false, List, [], ◌∷◌, ◌++◌, map, Option, Some, None, IfSome, option_map, option_and_then, if◌then◌else◌, refl, ap, sym, ◌∙◌, subst}
use Rattle.std.proofs.lemmas.Bool.{and_from, and_parts}
use Rattle.std.proofs.lemmas.List.Folds.{list_all-append}
use Rattle.std.specs.List.{AllByRecursion}
use Rattle.std.specs.Str.{bytes_eq}
use Rattle.tb_terms.specs.declared.term.Term.{Term, out-Term}
use Rattle.tb_terms.specs.declared.term.Term.TheOpen as term_layer
use Rattle.tb_terms.specs.declared.term.Term.TheVariants as term
use Rattle.tb_terms.specs.declared.sort.Sort.{Sort}
use Rattle.tb_terms.specs.declared.expr.Func.{Func}
use Rattle.tb_terms.specs.declared.expr.Expr.{Expr, Expr-F, map-Expr, fold-roll-Expr, ind-Expr, roll-Expr}
use Rattle.tb_terms.specs.declared.expr.Expr.TheOpen as layer
use Rattle.tb_terms.specs.declared.pattern.Pattern.{Pattern, Pattern-F, map-Pattern, out-Pattern, fold_out-Pattern}
use Rattle.tb_terms.specs.declared.pattern.Pattern.TheOpen as pattern_layer
use Rattle.tb_terms.specs.declared.pattern.Pattern.TheVariants as pattern
use Rattle.tb_terms.specs.declared.pattern.Pattern.TheVariants.{outs-Fixed, outs-Hole, outs-Result, outs-Appl, outs-List}
use Rattle.tb_terms.specs.Same.{is_same_term}
use Rattle.tb_terms.specs.Sorts.{has_sort}
use Rattle.tb_func.specs.declared.slot.Slot.{Slot}
use Rattle.tb_func.specs.Apply.{apply_of}
use Rattle.tb_func.specs.Arguments.{of_both}
use Rattle.tb_func.specs.Limits.{limited}
use Rattle.tb_func.specs.Patterns.{pattern_of, pattern_step, of_parts, fixed_terms, appl_pattern, call_pattern, list_pattern}
use Rattle.tb_func.specs.Stores.{sort_at, value_at}
use Rattle.tb_func.specs.Values.{all_of}
use Rattle.tb_match.specs.declared.bind.Bind.{Bind}
use Rattle.tb_match.specs.Joining.{bound, agreed, with_bind, joined, both}
use Rattle.tb_match.specs.Matches.{Matching, match_all, match_appl, match_members, binds_if, match_step, match_term, match_list}
use Rattle.tb_match.proofs.Grouping.{both_steps, agreed_same}
use Rattle.tb_process_steps.specs.Atoms.{patterns_of, accepted}
use Rattle.tb_process_steps.specs.Binds.{has_slot_sort, takes_bind, takes_binds}

abbrev Binds : Type 0
Binds = List Bind

abbrev Writes : List Slot → Binds → Type 0
Writes store binds = takes_binds store binds ≡ true

-- if there are binds, the store takes them
abbrev TakesFound : List Slot → Option Binds → Type 0
TakesFound store found = IfSome found (Writes store)

-- joined binds

pub takes-append : (store : List Slot) (a b : Binds) → Writes store a → Writes store b → Writes store (a ++ b)
takes-append store a b h k = list_all-append (takes_bind store) a b ∙ and_from (takes_binds store a) (takes_binds store b) h k

takes-one : (store : List Slot) (x : Bind) → takes_bind store x ≡ true → Writes store (x ∷ [])
takes-one store x h = and_from (takes_bind store x) true h refl

agreed-taken : (store : List Slot) (a : Binds) (y : Bind) (all : Binds) (o : Option Term) → Writes store a → takes_bind store y ≡ true → agreed a y o ≡ Some all → Writes store all
agreed-taken store a y all None h k e =
    let is : a ++ y ∷ [] ≡ all = cc in
    subst (Writes store) is (takes-append store a (y ∷ []) h (takes-one store y k))
agreed-taken store a y all (Some w) h k e = subst (Writes store) (agreed_same (is_same_term w y.value) a all e).1 h

joined-taken : (store : List Slot) (a b ab : Binds) → Writes store a → Writes store b → joined a b ≡ Some ab → Writes store ab
joined-taken store a [] ab h k e =
    let is : a ≡ ab = cc in
    subst (Writes store) is h
joined-taken store a (y ∷ b) ab h k e =
    let p = both_steps (λ (all : Binds). joined all b) (with_bind a y) ab e in
    let parts = and_parts (takes_bind store y) (takes_binds store b) k in
    joined-taken store p.0 b ab (agreed-taken store a y p.0 (bound y.slot a) h parts.0 p.1) parts.1 p.2

taken_if : (store : List Slot) (a b : Binds) (o : Option Binds) → Writes store a → Writes store b → joined a b ≡ o → TakesFound store o
taken_if store a b None h k e = tt
taken_if store a b (Some ab) h k e = joined-taken store a b ab h k e

both-taken : (store : List Slot) (m r : Option Binds) → TakesFound store m → TakesFound store r → TakesFound store (both m r)
both-taken store None r h k = tt
both-taken store (Some a) None h k = tt
both-taken store (Some a) (Some b) h k = taken_if store a b (joined a b) h k refl

-- matchings

abbrev Good : List Slot → Matching → Type 0
Good store matching = (t : Term) → TakesFound store (matching t)

match_all-good : (store : List Slot) (ms : List Matching) (ts : List Term) → AllByRecursion (Good store) ms → TakesFound store (match_all ms ts)
match_all-good store [] [] h = refl
match_all-good store [] (t ∷ ts) h = tt
match_all-good store (m ∷ ms) [] h = tt
match_all-good store (m ∷ ms) (t ∷ ts) h = both-taken store (m t) (match_all ms ts) (h.0 t) (match_all-good store ms ts h.1)

none-good : (store : List Slot) (b : Bool) → TakesFound store (binds_if b [])
none-good store true = refl
none-good store false = tt

one-good : (store : List Slot) (b : Bool) (x : Bind) → takes_bind store x ≡ b → TakesFound store (binds_if b (x ∷ []))
one-good store true x e = takes-one store x e
one-good store false x e = tt

same_name : (store : List Slot) (b : Bool) (o : Option Binds) → TakesFound store o → TakesFound store (if b then o else None)
same_name store true o h = h
same_name store false o h = tt

appl-good : (store : List Slot) (name : List ℕ) (ms : List Matching) → AllByRecursion (Good store) ms → (w : term_layer.Term-F Term) → TakesFound store (match_appl name ms w)
appl-good store name ms h (term_layer.Int n) = tt
appl-good store name ms h (term_layer.Str s) = tt
appl-good store name ms h (term_layer.Appl other ts) = same_name store (bytes_eq name other) (match_all ms ts) (match_all-good store ms ts h)
appl-good store name ms h (term_layer.List ts) = tt

members-good : (store : List Slot) (ms : List Matching) → AllByRecursion (Good store) ms → (w : term_layer.Term-F Term) → TakesFound store (match_members ms w)
members-good store ms h (term_layer.Int n) = tt
members-good store ms h (term_layer.Str s) = tt
members-good store ms h (term_layer.Appl name ts) = tt
members-good store ms h (term_layer.List ts) = match_all-good store ms ts h

-- patterns

abbrev GoodPattern : List Slot → Pattern → Type 0
GoodPattern store p = Good store (match_term p)

all-good : (store : List Slot) (ps : List Pattern) → AllByRecursion (GoodPattern store) ps → AllByRecursion (Good store) (map match_term ps)
all-good store [] h = tt
all-good store (p ∷ ps) h = (h.0, all-good store ps h.1)

opened : (p : Pattern) (w : Pattern-F Pattern) → out-Pattern p ≡ w → match_term p ≡ match_step (map-Pattern Pattern Matching match_term w)
opened p w e = fold_out-Pattern Matching match_step p ∙ ap (λ (v : Pattern-F Pattern). match_step (map-Pattern Pattern Matching match_term v)) e

fixed-good : (store : List Slot) (f : Term) → GoodPattern store (pattern.Fixed f)
fixed-good store f = subst (Good store) (sym (opened (pattern.Fixed f) (pattern_layer.Fixed f) (outs-Fixed f))) (λ t. none-good store (is_same_term f t))

hole-good : (store : List Slot) (s : Sort) → GoodPattern store (pattern.Hole s)
hole-good store s = subst (Good store) (sym (opened (pattern.Hole s) (pattern_layer.Hole s) (outs-Hole s))) (λ t. none-good store (has_sort t s))

result-good : (store : List Slot) (n : ℕ) (s : Sort) → sort_at store n ≡ Some s → GoodPattern store (pattern.Result n s)
result-good store n s e =
    subst (Good store) (sym (opened (pattern.Result n s) (pattern_layer.Result n s) (outs-Result n s)))
    (λ t. one-good store (has_sort t s) (record { slot = n; value = t }) (ap (λ (o : Option Sort). has_slot_sort o t) e))

appl_pattern-good : (store : List Slot) (name : List ℕ) (ps : List Pattern) → AllByRecursion (GoodPattern store) ps → GoodPattern store (pattern.Appl name ps)
appl_pattern-good store name ps h =
    subst (Good store) (sym (opened (pattern.Appl name ps) (pattern_layer.Appl name ps) (outs-Appl name ps)))
    (λ t. appl-good store name (map match_term ps) (all-good store ps h) (out-Term t))

list_pattern-good : (store : List Slot) (ps : List Pattern) → AllByRecursion (GoodPattern store) ps → GoodPattern store (pattern.List ps)
list_pattern-good store ps h =
    subst (Good store) (sym (opened (pattern.List ps) (pattern_layer.List ps) (outs-List ps)))
    (λ t. members-good store (map match_term ps) (all-good store ps h) (out-Term t))

-- expressions as patterns

abbrev GoodFound : List Slot → Option Pattern → Type 0
GoodFound store found = IfSome found (GoodPattern store)

maybe_fixed-good : (store : List Slot) (o : Option Term) → GoodFound store (option_map pattern.Fixed o)
maybe_fixed-good store None = tt
maybe_fixed-good store (Some t) = fixed-good store t

maybe_result-good : (store : List Slot) (n : ℕ) (o : Option Sort) → sort_at store n ≡ o → GoodFound store (option_map (pattern.Result n) o)
maybe_result-good store n None e = tt
maybe_result-good store n (Some s) e = result-good store n s e

of_parts-good : (store : List Slot) (value : List Term → Option Term) (other : Pattern) (o : Option (List Term)) → GoodPattern store other → GoodFound store (of_parts value other o)
of_parts-good store value other None h = h
of_parts-good store value other (Some ts) h = maybe_fixed-good store (value ts)

abbrev GoodAll : List Slot → Option (List Pattern) → Type 0
GoodAll store found = IfSome found (AllByRecursion (GoodPattern store))

cons-good : (store : List Slot) (o : Option Pattern) (os : Option (List Pattern)) → GoodFound store o → GoodAll store os → GoodAll store (of_both (λ x xs. Some (x ∷ xs)) o os)
cons-good store None os h k = tt
cons-good store (Some p) None h k = tt
cons-good store (Some p) (Some ps) h k = (h, k)

all_of-good : (store : List Slot) (os : List (Option Pattern)) → AllByRecursion (GoodFound store) os → GoodAll store (all_of os)
all_of-good store [] h = tt
all_of-good store (o ∷ os) h = cons-good store o (all_of os) h.0 (all_of-good store os h.1)

then_appl-good : (store : List Slot) (name : List ℕ) (o : Option (List Pattern)) → GoodAll store o → GoodFound store (option_and_then (appl_pattern name) o)
then_appl-good store name None h = tt
then_appl-good store name (Some ps) h = of_parts-good store (λ ts. limited (term.Appl name ts)) (pattern.Appl name ps) (fixed_terms ps) (appl_pattern-good store name ps h)

then_list-good : (store : List Slot) (o : Option (List Pattern)) → GoodAll store o → GoodFound store (option_and_then list_pattern o)
then_list-good store None h = tt
then_list-good store (Some ps) h = of_parts-good store (λ ts. limited (term.List ts)) (pattern.List ps) (fixed_terms ps) (list_pattern-good store ps h)

then_call-good : (store : List Slot) (func : Func) (o : Option (List Pattern)) → GoodFound store (option_and_then (call_pattern func) o)
then_call-good store func None = tt
then_call-good store func (Some ps) = maybe_fixed-good store (option_and_then (apply_of func) (fixed_terms ps))

abbrev IsGood : List Slot → Expr → Type 0
IsGood store e = GoodFound store (pattern_of store e)

abbrev Shown : List Slot → Type 0
Shown store = (e : Expr) × IsGood store e

abbrev exprs_of : (store : List Slot) → List (Shown store) → List Expr
exprs_of store ps = map (λ (p : Shown store). p.0) ps

parts-good : (store : List Slot) (ps : List (Shown store)) → AllByRecursion (GoodFound store) (map (pattern_of store) (exprs_of store ps))
parts-good store [] = tt
parts-good store (p ∷ ps) = (p.1, parts-good store ps)

abbrev IsGoodLayer : List Slot → Expr-F Expr → Type 0
IsGoodLayer store x = GoodFound store (pattern_step store (map-Expr Expr (Option Pattern) (pattern_of store) x))

layer-good : (store : List Slot) (y : Expr-F (Shown store)) → IsGoodLayer store (map-Expr (Shown store) Expr (λ s. s.0) y)
layer-good store (layer.Int n) = fixed-good store (term.Int n)
layer-good store (layer.Str s) = maybe_fixed-good store (limited (term.Str s))
layer-good store (layer.Var slot) = maybe_fixed-good store (value_at store slot)
layer-good store (layer.Result slot) = maybe_result-good store slot (sort_at store slot) refl
layer-good store (layer.Hole sort) = hole-good store sort
layer-good store (layer.Appl name ps) = then_appl-good store name (all_of (map (pattern_of store) (exprs_of store ps))) (all_of-good store (map (pattern_of store) (exprs_of store ps)) (parts-good store ps))
layer-good store (layer.Call func ps) = then_call-good store func (all_of (map (pattern_of store) (exprs_of store ps)))
layer-good store (layer.List ps) = then_list-good store (all_of (map (pattern_of store) (exprs_of store ps))) (all_of-good store (map (pattern_of store) (exprs_of store ps)) (parts-good store ps))

pattern_of-good : (store : List Slot) (e : Expr) → IsGood store e
pattern_of-good store = ind-Expr (IsGood store) step where
  step : (x : Expr-F Expr) (y : Expr-F (Shown store)) → map-Expr (Shown store) Expr (λ s. s.0) y ≡ x → IsGood store (roll-Expr x)
  step x y e = subst (GoodFound store) (sym (fold-roll-Expr (Option Pattern) (pattern_step store) x)) (subst (IsGoodLayer store) e (layer-good store y))

exprs-good : (store : List Slot) (exprs : List Expr) → AllByRecursion (GoodFound store) (map (pattern_of store) exprs)
exprs-good store [] = tt
exprs-good store (e ∷ es) = (pattern_of-good store e, exprs-good store es)

patterns-taken : (store : List Slot) (terms : List Term) (o : Option (List Pattern)) → GoodAll store o → TakesFound store (option_and_then (λ ps. match_list ps terms) o)
patterns-taken store terms None h = tt
patterns-taken store terms (Some ps) h = match_all-good store (map match_term ps) terms (all-good store ps h)

pub accepted-taken : (store : List Slot) (exprs : List Expr) (terms : List Term) → IfSome (accepted store exprs terms) (λ binds. takes_binds store binds ≡ true)
accepted-taken store exprs terms = patterns-taken store terms (patterns_of store exprs) (all_of-good store (map (pattern_of store) exprs) (exprs-good store exprs))

found-taken : (store : List Slot) (o : Option Binds) (binds : Binds) → TakesFound store o → o ≡ Some binds → Writes store binds
found-taken store None binds h e = absurd (let t : ◌≡◌ {A = Option Binds} None (Some binds) = e in cc)
found-taken store (Some b) binds h e = let is : b ≡ binds = cc in subst (Writes store) is h

-- the store takes the binds of accepted terms
pub binds-taken : (store : List Slot) (exprs : List Expr) (terms : List Term) (binds : Binds) → accepted store exprs terms ≡ Some binds → takes_binds store binds ≡ true
binds-taken store exprs terms binds e = found-taken store (accepted store exprs terms) binds (accepted-taken store exprs terms) e
