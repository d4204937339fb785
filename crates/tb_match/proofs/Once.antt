-- A match binds each slot at most once.
use Rattle.std.proofs.Common.{◌≡◌, ℕ, ◌==◌, Bool, true, false, List, [], ◌∷◌, ◌++◌, map, Option, Some, None, IfSome, option_and_then, if◌then◌else◌, refl, ap, sym, ◌∙◌, subst, append_assoc, append-nil, rules}
use Rattle.std.specs.List.{AllByRecursion}
use Rattle.std.specs.Str.{bytes_eq}
use Rattle.tb_terms.specs.declared.term.Term.{Term, out-Term}
use Rattle.tb_terms.specs.declared.term.Term.TheOpen as term
use Rattle.tb_terms.specs.declared.pattern.Pattern.{Pattern, Pattern-F, map-Pattern, ind-Pattern, roll-Pattern, fold-roll-Pattern}
use Rattle.tb_terms.specs.declared.pattern.Pattern.TheOpen as layer
use Rattle.tb_terms.specs.Same.{is_same_term}
use Rattle.tb_terms.specs.Sorts.{has_sort}
use Rattle.tb_match.specs.declared.bind.Bind.{Bind}
use Rattle.tb_match.specs.Joining.{bound, agreed, with_bind, joined, with_prefix, both, IsBoundOnce}
use Rattle.tb_match.specs.Matches.{Matching, match_all, match_appl, match_members, binds_if, match_step, match_term, match_list}
use Rattle.tb_match.proofs.Grouping.{Binds, both_steps, bound-behind, bound-here, agreed_same}

abbrev Once : Option Binds → Type 0
Once found = IfSome found IsBoundOnce

pub differs : (m n : ℕ) → (m == n) ≡ false → (n == m) ≡ false
differs m n h = search rules

pub none_of : (t : Bool) (u : Term) (o : Option Term) → ◌≡◌ {A = Option Term} (if t then Some u else o) None → (t ≡ false) × (o ≡ None)
none_of true u o e = absurd (cc)
none_of false u o e = (refl, e)

once-append : (a : Binds) (y : Bind) → IsBoundOnce a → bound y.slot a ≡ None → IsBoundOnce (a ++ y ∷ [])
once-append [] y h e = (refl, tt)
once-append (z ∷ a) y h e =
    let p = none_of (z.slot == y.slot) z.value (bound y.slot a) e in
    let last : bound z.slot (y ∷ []) ≡ None = rw (differs z.slot y.slot p.0) refl in
    (bound-behind z.slot a (y ∷ []) h.0 ∙ last, once-append a y h.1 p.1)

agreed-once : (a : Binds) (y : Bind) (all : Binds) (o : Option Term) → IsBoundOnce a → bound y.slot a ≡ o → agreed a y o ≡ Some all → IsBoundOnce all
agreed-once a y all None h free e =
    let is : a ++ y ∷ [] ≡ all = cc in
    subst IsBoundOnce is (once-append a y h free)
agreed-once a y all (Some w) h free e = subst IsBoundOnce (agreed_same (is_same_term w y.value) a all e).1 h

joined-once : (a b ab : Binds) → IsBoundOnce a → joined a b ≡ Some ab → IsBoundOnce ab
joined-once a [] ab h e =
    let is : a ≡ ab = cc in
    subst IsBoundOnce is h
joined-once a (y ∷ b) ab h e =
    let p = both_steps (λ (all : Binds). joined all b) (with_bind a y) ab e in
    joined-once p.0 b ab (agreed-once a y p.0 (bound y.slot a) h refl p.1) p.2

once_if : (a b : Binds) (o : Option Binds) → IsBoundOnce a → joined a b ≡ o → Once o
once_if a b None h e = tt
once_if a b (Some ab) h e = joined-once a b ab h e

both-once : (m r : Option Binds) → Once m → Once (both m r)
both-once None r h = tt
both-once (Some a) None h = tt
both-once (Some a) (Some b) h = once_if a b (joined a b) h refl

abbrev Good : Matching → Type 0
Good matching = (t : Term) → Once (matching t)

match_all-once : (ms : List Matching) (ts : List Term) → AllByRecursion Good ms → Once (match_all ms ts)
match_all-once [] [] h = tt
match_all-once [] (t ∷ ts) h = tt
match_all-once (m ∷ ms) [] h = tt
match_all-once (m ∷ ms) (t ∷ ts) h = both-once (m t) (match_all ms ts) (h.0 t)

none-once : (b : Bool) → Once (binds_if b [])
none-once true = tt
none-once false = tt

one-once : (b : Bool) (x : Bind) → Once (binds_if b (x ∷ []))
one-once true x = (refl, tt)
one-once false x = tt

same_name : (b : Bool) (o : Option Binds) → Once o → Once (if b then o else None)
same_name true o h = h
same_name false o h = tt

appl-once : (name : List ℕ) (ms : List Matching) → AllByRecursion Good ms → (w : term.Term-F Term) → Once (match_appl name ms w)
appl-once name ms h (term.Int n) = tt
appl-once name ms h (term.Str s) = tt
appl-once name ms h (term.Appl other ts) = same_name (bytes_eq name other) (match_all ms ts) (match_all-once ms ts h)
appl-once name ms h (term.List ts) = tt

members-once : (ms : List Matching) → AllByRecursion Good ms → (w : term.Term-F Term) → Once (match_members ms w)
members-once ms h (term.Int n) = tt
members-once ms h (term.Str s) = tt
members-once ms h (term.Appl name ts) = tt
members-once ms h (term.List ts) = match_all-once ms ts h

abbrev Claim : Pattern → Type 0
Claim p = Good (match_term p)

abbrev Shown : Type 0
Shown = (p : Pattern) × Claim p

each : (ps : List Shown) → AllByRecursion Good (map match_term (map (λ (s : Shown). s.0) ps))
each [] = tt
each (s ∷ ps) = (s.1, each ps)

rolled : (x y : Pattern-F Pattern) → Good (match_step (map-Pattern Pattern Matching match_term y)) → y ≡ x → Claim (roll-Pattern x)
rolled x y h e = subst (λ (w : Pattern-F Pattern). Claim (roll-Pattern w)) e (subst Good (sym (fold-roll-Pattern Matching match_step y)) h)

pub match_term-once : (p : Pattern) (t : Term) → IfSome (match_term p t) IsBoundOnce
match_term-once = ind-Pattern Claim step where
  step : (x : Pattern-F Pattern) (y : Pattern-F Shown) → map-Pattern Shown Pattern (λ s. s.0) y ≡ x → Claim (roll-Pattern x)
  step x (layer.Fixed f) e = rolled x (layer.Fixed f) (λ t. none-once (is_same_term f t)) e
  step x (layer.Hole s) e = rolled x (layer.Hole s) (λ t. none-once (has_sort t s)) e
  step x (layer.Result n s) e = rolled x (layer.Result n s) (λ t. one-once (has_sort t s) (record { slot = n; value = t })) e
  step x (layer.Appl n ps) e = rolled x (layer.Appl n (map (λ (s : Shown). s.0) ps)) (λ t. appl-once n (map match_term (map (λ (s : Shown). s.0) ps)) (each ps) (out-Term t)) e
  step x (layer.List ps) e = rolled x (layer.List (map (λ (s : Shown). s.0) ps)) (λ t. members-once (map match_term (map (λ (s : Shown). s.0) ps)) (each ps) (out-Term t)) e

all-once : (ps : List Pattern) → AllByRecursion Good (map match_term ps)
all-once [] = tt
all-once (p ∷ ps) = (match_term-once p, all-once ps)

pub match_list-once : (ps : List Pattern) (ts : List Term) → IfSome (match_list ps ts) IsBoundOnce
match_list-once ps ts = match_all-once (map match_term ps) ts (all-once ps)

taken_case : (t : Bool) (u : Term) (o : Option Term) → (t ≡ true → ⊥) → o ≡ None → ◌≡◌ {A = Option Term} (if t then Some u else o) None
taken_case true u o h e = absurd (h refl)
taken_case false u o h e = e

-- if each slot is bound once, a slot isn't bound before its bind
once-free : (a : Binds) (y : Bind) (b : Binds) → IsBoundOnce (a ++ y ∷ b) → bound y.slot a ≡ None
once-free [] y b h = refl
once-free (z ∷ a) y b h =
    let free : bound y.slot a ≡ None = once-free a y b h.1 in
    let here : bound y.slot (a ++ y ∷ b) ≡ Some y.value = bound-behind y.slot a (y ∷ b) free ∙ bound-here y b in
    taken_case (z.slot == y.slot) z.value (bound y.slot a) (λ t. apart (z.slot) (y.slot) (a ++ y ∷ b) y.value h.0 here t) free where
      apart : (m n : ℕ) (l : Binds) (w : Term) → bound m l ≡ None → bound n l ≡ Some w → (m == n) ≡ true → ⊥
      apart m n l w none some t =
          let at : m ≡ n = search rules in
          let same : bound m l ≡ bound n l = ap (λ (k : ℕ). bound k l) at in
          cc

joined-alone : (a b : Binds) → IsBoundOnce (a ++ b) → joined a b ≡ Some (a ++ b)
joined-alone a [] h = ap (λ (l : Binds). Some l) (sym (append-nil a))
joined-alone a (y ∷ b) h =
    let whole : (a ++ y ∷ []) ++ b ≡ a ++ y ∷ b = append_assoc a (y ∷ []) b in
    ap (λ (o : Option Term). option_and_then (λ (all : Binds). joined all b) (agreed a y o)) (once-free a y b h)
    ∙ joined-alone (a ++ y ∷ []) b (subst IsBoundOnce (sym whole) h)
    ∙ ap (λ (l : Binds). Some l) whole

-- a match joined to no binds remains the same
prefix_nothing : (o : Option Binds) → Once o → with_prefix [] o ≡ o
prefix_nothing None h = refl
prefix_nothing (Some b) h = joined-alone [] b h

pub alone-term : (p : Pattern) (t : Term) → with_prefix [] (match_term p t) ≡ match_term p t
alone-term p t = prefix_nothing (match_term p t) (match_term-once p t)

pub alone-list : (ps : List Pattern) (ts : List Term) → with_prefix [] (match_list ps ts) ≡ match_list ps ts
alone-list ps ts = prefix_nothing (match_list ps ts) (match_list-once ps ts)
