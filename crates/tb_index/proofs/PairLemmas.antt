-- Triples in order.
use Rattle.std.proofs.Common.{◌≡◌, ℕ, ◌<◌, ◌≤◌, Bool, true, false, not, cond, nat_le, if◌then◌else◌, ◌+◌, ◌&&◌, ◌||◌, ◌==◌, refl, ap, sym, ◌∙◌, subst, arith, rules, List, Some, None, Option, [], ◌∷◌, ◌⊎◌, inl, inr, take, zero, suc, get_or, length}
use Rattle.std.proofs.lemmas.Bool.Decides.{nat_tests}
use Rattle.std.proofs.lemmas.List.Folds.{list_any_more}
use Rattle.std.specs.List.{list_any}
use Rattle.std.specs.Ordering.{is_eq, is_gt}
use Rattle.tb_index.specs.declared.mark.Mark.{Mark}
use Rattle.std.specs.BTreeSet.{BTreeSet, IsKeyRangeOf, contains}
use Rattle.std.specs.declared.ops.Bound.TheVariants.{Included, Unbounded}
use Rattle.std.proofs.lemmas.Bool.{eqb-true, leb-true}
use Rattle.tb_index.specs.Marks.{is_mark, has_mark}
use Rattle.tb_index.specs.Helpers.Pairs.{in_many, triple_cmp, IsFirst, earlier}
use Rattle.tb_index.specs.Indexes.{IsNext}

-- triples are equal if and only if their parts are
pub same-triple : (a b p c d q : ℕ) → is_eq (triple_cmp (a, b, p) (c, d, q)) ≡ ((c == a) && (d == b)) && (q == p)
same-triple a b p c d q = grind (arith, nat_tests)

-- between the triples of a mark, there are only triples of this mark
pub between : (a b p c d q m : ℕ) → is_gt (triple_cmp (a, b, p) (c, d, q)) ≡ false → is_gt (triple_cmp (c, d, q) (a, b, m)) ≡ false → (c ≡ a) × (d ≡ b) × (p ≤ q)
between a b p c d q m low high = (grind (arith, nat_tests), grind (arith, nat_tests), grind (arith, nat_tests))

pub from : (a b p q : ℕ) → p ≤ q → is_gt (triple_cmp (a, b, p) (a, b, q)) ≡ false
from a b p q l = grind (arith, nat_tests)

-- an update, seen for one mark and one process
pub added-by : (now old at pair : Bool) → now ≡ cond at true old → at ≡ pair → now ≡ (old || pair)
added-by now true true pair e f = e
added-by now true false pair e f = e
added-by now false true pair e f = e ∙ f
added-by now false false pair e f = e ∙ f

pub and-false : (b : Bool) → (b && false) ≡ false
and-false true = refl
and-false false = refl

pub and-true : (b : Bool) → (b && true) ≡ b
and-true true = refl
and-true false = refl

pub removed-by : (now old at pair : Bool) → now ≡ cond at false old → at ≡ pair → now ≡ (old && not pair)
removed-by now old true true e f = e ∙ sym (and-false old)
removed-by now old true false e f = cc
removed-by now old false true e f = cc
removed-by now old false false e f = e ∙ sym (and-true old)

low-by : (a b p c d q : ℕ) → c ≡ a → d ≡ b → is_gt (triple_cmp (a, b, p) (c, d, q)) ≡ false → p ≤ q
low-by a b p c d q e f h = grind (arith, nat_tests)

module _ (set : BTreeSet (ℕ × ℕ × ℕ)) (mark : Mark) (start : ℕ) where
  abbrev pub IsRange : List (ℕ × ℕ × ℕ) → Type 0
  IsRange triples = IsKeyRangeOf triple_cmp (Included (mark.count, mark.head, start)) Unbounded set triples

  not-before : (found : ℕ × ℕ × ℕ) (rest : List (ℕ × ℕ × ℕ)) (proc : ℕ) → IsRange (found ∷ rest) →
      start ≤ proc → (is_gt (triple_cmp (found.0, found.1, found.2) (mark.count, mark.head, proc)) ≡ false → ⊥) → (b : Bool) → in_many set mark proc ≡ b → b ≡ false
  not-before found rest proc range low apart true e =
      absurd (apart (range.2 (mark.count, mark.head, proc) (from mark.count mark.head start proc low, tt) (search (rules, e))))
  not-before found rest proc range low apart false e = refl

  there : (found : ℕ × ℕ × ℕ) → found.0 ≡ mark.count → found.1 ≡ mark.head → contains triple_cmp set (found.0, found.1, found.2) ≡ true → in_many set mark found.2 ≡ true
  there found c d e = rw (← c, ← d) e

  pub next-found : (triples : List (ℕ × ℕ × ℕ)) (found : ℕ × ℕ × ℕ) (rest : List (ℕ × ℕ × ℕ)) → IsRange triples → triples ≡ found ∷ rest → found.0 ≡ mark.count → found.1 ≡ mark.head → IsFirst (in_many set mark) start (Some found.2)
  next-found triples found rest range e c d =
      let here : IsRange (found ∷ rest) = subst IsRange e range in
      (low-by mark.count mark.head start found.0 found.1 found.2 c d here.1.0.0, there found c d (search (rules, here.1.1)), λ proc low less. not-before found rest proc here low (λ le. let behind = low-by found.0 found.1 found.2 mark.count mark.head proc (sym c) (sym d) le in omega arith) (in_many set mark proc) refl)

  pub next-other : (triples : List (ℕ × ℕ × ℕ)) (found : ℕ × ℕ × ℕ) (rest : List (ℕ × ℕ × ℕ)) → IsRange triples → triples ≡ found ∷ rest → (found.0 ≡ mark.count → found.1 ≡ mark.head → ⊥) → IsFirst (in_many set mark) start None
  next-other triples found rest range e apart =
      let here : IsRange (found ∷ rest) = subst IsRange e range in
      λ proc low. not-before found rest proc here low (λ le. let same = between mark.count mark.head start found.0 found.1 found.2 proc here.1.0.0 le in apart same.0 same.1) (in_many set mark proc) refl

  pub next-none : (triples : List (ℕ × ℕ × ℕ)) → IsRange triples → triples ≡ [] → (proc : ℕ) → start ≤ proc → in_many set mark proc ≡ false
  next-none triples range e proc low = range.5 e (mark.count, mark.head, proc) (from mark.count mark.head start proc low, tt)

pub or-false : (b : Bool) → (b || false) ≡ b
or-false true = refl
or-false false = refl

pub or-true : (b : Bool) → (b || true) ≡ true
or-true true = refl
or-true false = refl

removed-kept : (now before first any mark same : Bool) → now ≡ (before && not ((mark && same) && not true)) → before ≡ (first && not ((any && not true) && same)) →
    now ≡ (first && not (((any || mark) && not true) && same))
removed-kept now before first any mark same e f =
    e ∙ ap (λ b. before && not b) (and-false (mark && same)) ∙ and-true before ∙ f ∙ ap (λ b. first && not (b && same)) (and-false any ∙ sym (and-false (any || mark)))

removed-other : (now before first any mark : Bool) → now ≡ (before && not ((mark && false) && not false)) → before ≡ (first && not ((any && not false) && false)) →
    now ≡ (first && not (((any || mark) && not false) && false))
removed-other now before first any mark e f =
    e ∙ ap (λ b. before && not (b && true)) (and-false mark) ∙ and-true before ∙ f ∙ ap (λ b. first && not b) (and-false (any && true) ∙ sym (and-false ((any || mark) && true)))

-- one more mark is added
pub added-more : (now before first any mark same : Bool) → now ≡ (before || (mark && same)) → before ≡ (first || (any && same)) → now ≡ (first || ((any || mark) && same))
added-more now true true any mark same e f = e
added-more now false true any mark same e f = absurd (let g : false ≡ true = f in cc)
added-more now before false true true true e f = e ∙ ap (λ b. b || true) f
added-more now before false true false true e f = e ∙ or-false before ∙ f
added-more now before false true true false e f = e ∙ or-false before ∙ f
added-more now before false true false false e f = e ∙ or-false before ∙ f
added-more now before false false mark same e f = e ∙ ap (λ b. b || (mark && same)) f

-- one more mark is removed, unless it is kept
pub removed-more : (now before first any mark but same : Bool) → now ≡ (before && not ((mark && same) && not but)) → before ≡ (first && not ((any && not but) && same)) →
    now ≡ (first && not (((any || mark) && not but) && same))
removed-more now before first any mark true same e f = removed-kept now before first any mark same e f
removed-more now before first any mark false false e f = removed-other now before first any mark e f
removed-more now before first true true false true e f = e ∙ ap (λ b. b && false) f ∙ ap (λ b. b && false) (and-false first) ∙ sym (and-false first)
removed-more now before first true false false true e f = e ∙ and-true before ∙ f
removed-more now before first false true false true e f = e ∙ and-false before ∙ sym (and-false first)
removed-more now before first false false false true e f = e ∙ and-true before ∙ f

-- if added marks are removed again, the pairs are as before
pub undone : (now then' before all some but same : Bool) → now ≡ (then' && not ((all && not but) && same)) → then' ≡ (before || (some && same)) → (same ≡ true → before ≡ but) → (some ≡ true → all ≡ true) → now ≡ before
undone now then' before all some but false e f own more =
    e ∙ ap (λ b. then' && not b) (and-false (all && not but)) ∙ and-true then' ∙ f ∙ ap (λ b. before || b) (and-false some) ∙ or-false before
undone now then' true all some true true e f own more = e ∙ ap (λ b. then' && not (b && true)) (and-false all) ∙ and-true then' ∙ f
undone now then' true all some false true e f own more = absurd (let t = own refl in cc)
undone now then' false all some true true e f own more = absurd (let t = own refl in cc)
undone now then' false true some false true e f own more = e ∙ and-false then'
undone now then' false false true false true e f own more = absurd (let t = more refl in cc)
undone now then' false false false false true e f own more = e ∙ and-true then' ∙ f

-- after its new marks were added and the others removed, a process has exactly the new marks
pub set-own : (now then' before new old same : Bool) → now ≡ (then' && not ((old && not new) && same)) → then' ≡ (before || (new && same)) → same ≡ true → before ≡ old → now ≡ new
set-own now then' before true old true e f s own = e ∙ ap (λ b. then' && not (b && true)) (and-false old) ∙ and-true then' ∙ f ∙ or-true before
set-own now then' before false true true e f s own = e ∙ and-false then'
set-own now then' before false false true e f s own = e ∙ and-true then' ∙ f ∙ or-false before ∙ own
set-own now then' before new old false e f s own = absurd (let t : false ≡ true = s in cc)

pub set-other : (now then' before new old same : Bool) → now ≡ (then' && not ((old && not new) && same)) → then' ≡ (before || (new && same)) → same ≡ false → now ≡ before
set-other now then' before new old false e f s = e ∙ ap (λ b. then' && not b) (and-false (old && not new)) ∙ and-true then' ∙ f ∙ ap (λ b. before || b) (and-false new) ∙ or-false before
set-other now then' before new old true e f s = absurd (let t : true ≡ false = s in cc)

-- a mark that is there was there before, or was added
pub set-less : (now then' before new old same : Bool) → now ≡ (then' && not ((old && not new) && same)) → then' ≡ (before || (new && same)) → now ≡ true → (before ≡ true) ⊎ (new ≡ true)
set-less now then' true new old same e f t = inl refl
set-less now then' false true old same e f t = inr refl
set-less now then' false false old same e f t = absurd (let g : now ≡ false = e ∙ ap (λ b. b && not ((old && not false) && same)) f in cc)

pub gone-own : (now before old same : Bool) → now ≡ (before && not ((old && not false) && same)) → same ≡ true → before ≡ old → now ≡ false
gone-own now before true true e s own = e ∙ and-false before
gone-own now before false true e s own = e ∙ and-true before ∙ own
gone-own now before old false e s own = absurd (let t : false ≡ true = s in cc)

pub gone-other : (now before old same : Bool) → now ≡ (before && not ((old && not false) && same)) → same ≡ false → now ≡ before
gone-other now before old false e s = e ∙ ap (λ b. before && not b) (and-false (old && not false)) ∙ and-true before
gone-other now before old true e s = absurd (let t : true ≡ false = s in cc)

pub gone-less : (now before gone : Bool) → now ≡ (before && not gone) → now ≡ true → before ≡ true
gone-less now true gone e t = refl
gone-less now false gone e t = absurd (let g : now ≡ false = e in cc)

-- the first of two properties
or-none : (a b : Bool) → a ≡ false → b ≡ false → (a || b) ≡ false
or-none a b e f = rw (e, f) refl

pub or-left : (a b : Bool) → a ≡ true → (a || b) ≡ true
or-left a b e = rw e refl

pub or-right : (a b : Bool) → b ≡ true → (a || b) ≡ true
or-right true b e = refl
or-right false b e = e

first-both-by : (one other : ℕ → Bool) (from a b : ℕ) → IsFirst one from (Some a) → IsFirst other from (Some b) → (t : Bool) → nat_le a b ≡ t → IsFirst (λ proc. one proc || other proc) from (if t then Some a else Some b)
first-both-by one other from a b h g true e =
    let le : a ≤ b = leb-true a b e in
    (h.0, or-left (one a) (other a) h.1, λ proc low less. or-none (one proc) (other proc) (h.2 proc low less) (g.2 proc low (omega arith)))
first-both-by one other from a b h g false e =
    (g.0, or-right (one b) (other b) g.1, λ proc low less. or-none (one proc) (other proc) (h.2 proc low (grind (arith, nat_tests))) (g.2 proc low less))

pub first-both : (one other : ℕ → Bool) (from : ℕ) (a b : Option ℕ) → IsFirst one from a → IsFirst other from b →
    IsFirst (λ proc. one proc || other proc) from (earlier a b)
first-both one other from None None h g = λ proc low. or-none (one proc) (other proc) (h proc low) (g proc low)
first-both one other from None (Some b) h g = (g.0, or-right (one b) (other b) g.1, λ proc low less. or-none (one proc) (other proc) (h proc low) (g.2 proc low less))
first-both one other from (Some a) None h g = (h.0, or-left (one a) (other a) h.1, λ proc low less. or-none (one proc) (other proc) (h.2 proc low less) (g proc low))
first-both one other from (Some a) (Some b) h g = first-both-by one other from a b h g (nat_le a b) refl

pub first-same : (one other : ℕ → Bool) (from : ℕ) (found : Option ℕ) → ((n : ℕ) → other n ≡ one n) → IsFirst one from found → IsFirst other from found
first-same one other from None same h = λ proc low. same proc ∙ h proc low
first-same one other from (Some found) same h = (h.0, same found ∙ h.1, λ proc low less. same proc ∙ h.2 proc low less)

pub first-next : (holds : ℕ → Bool) (from : ℕ) (found : Option ℕ) → IsFirst holds from found → IsNext holds from found
first-next holds from None h = λ proc small low. h proc low
first-next holds from (Some found) h = h

or-more : (a b c : Bool) → (b ≡ true → c ≡ true) → (a || b) ≡ true → (a || c) ≡ true
or-more true b c h e = refl
or-more false b c h e = h e

pub any-take : {X : Type 0} (p : X → Bool) (n : ℕ) (xs : List X) → list_any p (take n xs) ≡ true → list_any p xs ≡ true
any-take p zero [] e = e
any-take p zero (x ∷ xs) e = cc
any-take p (suc n) [] e = e
any-take p (suc n) (x ∷ xs) e = or-more (p x) (list_any p (take n xs)) (list_any p xs) (any-take p n xs) e

pub both-left : (a b : Bool) → (a && b) ≡ true → a ≡ true
both-left true b e = refl
both-left false b e = e

pub both-right : (a b : Bool) → (a && b) ≡ true → b ≡ true
both-right true b e = e
both-right false b e = absurd (let t : false ≡ true = e in cc)

pub same-mark : (m k : Mark) → is_mark m k ≡ true → m ≡ k
same-mark m k e =
    let counts : m.count ≡ k.count = eqb-true m.count k.count (both-left (m.count == k.count) (m.head == k.head) e) in
    let heads : m.head ≡ k.head = eqb-true m.head k.head (both-right (m.count == k.count) (m.head == k.head) e) in
    λ i. record { count = counts i; head = heads i }

any-marked-by : (holds : Mark → Bool) (k : Mark) (l : List Mark) (m : Mark) → holds m ≡ true → (b : Bool) → is_mark m k ≡ b →
    (b || has_mark l m) ≡ true → (has_mark l m ≡ true → list_any holds l ≡ true) → (holds k || list_any holds l) ≡ true
any-marked-by holds k l m e true f t rest = or-left (holds k) _ (ap holds (sym (same-mark m k f)) ∙ e)
any-marked-by holds k l m e false f t rest = or-right (holds k) _ (rest t)

pub any-marked : (holds : Mark → Bool) (l : List Mark) (m : Mark) → has_mark l m ≡ true → holds m ≡ true → list_any holds l ≡ true
any-marked holds [] m t e = t
any-marked holds (k ∷ l) m t e = any-marked-by holds k l m e (is_mark m k) refl t (λ more. any-marked holds l m more e)

-- the first for a list with one more element
pub first-more : {X : Type 0} (holds : X → ℕ → Bool) (l : List X) (i : ℕ) (d : X) (from : ℕ) (one other : Option ℕ) → i < length l →
    IsFirst (λ p. list_any (λ (k : X). holds k p) (take i l)) from one → IsFirst (holds (get_or l i d)) from other →
    IsFirst (λ p. list_any (λ (k : X). holds k p) (take (i + 1) l)) from (earlier one other)
first-more {X} holds l i d from one other less h g =
    first-same (λ p. list_any (λ (k : X). holds k p) (take i l) || holds (get_or l i d) p) (λ p. list_any (λ (k : X). holds k p) (take (i + 1) l)) from (earlier one other)
    (λ p. list_any_more (λ (k : X). holds k p) l i d less)
    (first-both (λ p. list_any (λ (k : X). holds k p) (take i l)) (holds (get_or l i d)) from one other h g)

-- a list of one
pub only-one : {X : Type 0} (xs : List X) (d : X) → length xs ≡ 1 → xs ≡ get_or xs 0 d ∷ []
only-one [] d e = absurd (omega arith)
only-one (x ∷ []) d e = refl
only-one (x ∷ y ∷ xs) d e = absurd (omega arith)
