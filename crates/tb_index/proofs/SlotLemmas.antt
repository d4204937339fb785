-- Pairs in slots.
use Rattle.std.proofs.Common.{◌≡◌, ℕ, ◌<◌, ◌≤◌, ◌+◌, Bool, true, false, not, ◌&&◌, ◌||◌, ◌==◌, List, [], ◌∷◌, take, length, set, get_or, swap_remove, refl, ap, sym, ◌∙◌, ◌⊎◌, inl, inr, ⊎_elim, Option}
use Rattle.std.proofs.lemmas.Bool.{cases_lt, eqb-true}
use Rattle.std.proofs.lemmas.List.{get_or_past, get_or_default, nil_from_length}
use Rattle.std.proofs.lemmas.List.Folds.{list_any_more, list_any_at}
use Rattle.std.proofs.lemmas.List.Sorted.{IsPermutation-swap_remove, list_any-IsPermutation}
use Rattle.std.specs.List.{list_any}
use Rattle.std.specs.BTreeSet.{BTreeSet}
use Rattle.tb_index.specs.declared.mark.Mark.{Mark}
use Rattle.tb_index.specs.declared.slot.Pair.{Pair}
use Rattle.tb_index.specs.declared.pairs.Pairs.{Pairs}
use Rattle.tb_index.specs.Marks.{is_mark, wide, open_head}
use Rattle.tb_index.specs.Helpers.Pairs.{is_pair, is_of, is_in, in_few, in_many, slot_of, has, SamePairs, IsFirst, earlier}
use Rattle.tb_index.proofs.PairLemmas as pairs

-- a found pair is only that of its own process and mark
found-pair : (mark : Mark) (proc : ℕ) (x : Pair) → is_of mark proc x ≡ true → (o : Mark) (i : ℕ) → is_of o i x ≡ is_pair mark proc o i
found-pair mark proc x e o i =
    let same : mark ≡ x.mark = pairs.same-mark mark x.mark (pairs.both-left (is_mark mark x.mark) (proc == x.proc) e) in
    let number : proc ≡ x.proc = eqb-true proc x.proc (pairs.both-right (is_mark mark x.mark) (proc == x.proc) e) in
    ap (λ (m : Mark). is_mark o m && (i == x.proc)) (sym same) ∙ ap (λ n. is_mark o mark && (i == n)) (sym number)

-- the pairs of a slot before and after one removal
pub gone-one : (xs ys : List Pair) (place : ℕ) (x d : Pair) (mark : Mark) (proc : ℕ) → place < length xs → x ≡ get_or xs place x → ys ≡ swap_remove xs place x →
    is_of mark proc (get_or xs place d) ≡ true → (o : Mark) (i : ℕ) → is_in xs o i ≡ (is_pair mark proc o i || is_in ys o i)
gone-one xs ys place x d mark proc less read left e o i =
    let whole : is_in xs o i ≡ (is_of o i x || is_in (swap_remove xs place x) o i) = list_any-IsPermutation (is_of o i) xs (x ∷ swap_remove xs place x) (IsPermutation-swap_remove xs place x less read) in
    let here : is_of mark proc x ≡ true = ap (is_of mark proc) (read ∙ get_or_default xs place x d less) ∙ e in
    whole ∙ ap (λ b. b || is_in (swap_remove xs place x) o i) (found-pair mark proc x here o i) ∙ ap (λ (zs : List Pair). is_pair mark proc o i || is_in zs o i) (sym left)

pub removed-step : (now before first pair : Bool) → before ≡ (pair || now) → (before || pair) ≡ (first || pair) → (now || pair) ≡ (first || pair)
removed-step now before first true e f = pairs.or-true now ∙ sym (pairs.or-true first)
removed-step now before first false e f = pairs.or-false now ∙ sym e ∙ sym (pairs.or-false before) ∙ f

-- a function of mark and process has the same value for the same pair
alike : (answer : Mark → ℕ → Bool) (mark : Mark) (proc : ℕ) (o : Mark) (i : ℕ) → is_pair mark proc o i ≡ true → answer o i ≡ answer mark proc
alike answer mark proc o i e =
    let same : o ≡ mark = pairs.same-mark o mark (pairs.both-left (is_mark o mark) (i == proc) e) in
    let number : i ≡ proc = eqb-true i proc (pairs.both-right (is_mark o mark) (i == proc) e) in
    ap (λ (m : Mark). answer m i) same ∙ ap (answer mark) number

-- a pair that is there already needn't be added
there-already : (answer pair : Bool) → (pair ≡ true → answer ≡ true) → answer ≡ (answer || pair)
there-already answer true e = e refl ∙ sym (pairs.or-true answer)
there-already answer false e = sym (pairs.or-false answer)

pub had-already : (answer : Mark → ℕ → Bool) (mark : Mark) (proc : ℕ) → answer mark proc ≡ true → (o : Mark) (i : ℕ) → answer o i ≡ (answer o i || is_pair mark proc o i)
had-already answer mark proc had o i = there-already (answer o i) (is_pair mark proc o i) (λ e. alike answer mark proc o i e ∙ had)

-- if the slot of a mark isn't there, no process has the mark in it
none-here : (few : List (List Pair)) (o : Mark) (i : ℕ) → length few ≤ slot_of o → in_few few o i ≡ false
none-here few o i past = ap (λ (ps : List Pair). is_in ps o i) (get_or_past few (slot_of o) [] past)

-- if the ordered set is empty, it has no pair
pub none-many : (set : BTreeSet (ℕ × ℕ × ℕ)) → length set.keys ≡ 0 → (o : Mark) (i : ℕ) → in_many set o i ≡ false
none-many set none o i = ap (list_any _) (nil_from_length set.keys none)

or-same : (a b c d : Bool) → a ≡ b → c ≡ d → (a || c) ≡ (b || d)
or-same a b c d e f = ap (λ x. x || c) e ∙ ap (λ x. b || x) f

pub same-has : (old new : Pairs) → ((o : Mark) (i : ℕ) → in_few new.few.items o i ≡ in_few old.few.items o i) → ((o : Mark) (i : ℕ) → in_many new.many o i ≡ in_many old.many o i) → SamePairs old new
unfolding has
same-has old new few many o i = or-same _ _ _ _ (few o i) (many o i)

pub none-has : (pairs : Pairs) → pairs.few.items ≡ [] → length pairs.many.keys ≡ 0 → (o : Mark) (i : ℕ) → has pairs o i ≡ false
unfolding has
none-has pairs few many o i = or-same _ false _ false (ap (λ (slots : List (List Pair)). in_few slots o i) few) (none-many pairs.many many o i)

or-shift : (a m p : Bool) → ((a || p) || m) ≡ ((a || m) || p)
or-shift true m p = refl
or-shift false true true = refl
or-shift false true false = refl
or-shift false false true = refl
or-shift false false false = refl

or-end : (a m p : Bool) → (a || (m || p)) ≡ ((a || m) || p)
or-end true m p = refl
or-end false m p = refl

not-shift : (a m p : Bool) → ((a && not p) || (m && not p)) ≡ ((a || m) && not p)
not-shift true true true = refl
not-shift true true false = refl
not-shift true false true = refl
not-shift true false false = refl
not-shift false m p = refl

-- one pair more or less, in the slots or in the ordered set
module _ (old new : Pairs) (mark : Mark) (proc : ℕ) where
  pub few-added : ((o : Mark) (i : ℕ) → in_few new.few.items o i ≡ (in_few old.few.items o i || is_pair mark proc o i)) → ((o : Mark) (i : ℕ) → in_many new.many o i ≡ in_many old.many o i) →
      (o : Mark) (i : ℕ) → has new o i ≡ (has old o i || is_pair mark proc o i)
  unfolding has
  few-added few many o i = or-same _ _ _ _ (few o i) (many o i) ∙ or-shift (in_few old.few.items o i) (in_many old.many o i) (is_pair mark proc o i)

  pub many-added : ((o : Mark) (i : ℕ) → in_few new.few.items o i ≡ in_few old.few.items o i) → ((o : Mark) (i : ℕ) → in_many new.many o i ≡ (in_many old.many o i || is_pair mark proc o i)) →
      (o : Mark) (i : ℕ) → has new o i ≡ (has old o i || is_pair mark proc o i)
  unfolding has
  many-added few many o i = or-same _ _ _ _ (few o i) (many o i) ∙ or-end (in_few old.few.items o i) (in_many old.many o i) (is_pair mark proc o i)

  pub both-removed : ((o : Mark) (i : ℕ) → in_few new.few.items o i ≡ (in_few old.few.items o i && not (is_pair mark proc o i))) →
      ((o : Mark) (i : ℕ) → in_many new.many o i ≡ (in_many old.many o i && not (is_pair mark proc o i))) →
      (o : Mark) (i : ℕ) → has new o i ≡ (has old o i && not (is_pair mark proc o i))
  unfolding has
  both-removed few many o i = or-same _ _ _ _ (few o i) (many o i) ∙ not-shift (in_few old.few.items o i) (in_many old.many o i) (is_pair mark proc o i)

  -- if the ordered set is empty, nothing needs to be removed from it
  pub few-removed : ((o : Mark) (i : ℕ) → in_few new.few.items o i ≡ (in_few old.few.items o i && not (is_pair mark proc o i))) → new.many ≡ old.many → length old.many.keys ≡ 0 →
      (o : Mark) (i : ℕ) → has new o i ≡ (has old o i && not (is_pair mark proc o i))
  few-removed few same none = both-removed few (λ o i. ap (λ (many : BTreeSet (ℕ × ℕ × ℕ)). in_many many o i) same ∙ none-many old.many none o i ∙ sym (ap (λ b. b && not (is_pair mark proc o i)) (none-many old.many none o i)))

-- the first process, in the slots and in the ordered set
pub next-few : (all : Pairs) (mark : Mark) (from : ℕ) (found : Option ℕ) → IsFirst (in_few all.few.items mark) from found → length all.many.keys ≡ 0 → IsFirst (has all mark) from found
unfolding has
next-few all mark from found first none = pairs.first-same (in_few all.few.items mark) (λ i. in_few all.few.items mark i || in_many all.many mark i) from found
    (λ i. ap (λ b. in_few all.few.items mark i || b) (none-many all.many none mark i) ∙ pairs.or-false (in_few all.few.items mark i)) first

pub next-both : (all : Pairs) (mark : Mark) (from : ℕ) (one other : Option ℕ) → IsFirst (in_few all.few.items mark) from one → IsFirst (in_many all.many mark) from other → IsFirst (has all mark) from (earlier one other)
unfolding has
next-both all mark from one other few many = pairs.first-both (in_few all.few.items mark) (in_many all.many mark) from one other few many

-- a pair in its slot is in some slot
pub few-any : (few : List (List Pair)) (mark : Mark) (i : ℕ) → in_few few mark i ≡ true → list_any (λ (ps : List Pair). is_in ps mark i) few ≡ true
few-any few mark i e = ⊎_elim
    (λ (less : slot_of mark < length few). list_any_at (λ (ps : List Pair). is_in ps mark i) few (slot_of mark) [] less e)
    (λ (past : length few ≤ slot_of mark). absurd (let t : true ≡ false = sym e ∙ none-here few mark i past in cc))
    (cases_lt (slot_of mark) (length few))

or-cases : (a b : Bool) → (a || b) ≡ true → (a ≡ true) ⊎ (b ≡ true)
or-cases true b e = inl refl
or-cases false b e = inr e

pub has-cases : (all : Pairs) (mark : Mark) (i : ℕ) → has all mark i ≡ true → (in_few all.few.items mark i ≡ true) ⊎ (in_many all.many mark i ≡ true)
unfolding has
has-cases all mark i e = or-cases (in_few all.few.items mark i) (in_many all.many mark i) e

-- the counted processes, after one more pair of a slot
pub counted-more : (counted : Pairs) (xs : List Pair) (n : ℕ) (d : Pair) → n < length xs → ((mark : Mark) (i : ℕ) → is_in (take n xs) mark i ≡ true → has counted (wide mark) i ≡ true) →
    has counted (record { count = (get_or xs n d).mark.count; head = open_head }) (get_or xs n d).proc ≡ true →
    (mark : Mark) (i : ℕ) → is_in (take (n + 1) xs) mark i ≡ true → has counted (wide mark) i ≡ true
counted-more counted xs n d less before here mark i e = ⊎_elim
    (before mark i)
    (λ (now : is_of mark i (get_or xs n d) ≡ true).
    let same : mark ≡ (get_or xs n d).mark = pairs.same-mark mark (get_or xs n d).mark (pairs.both-left (is_mark mark (get_or xs n d).mark) (i == (get_or xs n d).proc) now) in
    let number : i ≡ (get_or xs n d).proc = eqb-true i (get_or xs n d).proc (pairs.both-right (is_mark mark (get_or xs n d).mark) (i == (get_or xs n d).proc) now) in
    ap (λ (m : Mark). has counted (wide m) i) same ∙ ap (has counted (wide (get_or xs n d).mark)) number ∙ here)
    (or-cases (is_in (take n xs) mark i) (is_of mark i (get_or xs n d)) (sym (list_any_more (is_of mark i) xs n d less) ∙ e))

pub counted-slots : (counted : Pairs) (few : List (List Pair)) (n : ℕ) (slot : List Pair) → n < length few → slot ≡ get_or few n slot →
    ((mark : Mark) (i : ℕ) → list_any (λ (ps : List Pair). is_in ps mark i) (take n few) ≡ true → has counted (wide mark) i ≡ true) →
    ((mark : Mark) (i : ℕ) → is_in slot mark i ≡ true → has counted (wide mark) i ≡ true) →
    (mark : Mark) (i : ℕ) → list_any (λ (ps : List Pair). is_in ps mark i) (take (n + 1) few) ≡ true → has counted (wide mark) i ≡ true
counted-slots counted few n slot less read before here mark i e = ⊎_elim
    (before mark i)
    (λ (now : is_in (get_or few n slot) mark i ≡ true). here mark i (ap (λ (ps : List Pair). is_in ps mark i) read ∙ now))
    (or-cases (list_any (λ (ps : List Pair). is_in ps mark i) (take n few)) (is_in (get_or few n slot) mark i) (sym (list_any_more (λ (ps : List Pair). is_in ps mark i) few n slot less) ∙ e))
