-- The running processes are in the order of their numbers. So the only process with a number is at the index where smaller numbers end.
use Rattle.std.proofs.Common.{◌≡◌, ◌<◌, ◌≤◌, ◌⊎◌, ℕ, zero, suc, List, [], ◌∷◌, length, sym, ap, subst, ◌∙◌, arith, true, nat_lt, get_or, slice_set, Contains, inl, inr}
use Rattle.std.proofs.lemmas.Bool.{ltb-true, ltb-false, lt-ltb, le-ltb, cases_lt, cases_eq}
use Rattle.std.proofs.lemmas.Option.{get_or_from_slice_get, slice_get-get_or}
use Rattle.std.proofs.lemmas.List.{get_or-set_same, get_or-set_other, length-set}
use Rattle.std.specs.List.{All}
use Rattle.std.specs.List.Sorted.{IsNonDecreasingBy, IsPartitionedBy}
use Rattle.std.proofs.lemmas.List.Sorted.{IsPartitionedBy-ltb}
use Rattle.tb_search.specs.Candidates.{ascend, row_of, rows_of}
use Rattle.tb_search.specs.declared.living.Living.{Living}
use Rattle.tb_search.proofs.TurnLemmas.{ascend-first}
use Rattle.tb_living.specs.Lives.{IsWhere, IsFreshOr}

-- each number is above the bound
numbers-above : {W : Type 0} (below : ℕ) (all : List (Living W)) (k : ℕ) (d : Living W) → ascend below (rows_of all) ≡ true → k < length all → below < (get_or all k d).number
numbers-above below [] k d h within = absurd (omega arith)
numbers-above below (living ∷ all) zero d h within = (ascend-first below (row_of living) (rows_of all) h).0
numbers-above below (living ∷ all) (suc k) d h within =
    let t = ascend-first below (row_of living) (rows_of all) h in
    let first = t.0 in
    let above = numbers-above living.number all k d t.1 (omega arith) in
    omega arith

numbers-ascend : {W : Type 0} (below : ℕ) (all : List (Living W)) (i j : ℕ) (d : Living W) → ascend below (rows_of all) ≡ true → i < j → j < length all → (get_or all i d).number < (get_or all j d).number
numbers-ascend below [] i j d h less within = absurd (omega arith)
numbers-ascend below (living ∷ all) i zero d h less within = absurd (omega arith)
numbers-ascend below (living ∷ all) zero (suc j) d h less within = numbers-above living.number all j d (ascend-first below (row_of living) (rows_of all) h).1 (omega arith)
numbers-ascend below (living ∷ all) (suc i) (suc j) d h less within = numbers-ascend living.number all i j d (ascend-first below (row_of living) (rows_of all) h).1 (omega arith) (omega arith)

numbers-between : {W : Type 0} (all : List (Living W)) (i j : ℕ) (d : Living W) → (i ≡ j) ⊎ (i ≡ j → ⊥) → ascend 0 (rows_of all) ≡ true → i ≤ j → j < length all → (get_or all i d).number ≤ (get_or all j d).number
numbers-between all i j d (inl same) h le within = let e = ap (λ k. (get_or all k d).number) same in omega arith
numbers-between all i j d (inr ne) h le within =
    let less : i < j = omega arith in
    let between = numbers-ascend 0 all i j d h less within in
    omega arith

pub numbers-rise : {W : Type 0} (all : List (Living W)) → ascend 0 (rows_of all) ≡ true → IsNonDecreasingBy (λ (living : Living W). living.number) all
numbers-rise all h i j d le within = numbers-between all i j d (cases_eq i j) h le within

-- if the process at an index has the number, this is the index where smaller numbers end
pub where-exact : {W : Type 0} (number at : ℕ) (all : List (Living W)) (some : Living W) → ascend 0 (rows_of all) ≡ true → at < length all → (get_or all at some).number ≡ number → IsWhere number all at
where-exact {W = W} number at all some h within is = (
  λ k d low less.
      let there = ap (λ (l : Living W). l.number) (get_or_from_slice_get all at (get_or all at some) d (slice_get-get_or all at some within)) ∙ is in
      let small = numbers-ascend 0 all k at d h less within in
      lt-ltb (get_or all k d).number number (omega (arith, small, there)),
  λ k d low long.
      let there = ap (λ (l : Living W). l.number) (get_or_from_slice_get all at (get_or all at some) d (slice_get-get_or all at some within)) ∙ is in
      let large = numbers-between all at k d (cases_eq at k) h low long in
      le-ltb (get_or all k d).number number (omega (arith, large, there)),
)

pub partitioned-below : {W : Type 0} (number : ℕ) (all read : List (Living W)) → read ≡ all → ascend 0 (rows_of all) ≡ true → IsPartitionedBy (λ living. nat_lt living.number number) read
partitioned-below number all read e h = subst (λ xs. IsPartitionedBy (λ living. nat_lt living.number number) xs) (sym e) (IsPartitionedBy-ltb (λ living. living.number) all number (numbers-rise all h))

-- no other has the number
another-by : {W : Type 0} (number : ℕ) (all : List (Living W)) (at k : ℕ) (d : Living W) → (k < at) ⊎ (at ≤ k) → ascend 0 (rows_of all) ≡ true → IsWhere number all at → k < length all → (k ≡ at → ⊥) → number ≡ (get_or all k d).number → ⊥
another-by number all at k d (inl less) h where_is within ne e =
    let small = ltb-true (get_or all k d).number number (where_is.0 k d (omega arith) less) in
    omega arith
another-by number all at k d (inr le) h where_is within ne e =
    let less : at < k = omega arith in
    let large = ltb-false (get_or all at d).number number (where_is.1 at d (omega arith) (omega arith)) in
    let between = numbers-ascend 0 all at k d h less within in
    omega arith

named-by : (number x : ℕ) (others : List ℕ) (k : ℕ) → k < length (number ∷ others) → get_or (number ∷ others) k x ≡ x → (number ≡ x) ⊎ Contains others x
named-by number x others zero within is = inl is
named-by number x others (suc k) within is = inr (k, omega arith, is)

other-by : {W : Type 0} (others : List ℕ) (number : ℕ) (living : Living W) → (number ≡ living.number) ⊎ Contains others living.number → (number ≡ living.number → ⊥) → IsFreshOr others living
other-by others number living (inl e) ne = absurd (ne e)
other-by others number living (inr named) ne = inr named

-- another that was named is named among the others
other-fresh : {W : Type 0} (others : List ℕ) (number : ℕ) (living : Living W) → IsFreshOr (number ∷ others) living → (number ≡ living.number → ⊥) → IsFreshOr others living
other-fresh others number living (inl fresh) ne = inl fresh
other-fresh others number living (inr named) ne = other-by others number living (named-by number living.number others named.0 named.1 named.2) ne

others-fresh : {W : Type 0} (number : ℕ) (others : List ℕ) (all : List (Living W)) (at k : ℕ) (d : Living W) → ascend 0 (rows_of all) ≡ true → IsWhere number all at → All (IsFreshOr (number ∷ others)) all → k < length all → (k ≡ at → ⊥) →
    IsFreshOr others (get_or all k d)
others-fresh number others all at k d h where_is fresh within ne =
    other-fresh others number (get_or all k d) (fresh k d within) (another-by number all at k d (cases_lt k at) h where_is within ne)

-- where nobody has the number, it needn't be named
pub fresh-past : {W : Type 0} (number : ℕ) (others : List ℕ) (all : List (Living W)) (at : ℕ) → ascend 0 (rows_of all) ≡ true → IsWhere number all at → length all ≤ at → All (IsFreshOr (number ∷ others)) all → All (IsFreshOr others) all
fresh-past number others all at h where_is past fresh k d within = others-fresh number others all at k d h where_is fresh within (λ e. omega arith)

fresh-by : {W : Type 0} (number : ℕ) (others : List ℕ) (all : List (Living W)) (at : ℕ) (one : Living W) (k : ℕ) (d : Living W) → (k ≡ at) ⊎ (k ≡ at → ⊥) → ascend 0 (rows_of all) ≡ true → IsWhere number all at → one.fresh ≡ true → All (IsFreshOr (number ∷ others)) all →
    k < length all → IsFreshOr others (get_or (slice_set all at one) k d)
fresh-by number others all at one k d (inl e) h where_is looked fresh within =
    let there : get_or (slice_set all at one) k d ≡ one = ap (λ i. get_or (slice_set all at one) i d) e ∙ get_or-set_same all at one d (omega arith) in
    inl (ap (λ (living : Living _). living.fresh) there ∙ looked)
fresh-by number others all at one k d (inr ne) h where_is looked fresh within =
    subst (IsFreshOr others) (sym (get_or-set_other all at k one d ne)) (others-fresh number others all at k d h where_is fresh within ne)

-- once the process with the number was looked at, all processes are fresh or have one of the other numbers
pub fresh-set : {W : Type 0} (number : ℕ) (others : List ℕ) (all new : List (Living W)) (at : ℕ) (one : Living W) → new ≡ slice_set all at one → ascend 0 (rows_of all) ≡ true → IsWhere number all at → one.fresh ≡ true → All (IsFreshOr (number ∷ others)) all →
    All (IsFreshOr others) new
fresh-set number others all new at one e h where_is looked fresh k d within =
    let long : length new ≡ length all = ap length e ∙ length-set all at one in
    subst (λ xs. IsFreshOr others (get_or xs k d)) (sym e) (fresh-by number others all at one k d (cases_eq k at) h where_is looked fresh (omega arith))
