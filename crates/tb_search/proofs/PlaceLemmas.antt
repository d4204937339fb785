-- Places of rows in the order of their numbers, and searches that pass over rows that lead to nothing.
use Rattle.std.proofs.Common.{◌≡◌, ℕ, ◌+◌, ◌-◌, ◌^◌, ◌<◌, ◌≤◌, zero, suc, List, [], ◌∷◌, ◌++◌, take, drop, length, refl, ap, sym, ◌∙◌, arith, Option, Some, None, Bool, true, false, not, ◌&&◌, nat_lt, nat_le, get_or, ⊎_elim}
use Rattle.std.proofs.lemmas.Bool.{ltb-true, ltb-false, lt-ltb, lt-leb, le-leb, leb-true, and_from, and_parts, cases_lt}
use Rattle.std.proofs.lemmas.Bool.Decides.{nat_tests}
use Rattle.std.proofs.lemmas.Option.{get_or_from_slice_get, slice_get-get_or}
use Rattle.std.proofs.lemmas.List.{length-map, get_or-map, drop_more, drop_all}
use Rattle.std.specs.List.Sorted.{IsPartitionedBy, IsPartitionPoint}
use Rattle.tb_index.specs.Indexes.{IsNext, NobodyPassed}
use Rattle.tb_search.specs.Candidates.{Row, no_row, row_at, ascend, row_of, rows_of, up_to}
use Rattle.tb_bus.specs.Steps.{first}
use Rattle.tb_search.specs.Indexed.{IsNextPlace, IsNextOf, IsPlaceOf}
use Rattle.tb_search.specs.declared.living.Living.{Living}
use Rattle.tb_search.proofs.TurnLemmas.{ascend-first, ascend-above, ascend-upto, up_to-point}

-- a later row has a larger number
pub ascend-less : (below : ℕ) (rows : List Row) (i j : ℕ) (d : Row) → ascend below rows ≡ true → i < j → j < length rows → (get_or rows i d).number < (get_or rows j d).number
ascend-less below [] i j d h l m = absurd (omega arith)
ascend-less below (row ∷ rows) i zero d h l m = absurd (omega arith)
ascend-less below (row ∷ rows) zero (suc j) d h l m = ascend-above row.number rows j d (ascend-first below row rows h).1 (omega arith)
ascend-less below (row ∷ rows) (suc i) (suc j) d h l m = ascend-less row.number rows i j d (ascend-first below row rows h).1 (omega arith) (omega arith)

-- the first ones ascend as all do
pub ascend-take : (below n : ℕ) (rows : List Row) → ascend below rows ≡ true → ascend below (take n rows) ≡ true
ascend-take below zero rows h = refl
ascend-take below (suc n) [] h = refl
ascend-take below (suc n) (row ∷ rows) h =
    let t = ascend-first below row rows h in
    and_from (nat_lt below row.number) (ascend row.number (take n rows)) (lt-ltb below row.number t.0) (ascend-take row.number n rows t.1)

-- the processes with numbers below a number come first
pub partitioned-below_number : {W : Type 0} (all : List (Living W)) (number : ℕ) → ascend 0 (rows_of all) ≡ true → IsPartitionedBy (λ living. nat_lt living.number number) all
partitioned-below_number all number h i j d le within passes =
    let small : (get_or all j d).number < number = ltb-true _ _ passes in
    let many = length-map all row_of in
    let between = ascend-upto 0 (rows_of all) i j (row_of d) h le (omega arith) in
    let lower : (get_or (rows_of all) i (row_of d)).number ≡ (get_or all i d).number = ap (λ (row : Row). row.number) (get_or-map row_of all i d (row_of d) (omega arith)) in
    let upper : (get_or (rows_of all) j (row_of d)).number ≡ (get_or all j d).number = ap (λ (row : Row). row.number) (get_or-map row_of all j d (row_of d) (omega arith)) in
    lt-ltb (get_or all i d).number number (omega arith)

-- if a process has the number, the processes up to the number end after it
pub upto-exact : {W : Type 0} (all : List (Living W)) (last place : ℕ) (some : Living W) → ascend 0 (rows_of all) ≡ true → place < length all → (get_or all place some).number ≡ last → place + 1 ≡ up_to last (rows_of all)
upto-exact {W = W} all last place some h within is =
    let many = length-map all row_of in
    up_to-point last all (place + 1) (omega (arith, within)) (
      λ k d low less.
          let lower = ap (λ (row : Row). row.number) (get_or-map row_of all k d (row_of d) (omega (arith, less, within))) in
          let upper = ap (λ (row : Row). row.number) (get_or-map row_of all place d (row_of d) within) in
          let there = ap (λ (living : Living W). living.number) (get_or_from_slice_get all place (get_or all place some) d (slice_get-get_or all place some within)) ∙ is in
          let between = ascend-upto 0 (rows_of all) k place (row_of d) h (omega (arith, less)) (omega (arith, many, within)) in
          le-leb (get_or all k d).number last (omega (arith, lower, upper, there, between)),
      λ k d low long.
          let lower = ap (λ (row : Row). row.number) (get_or-map row_of all place d (row_of d) within) in
          let upper = ap (λ (row : Row). row.number) (get_or-map row_of all k d (row_of d) long) in
          let there = ap (λ (living : Living W). living.number) (get_or_from_slice_get all place (get_or all place some) d (slice_get-get_or all place some within)) ∙ is in
          let between = ascend-less 0 (rows_of all) place k (row_of d) h (omega (arith, low)) (omega (arith, many, long)) in
          lt-leb (get_or all k d).number last (omega (arith, lower, upper, there, between)),
    )

-- the place of a number that isn't above the last one
pub place-within : (rows : List Row) (last number place : ℕ) → 0 < length rows → (row_at rows (length rows - 1)).number ≡ last → number ≤ last → place ≤ length rows →
    ((k : ℕ) → k < place → (row_at rows k).number < number) → ((k : ℕ) → place ≤ k → k < length rows → number ≤ (row_at rows k).number) → IsPlaceOf rows number (Some place)
place-within rows last number place some is upto most below above =
    let within : place < length rows = ⊎_elim (λ (l : place < length rows). l)
    (λ (l : length rows ≤ place). let less = below (length rows - 1) (omega (arith, l, some)) in absurd (omega (arith, less, is, upto)))
    (cases_lt place (length rows)) in
    (within, above place (omega arith) within, below)

-- there is no place for a number above the last one
pub place-past : (rows : List Row) (last number : ℕ) → ascend 0 rows ≡ true → (row_at rows (length rows - 1)).number ≡ last → last < number → IsPlaceOf rows number None
place-past rows last number a is past place within =
    let upper = ascend-upto 0 rows place (length rows - 1) no_row a (omega (arith, within)) (omega (arith, within)) in omega (arith, upper, is, past)

-- whether a number wasn't passed over
abbrev pub is_ahead : ℕ → Option ℕ → ℕ → Bool
is_ahead from None number = not (nat_le from number && nat_lt number 4294967296)
is_ahead from (Some found) number = not (nat_le from number && nat_lt number found)

not-true : (b : Bool) → b ≡ true → not b ≡ false
not-true true e = refl
not-true false e = absurd (let t : false ≡ true = e in cc)

was-true : (b : Bool) → not b ≡ false → b ≡ true
was-true true e = refl
was-true false e = absurd (let t : true ≡ false = e in cc)

-- the found number is the next one that wasn't passed over
pub ahead-next : (Holds : ℕ → Type 0) (from : ℕ) (found : Option ℕ) → NobodyPassed Holds from found → IsNext (is_ahead from found) from found
ahead-next Holds from None passed = λ number small low. not-true (nat_le from number && nat_lt number 4294967296) (and_from (nat_le from number) (nat_lt number 4294967296) (le-leb from number low) (lt-ltb number 4294967296 small))
ahead-next Holds from (Some found) passed = (
  passed.0,
  grind (arith, nat_tests),
  λ number low less. not-true (nat_le from number && nat_lt number found) (and_from (nat_le from number) (nat_lt number found) (le-leb from number low) (lt-ltb number found less)),
)

-- a number that was passed over doesn't have the property
pub ahead-none : (Holds : ℕ → Type 0) (from : ℕ) (found : Option ℕ) → NobodyPassed Holds from found → (number : ℕ) → is_ahead from found number ≡ false → Holds number → ⊥
ahead-none Holds from None passed number behind =
    let t = and_parts (nat_le from number) (nat_lt number 4294967296) (was-true (nat_le from number && nat_lt number 4294967296) behind) in
    passed number (ltb-true number 4294967296 t.1) (leb-true from number t.0)
ahead-none Holds from (Some found) passed number behind =
    let t = and_parts (nat_le from number) (nat_lt number found) (was-true (nat_le from number && nat_lt number found) behind) in
    passed.1 number (leb-true from number t.0) (ltb-true number found t.1)

module _ (holds : ℕ → Bool) (rows : List Row) (from : ℕ) (a : ascend 0 rows ≡ true) (w : from < length rows) where
  module _ (last : ℕ) (is : (row_at rows (length rows - 1)).number ≡ last) where
    -- no number is found
    pub place-none : last < 2 ^ 32 → IsNext holds (row_at rows from).number None → IsNextPlace holds rows from None
    place-none small h place low within =
        let upper = ascend-upto 0 rows place (length rows - 1) no_row a (omega (arith, within)) (omega (arith, w)) in
        let lower = ascend-upto 0 rows from place no_row a low within in
        h (row_at rows place).number (omega (arith, upper, is, small)) lower

    -- the found process isn't alive, and no process is after it
    pub place-behind : (number : ℕ) → last < number → IsNext holds (row_at rows from).number (Some number) → IsNextPlace holds rows from None
    place-behind number past h place low within =
        let upper = ascend-upto 0 rows place (length rows - 1) no_row a (omega (arith, within)) (omega (arith, w)) in
        let lower = ascend-upto 0 rows from place no_row a low within in
        h.2 (row_at rows place).number lower (omega (arith, upper, is, past))

    -- the place before which all numbers are below the found one
    pub place-found : (number place : ℕ) → number ≤ last → place ≤ length rows →
        ((k : ℕ) → k < place → (row_at rows k).number < number) → ((k : ℕ) → place ≤ k → k < length rows → number ≤ (row_at rows k).number) →
        IsNext holds (row_at rows from).number (Some number) → IsNextPlace holds rows from (Some place)
    place-found number place upto most below above h =
        let within : place < length rows = ⊎_elim (λ (l : place < length rows). l)
        (λ (l : length rows ≤ place). let less = below (length rows - 1) (omega (arith, l, w)) in absurd (omega (arith, less, is, upto)))
        (cases_lt place (length rows)) in
        let behind : from ≤ place = ⊎_elim
        (λ (l : place < from). let one = above place (omega arith) within in let two = ascend-less 0 rows place from no_row a l w in let three = h.0 in absurd (omega (arith, one, two, three)))
        (λ (l : from ≤ place). l)
        (cases_lt place from) in
        (behind, within, λ k low less. h.2 (row_at rows k).number (ascend-upto 0 rows from k no_row a low (omega (arith, less, within))) (below k less))

-- the place of a number that a process has
pub place-exact : (rows : List Row) (number place : ℕ) → ascend 0 rows ≡ true → place < length rows → (row_at rows place).number ≡ number →
    ((k : ℕ) → k < place → (row_at rows k).number < number) × ((k : ℕ) → place ≤ k → k < length rows → number ≤ (row_at rows k).number)
place-exact rows number place a within is = (
  λ k less. let small = ascend-less 0 rows k place no_row a less within in omega (arith, small, is),
  λ k low in-rows. let large = ascend-upto 0 rows place k no_row a low in-rows in omega (arith, large, is),
)

-- the point between the rows below a number and the others
pub point-of-rows : {W : Type 0} (all : List (Living W)) (number place : ℕ) (some : Living W) → place ≤ length all →
    IsPartitionPoint (λ living. nat_lt living.number number ≡ true) (λ living. nat_lt living.number number ≡ false) all place →
    ((k : ℕ) → k < place → (row_at (rows_of all) k).number < number) × ((k : ℕ) → place ≤ k → k < length (rows_of all) → number ≤ (row_at (rows_of all) k).number)
point-of-rows all number place some most h =
    let many = length-map all row_of in (
      λ k less.
          let is = ap (λ (row : Row). row.number) (get_or-map row_of all k some no_row (omega (arith, less, most))) in
          let small : (get_or all k some).number < number = ltb-true _ _ (h.0 k some (omega arith) less) in
          omega (arith, is, small),
      λ k low within.
          let is = ap (λ (row : Row). row.number) (get_or-map row_of all k some no_row (omega (arith, within, many))) in
          let large : number ≤ (get_or all k some).number = ltb-false _ _ (h.1 k some low (omega (arith, within, many))) in
          omega (arith, is, large),
    )

-- the row at the place of a process is that of the process
pub row-is : {W : Type 0} (all : List (Living W)) (place : ℕ) (living : Living W) → place < length all → living ≡ get_or all place living → row_at (rows_of all) place ≡ row_of living
row-is all place living within is = get_or-map row_of all place living no_row within ∙ ap row_of (sym is)

pub row-read : {W : Type 0} (all : List (Living W)) (place : ℕ) (some : Living W) → place < length all → row_at (rows_of all) place ≡ row_of (get_or all place some)
row-read all place some within = get_or-map row_of all place some no_row within

-- the same if the process was read in two steps
pub row-got : {W : Type 0} (all : List (Living W)) (place : ℕ) (living got : Living W) → place < length all → got ≡ living → living ≡ get_or all place living → row_at (rows_of all) place ≡ row_of got
row-got all place living got within same is = row-is all place living within is ∙ ap row_of (sym same)

pub number-got : {W : Type 0} (all : List (Living W)) (place : ℕ) (living got : Living W) → got ≡ living → living ≡ get_or all place living → (get_or all place living).number ≡ got.number
number-got {W = W} all place living got same is = ap (λ (l : Living W). l.number) (sym is ∙ sym same)

pub last-read : {W : Type 0} (all : List (Living W)) (some : Living W) → 0 < length all → (row_at (rows_of all) (length (rows_of all) - 1)).number ≡ (get_or all (length all - 1) some).number
last-read all some within =
    ap (λ (n : ℕ). (row_at (rows_of all) (n - 1)).number) (length-map all row_of)
    ∙ ap (λ (row : Row). row.number) (row-read all (length all - 1) some (omega (arith, within)))

-- if the rows without the property lead to nothing, a search needs only the next row with it
pub next-of : {A : Type 0} (holds : ℕ → Bool) (leads : ℕ → Row → List A) (rows : List Row) (from : ℕ) →
    ((place : ℕ) → place < length rows → holds (row_at rows place).number ≡ false → leads place (row_at rows place) ≡ []) →
    (result : Option ℕ) → IsNextPlace holds rows from result → IsNextOf leads rows from result
next-of holds leads rows from nothing None h = λ place low within. nothing place within (h place low within)
next-of holds leads rows from nothing (Some found) h =
    (h.0, h.1, λ place low less. let within = h.1 in nothing place (omega (arith, less, within)) (h.2 place low less))

first-other : {A : Type 0} (xs ys : List A) → None ≡ first xs → first (xs ++ ys) ≡ first ys
first-other [] ys e = refl
first-other (x ∷ xs) ys e = cc

first-this : {A : Type 0} (xs ys : List A) (x : A) → Some x ≡ first xs → Some x ≡ first (xs ++ ys)
first-this [] ys x e = cc
first-this (y ∷ xs) ys x e = e

-- the results of the rows from a place on: those of the first row, and then those of the others
module _ {A : Type 0} (leads : ℕ → Row → List A) (led : ℕ → List Row → List A) (none : (at : ℕ) → led at [] ≡ [])
    (one : (at : ℕ) (row : Row) (rows : List Row) → led at (row ∷ rows) ≡ leads at row ++ led (at + 1) rows) (rows : List Row) where
  led-first : (at : ℕ) → at < length rows → led at (drop at rows) ≡ leads at (row_at rows at) ++ led (at + 1) (drop (at + 1) rows)
  led-first at within = ap (led at) (drop_more rows at no_row within) ∙ one at (row_at rows at) (drop (at + 1) rows)

  skipped : (place n at : ℕ) → place ≤ length rows → at + n ≡ place → ((k : ℕ) → at ≤ k → k < place → leads k (row_at rows k) ≡ []) →
      led at (drop at rows) ≡ led place (drop place rows)
  skipped place zero at within e h = let same : at ≡ place = omega (arith, e) in ap (λ k. led k (drop k rows)) same
  skipped place (suc n) at within e h =
      led-first at (omega (arith, e, within))
      ∙ ap (λ xs. xs ++ led (at + 1) (drop (at + 1) rows)) (h at (omega arith) (omega (arith, e)))
      ∙ skipped place n (at + 1) within (omega (arith, e)) (λ k low less. h k (omega (arith, low)) less)

  -- if no row is found, there is no result
  pub led-none : (at : ℕ) → at ≤ length rows → IsNextOf leads rows at None → led at (drop at rows) ≡ []
  led-none at most h =
      skipped (length rows) (length rows - at) at (omega arith) (omega (arith, most)) h
      ∙ ap (led (length rows)) (drop_all (length rows) rows (omega arith)) ∙ none (length rows)

  led-at : (at place : ℕ) → IsNextOf leads rows at (Some place) → led at (drop at rows) ≡ leads place (row_at rows place) ++ led (place + 1) (drop (place + 1) rows)
  led-at at place h =
      let behind = h.0 in
      let within = h.1 in
      skipped place (place - at) at (omega (arith, within)) (omega (arith, behind)) h.2 ∙ led-first place within

  -- the first result of the found row is the first of all
  pub led-found : (at place : ℕ) (found : A) → IsNextOf leads rows at (Some place) → Some found ≡ first (leads place (row_at rows place)) → Some found ≡ first (led at (drop at rows))
  led-found at place found h e =
      first-this (leads place (row_at rows place)) (led (place + 1) (drop (place + 1) rows)) found e ∙ ap first (sym (led-at at place h))

  -- if the found row leads to nothing, the first result is that of the rows after it
  pub led-passed : (at place : ℕ) → IsNextOf leads rows at (Some place) → None ≡ first (leads place (row_at rows place)) → first (led (place + 1) (drop (place + 1) rows)) ≡ first (led at (drop at rows))
  led-passed at place h e =
      sym (ap first (led-at at place h) ∙ first-other (leads place (row_at rows place)) (led (place + 1) (drop (place + 1) rows)) e)
