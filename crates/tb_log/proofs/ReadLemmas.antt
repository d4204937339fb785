-- The elements of a list, read one after the other by their indices.
use Rattle.std.proofs.Common.{◌≡◌, ◌<◌, ◌-◌, ℕ, ◌+◌, ◌&&◌, Bool, true, List, [], ◌∷◌, ◌++◌, length, get_or, take, drop, slice_get, Some, ap, sym, ◌∙◌, arith, min}
use Rattle.std.proofs.lemmas.List.{drop_more, take_more, get_or-drop, length-drop, drop_min, take_min}
use Rattle.std.specs.List.{list_all}
use Rattle.std.proofs.lemmas.List.Folds.{list_all_more}
use Rattle.std.proofs.lemmas.Option.{get_or_from_slice_get, slice_get_within}

-- the element that was read is the one at the index, whatever the value beyond the end
pub read_is : {X : Type 0} (xs : List X) (at : ℕ) (x : X) → slice_get xs at ≡ Some x → x ≡ get_or xs at x
read_is xs at x here = sym (get_or_from_slice_get xs at x x here)

-- the element that was read is the first of the remaining elements
pub read_left : {X : Type 0} (xs : List X) (at : ℕ) (x : X) → slice_get xs at ≡ Some x → drop at xs ≡ x ∷ drop (at + 1) xs
read_left xs at x here =
    drop_more xs at x (slice_get_within xs at x here) ∙ ap (λ y. y ∷ drop (at + 1) xs) (get_or_from_slice_get xs at x x here)

-- the element that was read is the last of the elements up to its index
pub read_on : {X : Type 0} (xs : List X) (at : ℕ) (x : X) → slice_get xs at ≡ Some x → take (at + 1) xs ≡ take at xs ++ x ∷ []
read_on xs at x here =
    take_more xs at x (slice_get_within xs at x here) ∙ ap (λ y. take at xs ++ y ∷ []) (get_or_from_slice_get xs at x x here)

-- the element that was read is the last of the elements up to its index, counted after the first `before` elements
pub read_behind : {X : Type 0} (xs : List X) (before at : ℕ) (x : X) → slice_get xs (before + at) ≡ Some x → take (at + 1) (drop before xs) ≡ take at (drop before xs) ++ x ∷ []
read_behind xs before at x here =
    let inside : before + at < length xs = slice_get_within xs (before + at) x here in
    let long : length (drop before xs) ≡ length xs - before = length-drop before xs in
    let within : at < length (drop before xs) = omega (arith, inside, long) in
    let same : get_or (drop before xs) at x ≡ x = get_or-drop before xs at x ∙ get_or_from_slice_get xs (before + at) x x here in
    take_more (drop before xs) at x within ∙ ap (λ y. take at (drop before xs) ++ y ∷ []) same

-- a piece with `from` and `most` limited to the length of the list is the piece without these limits
pub read_piece : {X : Type 0} (xs : List X) (from most before count : ℕ) → before ≡ min from (length xs) → count ≡ min most (length xs - before) → take count (drop before xs) ≡ take most (drop from xs)
read_piece xs from most before count behind so_many =
    let long : length xs - before ≡ length (drop before xs) = sym (length-drop before xs) in
    ap (λ (n : ℕ). take n (drop before xs)) (so_many ∙ ap (λ (n : ℕ). min most n) long)
    ∙ take_min most (drop before xs)
    ∙ ap (λ (n : ℕ). take most (drop n xs)) behind
    ∙ ap (take most) (drop_min from xs)

-- if all elements before this one pass a test and this one passes it, all elements up to this one pass it
pub all_read : {X : Type 0} (p : X → Bool) (xs : List X) (at : ℕ) (x : X) → slice_get xs at ≡ Some x → list_all p (take at xs) ≡ true → p x ≡ true → list_all p (take (at + 1) xs) ≡ true
all_read p xs at x here before one =
    list_all_more p xs at x (slice_get_within xs at x here)
    ∙ ap (λ (b : Bool). b && p (get_or xs at x)) before
    ∙ ap p (get_or_from_slice_get xs at x x here) ∙ one
