-- Lookups in a list after a change, and the members of a list.
use Rattle.std.proofs.Common.{◌≡◌, ℕ, zero, suc, ◌+◌, ◌<◌, ◌≤◌, ◌⊎◌, inl, inr, List, [], ◌∷◌, ◌++◌, length, get_or, take, set, replicate, slice_get, Some, None, Contains, refl, ap, sym, ◌∙◌, subst, arith, take_all}
use Rattle.std.proofs.lemmas.Bool.{cases_eq}
use Rattle.std.proofs.lemmas.Option.{same_Some, slice_get_within, slice_get-get_or, get_or_from_slice_get}
use Rattle.std.proofs.lemmas.List.{take_more}
use Rattle.std.proofs.lemmas.List.Elements.{Contains-push_cases}

pub none_in : {A : Type 0} (x : A) → Contains [] x → ⊥
none_in x c = omega arith

pub contains_at : {A : Type 0} (xs : List A) (i : ℕ) (x : A) → slice_get xs i ≡ Some x → Contains xs x
contains_at xs i x h = (i, slice_get_within xs i x h, get_or_from_slice_get xs i x x h)

pub at_contains : {A : Type 0} (xs : List A) (x : A) → Contains xs x → (i : ℕ) × (slice_get xs i ≡ Some x)
at_contains xs x c = (c.0, slice_get-get_or xs c.0 x c.1 ∙ ap Some c.2)

pub contains_here : {A : Type 0} (x : A) (xs : List A) → Contains (x ∷ xs) x
contains_here x xs = (0, omega arith, refl)

pub contains_there : {A : Type 0} (y : A) (xs : List A) (x : A) → Contains xs x → Contains (y ∷ xs) x
contains_there y xs x c = (suc c.0, omega (arith, c.1), c.2)

pub contains_cases : {A : Type 0} (y : A) (xs : List A) (x : A) → Contains (y ∷ xs) x → (y ≡ x) ⊎ Contains xs x
contains_cases y xs x c = at c.0 c.1 c.2 where
  at : (k : ℕ) → k < length (y ∷ xs) → get_or (y ∷ xs) k x ≡ x → (y ≡ x) ⊎ Contains xs x
  at zero h e = inl e
  at (suc k) h e = inr (k, omega arith, e)

pub past_end : {A : Type 0} (xs : List A) (i : ℕ) → slice_get xs i ≡ None → length xs ≤ i
past_end [] i h = omega arith
past_end (x ∷ xs) zero h = cc
past_end (x ∷ xs) (suc i) h = omega (arith, past_end xs i h)

pub read_set_same : {A : Type 0} (xs : List A) (i : ℕ) (x : A) → i < length xs → slice_get (set xs i x) i ≡ Some x
read_set_same [] i x h = absurd (omega arith)
read_set_same (y ∷ xs) zero x h = refl
read_set_same (y ∷ xs) (suc i) x h = read_set_same xs i x (omega arith)

pub read_set_other : {A : Type 0} (xs : List A) (i j : ℕ) (x : A) → (j ≡ i → ⊥) → slice_get (set xs i x) j ≡ slice_get xs j
read_set_other [] i j x n = refl
read_set_other (y ∷ xs) zero zero x n = absurd (n refl)
read_set_other (y ∷ xs) zero (suc j) x n = refl
read_set_other (y ∷ xs) (suc i) zero x n = refl
read_set_other (y ∷ xs) (suc i) (suc j) x n = read_set_other xs i j x (λ e. n (ap suc e))

-- what is read after one was set: that one, or what was there
pub read_set : {A : Type 0} (xs : List A) (i j : ℕ) (x y : A) → i < length xs → slice_get (set xs i x) j ≡ Some y
    → ((j ≡ i) × (x ≡ y)) ⊎ ((j ≡ i → ⊥) × (slice_get xs j ≡ Some y))
read_set xs i j x y within h = step (cases_eq j i) where
  step : (j ≡ i) ⊎ (j ≡ i → ⊥) → ((j ≡ i) × (x ≡ y)) ⊎ ((j ≡ i → ⊥) × (slice_get xs j ≡ Some y))
  step (inl e) = inl (e, same_Some x y (sym (read_set_same xs i x within) ∙ ap (λ n. slice_get (set xs i x) n) (sym e) ∙ h))
  step (inr n) = inr (n, sym (read_set_other xs i j x n) ∙ h)

pub read_push : {A : Type 0} (xs : List A) (x : A) (i : ℕ) (y : A) → slice_get (xs ++ x ∷ []) i ≡ Some y
    → (slice_get xs i ≡ Some y) ⊎ ((i ≡ length xs) × (x ≡ y))
read_push [] x zero y h = inr (refl, same_Some x y h)
read_push [] x (suc i) y h = cc
read_push (z ∷ xs) x zero y h = inl h
read_push (z ∷ xs) x (suc i) y h = step (read_push xs x i y h) where
  step : (slice_get xs i ≡ Some y) ⊎ ((i ≡ length xs) × (x ≡ y)) → (slice_get xs i ≡ Some y) ⊎ ((suc i ≡ suc (length xs)) × (x ≡ y))
  step (inl e) = inl e
  step (inr p) = inr (ap suc p.0, p.1)

pub read_replicate : {A : Type 0} (n : ℕ) (x : A) (i : ℕ) (y : A) → slice_get (replicate n x) i ≡ Some y → x ≡ y
read_replicate zero x i y h = cc
read_replicate (suc n) x zero y h = same_Some x y h
read_replicate (suc n) x (suc i) y h = read_replicate n x i y h

-- one more of a front
pub in_more : {A : Type 0} (xs : List A) (i : ℕ) (x y : A) → slice_get xs i ≡ Some x → Contains (take (i + 1) xs) y → Contains (take i xs) y ⊎ (x ≡ y)
in_more {A = A} xs i x y h c =
    let more : take (i + 1) xs ≡ take i xs ++ (x ∷ []) = take_more xs i x (slice_get_within xs i x h) ∙ ap (λ z. take i xs ++ (z ∷ [])) (get_or_from_slice_get xs i x x h) in
    Contains-push_cases (take i xs) x y (subst (λ (zs : List A). Contains zs y) more c)

-- at the end a front is all
pub in_whole : {A : Type 0} (xs : List A) (i : ℕ) (x : A) → slice_get xs i ≡ None → Contains xs x → Contains (take i xs) x
in_whole {A = A} xs i x h c = subst (λ (zs : List A). Contains zs x) (sym (take_all i xs (past_end xs i h))) c
