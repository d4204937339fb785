-- Lemmas on lists that grow, or of which one element changes.
use Rattle.std.proofs.Common.{◌≡◌, ◌≢◌, ◌<◌, ◌++◌, ◌∷◌, [], ℕ, zero, suc, List, length, set, get_or, Bool, true, false, ◌||◌, inl, inr, Some, refl, ap, sym, ◌∙◌, arith}
use Rattle.std.specs.Prelude.{slice_get}
use Rattle.std.specs.List.{list_any}
use Rattle.std.proofs.lemmas.Bool.{cases_Bool, false≢true, or_cases}
use Rattle.std.proofs.lemmas.List.Folds.{list_any_at}
use Rattle.std.proofs.lemmas.Option.{none-some, same_Some}

pub or_left : (a b : Bool) → a ≡ true → (a || b) ≡ true
or_left a b is = ap (λ c. c || b) is

pub or_right : (a b : Bool) → b ≡ true → (a || b) ≡ true
or_right true b is = refl
or_right false b is = is

-- what is at a place
module _ {X : Type 0} where
  pub get_last : (xs : List X) (x : X) → slice_get (xs ++ x ∷ []) (length xs) ≡ Some x
  get_last [] x = refl
  get_last (y ∷ ys) x = get_last ys x

  pub get_set : (xs : List X) (index : ℕ) (x : X) → index < length xs → slice_get (set xs index x) index ≡ Some x
  get_set [] index x within = absurd (omega (arith, within))
  get_set (y ∷ ys) zero x within = refl
  get_set (y ∷ ys) (suc index) x within = get_set ys index x (omega (arith, within))

  pub get_other : (xs : List X) (index other : ℕ) (x : X) → other ≢ index → slice_get (set xs index x) other ≡ slice_get xs other
  get_other [] index other x apart = refl
  get_other (y ∷ ys) zero zero x apart = absurd (apart refl)
  get_other (y ∷ ys) zero (suc other) x apart = refl
  get_other (y ∷ ys) (suc index) zero x apart = refl
  get_other (y ∷ ys) (suc index) (suc other) x apart = get_other ys index other x (λ same. apart (ap suc same))

-- tests of any element
module _ {X : Type 0} (test : X → Bool) where
  pub any_here : (xs : List X) (index : ℕ) (x : X) → slice_get xs index ≡ Some x → test x ≡ true → list_any test xs ≡ true
  any_here [] index x here passes = absurd (none-some x here)
  any_here (y ∷ ys) zero x here passes = or_left (test y) (list_any test ys) (ap test (same_Some y x here) ∙ passes)
  any_here (y ∷ ys) (suc index) x here passes = or_right (test y) (list_any test ys) (any_here ys index x here passes)

  pub none_any : (xs : List X) → ((k : ℕ) (d : X) → k < length xs → test (get_or xs k d) ≡ false) → list_any test xs ≡ false
  none_any [] none = refl
  none_any (y ∷ ys) none =
      ap (λ b. b || list_any test ys) (none 0 y (omega arith))
      ∙ none_any ys (λ k d within. none (suc k) d (omega (arith, within)))

  -- no element passes
  pub fails_at : (xs : List X) (k : ℕ) (d : X) → k < length xs → list_any test xs ≡ false → test (get_or xs k d) ≡ false
  fails_at xs k d within none = elim (cases_Bool (test (get_or xs k d))) [
    | inl it ↦ absurd (false≢true (sym none ∙ list_any_at test xs k d within it))
    | inr it ↦ it
  ]

  pub any_set : (xs : List X) (index : ℕ) (old new : X) → slice_get xs index ≡ Some old → (test old ≡ true → test new ≡ true)
      → list_any test xs ≡ true → list_any test (set xs index new) ≡ true
  any_set [] index old new here passes any = any
  any_set (y ∷ ys) zero old new here passes any = elim (or_cases (test y) (list_any test ys) any) [
    | inl it ↦ or_left (test new) (list_any test ys) (passes (ap test (sym (same_Some y old here)) ∙ it))
    | inr it ↦ or_right (test new) (list_any test ys) it
  ]
  any_set (y ∷ ys) (suc index) old new here passes any = elim (or_cases (test y) (list_any test ys) any) [
    | inl it ↦ or_left (test y) (list_any test (set ys index new)) it
    | inr it ↦ or_right (test y) (list_any test (set ys index new)) (any_set ys index old new here passes it)
  ]

  pub any_push : (xs : List X) (x : X) → list_any test xs ≡ true → list_any test (xs ++ x ∷ []) ≡ true
  any_push (y ∷ ys) x any = elim (or_cases (test y) (list_any test ys) any) [
    | inl it ↦ or_left (test y) (list_any test (ys ++ x ∷ [])) it
    | inr it ↦ or_right (test y) (list_any test (ys ++ x ∷ [])) (any_push ys x it)
  ]
  any_push [] x any = or_right (test x) false any

  pub any_last : (xs : List X) (x : X) → test x ≡ true → list_any test (xs ++ x ∷ []) ≡ true
  any_last xs x passes = any_here (xs ++ x ∷ []) (length xs) x (get_last xs x) passes
