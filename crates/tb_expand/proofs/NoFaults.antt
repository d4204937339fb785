-- If a whole has no violations, no part has any.
use Rattle.std.proofs.Common.{◌≡◌, ℕ, Bool, true, false, cond, List, [], ◌∷◌, ◌++◌, Some, refl, ap, sym, ◌∙◌}
use Rattle.std.specs.Prelude.{find}
use Rattle.std.specs.List.{AllByRecursion, flat_map}
use Rattle.tb_types.specs.declared.violation.Rule.{Rule}
use Rattle.tb_types.specs.Violation.{noted_if}

pub append_none : {A : Type 0} (xs ys : List A) → xs ++ ys ≡ [] → (xs ≡ []) × (ys ≡ [])
append_none [] ys e = (refl, e)
append_none (x ∷ xs) ys e =
    let more : x ∷ (xs ++ ys) ≡ [] = e in
    absurd (cc)

pub noted_none : (b : Bool) (violation : Rule) (token : ℕ) → noted_if b violation token ≡ [] → b ≡ false
noted_none true violation token e = absurd (cc)
noted_none false violation token e = refl

-- the first of some parts, and the others
pub flat_map_none : {A B : Type 0} (f : A → List B) (x : A) (xs : List A) → flat_map f (x ∷ xs) ≡ [] → (f x ≡ []) × (flat_map f xs ≡ [])
flat_map_none f x xs e = append_none (f x) (flat_map f xs) e

-- each part
pub flat_map_each : {A B : Type 0} (f : A → List B) (xs : List A) → flat_map f xs ≡ [] → AllByRecursion (λ x. f x ≡ []) xs
flat_map_each f [] e = tt
flat_map_each f (x ∷ xs) e =
    let parts = flat_map_none f x xs e in
    (parts.0, flat_map_each f xs parts.1)

-- the part that is found
pub flat_map_found : {A B : Type 0} (f : A → List B) (is : A → Bool) (xs : List A) (x : A) → find is xs ≡ Some x → flat_map f xs ≡ [] → f x ≡ []
flat_map_found f is [] x found e = absurd (cc)
flat_map_found f is (y ∷ xs) x found e = step (is y) found (flat_map_none f y xs e).0 (λ there. flat_map_found f is xs x there (flat_map_none f y xs e).1) where
  step : (b : Bool) → cond b (Some y) (find is xs) ≡ Some x → f y ≡ [] → (find is xs ≡ Some x → f x ≡ []) → f x ≡ []
  step true here none others =
      let same : y ≡ x = cc in
      ap f (sym same) ∙ none
  step false there none others = others there
