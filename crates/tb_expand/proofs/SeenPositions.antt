-- The number of the positions below a bound that are in a list.
use Rattle.std.proofs.Common.{◌≡◌, ℕ, zero, suc, ◌+◌, ◌<◌, ◌≤◌, ◌⊎◌, inl, inr, Bool, true, false, ◌||◌, List, [], ◌∷◌, ◌++◌, if◌then◌else◌, refl, ap, sym, subst, arith}
use Rattle.std.specs.List.{Contains, list_any}
use Rattle.std.proofs.Math.Dec.{eqb}
use Rattle.std.proofs.lemmas.Bool.{eqb-true, eq-eqb, cases_eq}
use Rattle.std.proofs.lemmas.List.Folds.{list_any-append}
use Rattle.std.proofs.lemmas.Map.Views.{Contains-from_any}

abbrev mark : Bool → ℕ
mark b = if b then 1 else 0

abbrev pub is_in : List ℕ → ℕ → Bool
is_in positions position = list_any (eqb position) positions

abbrev pub seen_below : ℕ → List ℕ → ℕ
seen_below zero positions = 0
seen_below (suc n) positions = mark (is_in positions n) + seen_below n positions

pub contained : (positions : List ℕ) (position : ℕ) → is_in positions position ≡ true → Contains positions position
contained positions position is = Contains-from_any {eq = eqb} eqb-true position positions is

mark_low : (b : Bool) → mark b ≤ 1
mark_low true = omega arith
mark_low false = omega arith

mark_more : (b c : Bool) → mark b ≤ mark (b || c)
mark_more true c = omega arith
mark_more false c = omega arith

mark_new : (b c : Bool) → b ≡ false → c ≡ true → suc (mark b) ≤ mark (b || c)
mark_new true c p q = absurd cc
mark_new false true p q = omega arith
mark_new false false p q = absurd cc

pub seen_at_most : (n : ℕ) (positions : List ℕ) → seen_below n positions ≤ n
seen_at_most zero positions = omega arith
seen_at_most (suc n) positions = omega (arith, mark_low (is_in positions n), seen_at_most n positions)

in_more : (positions : List ℕ) (last position : ℕ) → is_in (positions ++ last ∷ []) position ≡ (is_in positions position || is_in (last ∷ []) position)
in_more positions last position = list_any-append (eqb position) positions (last ∷ [])

kept_mark : (positions : List ℕ) (last position : ℕ) → mark (is_in positions position) ≤ mark (is_in (positions ++ last ∷ []) position)
kept_mark positions last position = subst (λ (b : Bool). mark (is_in positions position) ≤ mark b) (sym (in_more positions last position)) (mark_more (is_in positions position) (is_in (last ∷ []) position))

is_last : (last : ℕ) → is_in (last ∷ []) last ≡ true
is_last last = ap (λ (b : Bool). b || false) (eq-eqb last last refl)

new_mark : (positions : List ℕ) (last : ℕ) → is_in positions last ≡ false → suc (mark (is_in positions last)) ≤ mark (is_in (positions ++ last ∷ []) last)
new_mark positions last new =
    subst (λ (b : Bool). suc (mark (is_in positions last)) ≤ mark b) (sym (in_more positions last last))
    (mark_new (is_in positions last) (is_in (last ∷ []) last) new (is_last last))

pub seen_more : (n : ℕ) (positions : List ℕ) (last : ℕ) → seen_below n positions ≤ seen_below n (positions ++ last ∷ [])
seen_more zero positions last = omega arith
seen_more (suc n) positions last = omega (arith, kept_mark positions last n, seen_more n positions last)

pub seen_new : (n : ℕ) (positions : List ℕ) (last : ℕ) → last < n → is_in positions last ≡ false → suc (seen_below n positions) ≤ seen_below n (positions ++ last ∷ [])
seen_new zero positions last below new = absurd (omega arith)
seen_new (suc n) positions last below new = step (cases_eq last n) (λ lower. seen_new n positions last lower new) where
  step : (last ≡ n) ⊎ (last ≡ n → ⊥) → (last < n → suc (seen_below n positions) ≤ seen_below n (positions ++ last ∷ [])) → suc (seen_below (suc n) positions) ≤ seen_below (suc n) (positions ++ last ∷ [])
  step (inl e) ih =
      let here : suc (mark (is_in positions n)) ≤ mark (is_in (positions ++ last ∷ []) n)
      = subst (λ (m : ℕ). suc (mark (is_in positions m)) ≤ mark (is_in (positions ++ last ∷ []) m)) e (new_mark positions last new) in
      omega (arith, here, seen_more n positions last)
  step (inr other) ih =
      let lower : last < n = omega arith in
      omega (arith, kept_mark positions last n, ih lower)
