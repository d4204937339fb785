-- Prefixes of bytes that pass a test.
use Rattle.std.proofs.Common.{◌≡◌, ℕ, suc, ◌+◌, Bool, true, false, cond, List, [], ◌∷◌, ◌++◌, refl, ap, sym, ◌∙◌, arith}
use Rattle.std.proofs.Math.Numerals.{one-add}
use Rattle.std.proofs.lemmas.Bool.{and_parts}
use Rattle.std.proofs.lemmas.List.Folds.{list_all-append}
use Rattle.std.specs.List.{list_all, prefix_len}

pub all_behind : (p : ℕ → Bool) (xs ys : List ℕ) → list_all p (xs ++ ys) ≡ true → list_all p ys ≡ true
all_behind p xs ys h = (and_parts (list_all p xs) (list_all p ys) (sym (list_all-append p xs ys) ∙ h)).1

pub none_first : (p : ℕ → Bool) (x : ℕ) (xs : List ℕ) → prefix_len p (x ∷ xs) ≡ 0 → p x ≡ true → ⊥
none_first p x xs e h =
    let one : suc (prefix_len p xs) ≡ 0 = sym (one-add (prefix_len p xs)) ∙ ap (λ v. cond v (1 + prefix_len p xs) 0) (sym h) ∙ e in
    absurd (omega arith)

-- if the first byte doesn't pass, the prefix is empty
pub none_more : (p : ℕ → Bool) (more tail : List ℕ) → prefix_len p (more ++ tail) ≡ 0 → list_all p more ≡ true → more ≡ []
none_more p [] tail e h = refl
none_more p (x ∷ more) tail e h = absurd (none_first p x (more ++ tail) e (and_parts (p x) (list_all p more) h).0)

pub stops_by : (p : ℕ → Bool) (rest : List ℕ) → ((x : ℕ) (tail : List ℕ) → rest ≡ x ∷ tail → p x ≡ true → ⊥) → prefix_len p rest ≡ 0
stops_by p [] h = refl
stops_by p (x ∷ rest) h = by (p x) refl where
  by : (v : Bool) → p x ≡ v → cond v (1 + prefix_len p rest) 0 ≡ 0
  by true e = absurd (h x rest refl e)
  by false e = refl
