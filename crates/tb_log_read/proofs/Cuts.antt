-- The bytes before the first separator, and after it.
use Rattle.std.proofs.Common.{◌≡◌, ℕ, ◌+◌, ◌-◌, Bool, true, false, not, eqb, List, [], ◌∷◌, ◌++◌, length, refl, ap, sym, ◌∙◌, arith, length-append}
use Rattle.std.specs.List.{list_all}
use Rattle.std.proofs.lemmas.Bool.{false≢true, and_parts, and_from, eq-eqb, eqb-true}
use Rattle.std.proofs.lemmas.List.{take_at}
use Rattle.std.proofs.lemmas.List.Folds.{list_all-append}
use Rattle.tb_log_read.specs.Helpers.Cutting.{prefix, behind, without_last}

-- no byte is the separator
abbrev pub lacks : ℕ → List ℕ → Bool
lacks separator bytes = list_all (λ byte. not (eqb byte separator)) bytes

apart : (b : Bool) → not b ≡ true → b ≡ false
apart true e = absurd (false≢true e)
apart false e = refl

pub prefix-cut : (s : ℕ) (xs rest : List ℕ) → lacks s xs ≡ true → prefix s (xs ++ (s ∷ rest)) ≡ xs
prefix-cut s [] rest h = let same : eqb s s ≡ true = eq-eqb s s refl in rw same refl
prefix-cut s (x ∷ xs) rest h =
    let p = and_parts (not (eqb x s)) (lacks s xs) h in
    let other : eqb x s ≡ false = apart (eqb x s) p.0 in
    rw other (ap (λ (l : List ℕ). x ∷ l) (prefix-cut s xs rest p.1))

pub behind-cut : (s : ℕ) (xs rest : List ℕ) → lacks s xs ≡ true → behind s (xs ++ (s ∷ rest)) ≡ rest
behind-cut s [] rest h = let same : eqb s s ≡ true = eq-eqb s s refl in rw same refl
behind-cut s (x ∷ xs) rest h =
    let p = and_parts (not (eqb x s)) (lacks s xs) h in
    let other : eqb x s ≡ false = apart (eqb x s) p.0 in
    rw other (behind-cut s xs rest p.1)

pub prefix-none : (s : ℕ) (xs : List ℕ) → lacks s xs ≡ true → prefix s xs ≡ xs
prefix-none s [] h = refl
prefix-none s (x ∷ xs) h =
    let p = and_parts (not (eqb x s)) (lacks s xs) h in
    let other : eqb x s ≡ false = apart (eqb x s) p.0 in
    rw other (ap (λ (l : List ℕ). x ∷ l) (prefix-none s xs p.1))

pub behind-none : (s : ℕ) (xs : List ℕ) → lacks s xs ≡ true → behind s xs ≡ []
behind-none s [] h = refl
behind-none s (x ∷ xs) h =
    let p = and_parts (not (eqb x s)) (lacks s xs) h in
    let other : eqb x s ≡ false = apart (eqb x s) p.0 in
    rw other (behind-none s xs p.1)

pub without_last-push : (xs : List ℕ) (x : ℕ) → without_last (xs ++ (x ∷ [])) ≡ xs
without_last-push xs x =
    let long : length (xs ++ (x ∷ [])) ≡ length xs + 1 = length-append xs (x ∷ []) in
    take_at xs (x ∷ []) (length (xs ++ (x ∷ [])) - 1) (omega arith)

pub lacks-append : (s : ℕ) (xs ys : List ℕ) → lacks s xs ≡ true → lacks s ys ≡ true → lacks s (xs ++ ys) ≡ true
lacks-append s xs ys p q = list_all-append (λ byte. not (eqb byte s)) xs ys ∙ and_from (lacks s xs) (lacks s ys) p q

-- if each byte passes a test that the separator fails, no byte is the separator
pub lacks_by : (p : ℕ → Bool) (s : ℕ) → p s ≡ false → (xs : List ℕ) → list_all p xs ≡ true → lacks s xs ≡ true
lacks_by p s f [] h = refl
lacks_by p s f (x ∷ xs) h =
    let q = and_parts (p x) (list_all p xs) h in
    and_from (not (eqb x s)) (lacks s xs) (one (eqb x s) refl q.0) (lacks_by p s f xs q.1) where
      one : (b : Bool) → eqb x s ≡ b → p x ≡ true → not b ≡ true
      one true e t = let same : x ≡ s = eqb-true x s e in absurd (false≢true (sym f ∙ ap p (sym same) ∙ t))
      one false e t = refl
