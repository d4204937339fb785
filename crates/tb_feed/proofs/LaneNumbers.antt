-- The number of a lane in decimal: one digit, or a 1 and another digit.
use Rattle.std.proofs.Common.{◌≡◌, ℕ, ◌+◌, ◌-◌, ◌/◌, ◌%◌, ◌<◌, ◌≤◌, List, [], ◌∷◌, ◌++◌, length, get_or, ◌⊎◌, inl, inr, Some, None, refl, ap, sym, ◌∙◌, arith}
use Rattle.std.specs.Fmt.{decimal}
use Rattle.std.proofs.lemmas.Fmt.{decimal_by_steps}
use Rattle.std.proofs.lemmas.Bool.{cases_lt}
use Rattle.tb_log.specs.Shapes.{IsLane}
use Rattle.tb_feed.specs.Helpers.OneLine.{IsNumberOf}

-- the digits of a number below 20
abbrev HasDigits : ℕ → List ℕ → Type 0
HasDigits n ds = (n < 10 → ds ≡ (48 + n) ∷ []) × (10 ≤ n → n < 20 → ds ≡ 49 ∷ (38 + n) ∷ [])

one_digit : (n : ℕ) → n < 10 → HasDigits n ((48 + n) ∷ [])
one_digit n h = (λ l. refl, λ l m. absurd (omega arith))

more_digits : (n : ℕ) (ds : List ℕ) → 10 ≤ n → HasDigits (n / 10) ds → HasDigits n (ds ++ ((48 + n % 10) ∷ []))
more_digits n ds h d = (λ l. absurd (omega arith), two)
  where
    two : 10 ≤ n → n < 20 → ds ++ ((48 + n % 10) ∷ []) ≡ 49 ∷ (38 + n) ∷ []
    two l m =
        let tens : 48 + n / 10 ≡ 49 = omega arith in
        let ones : 48 + n % 10 ≡ 38 + n = omega arith in
        let prefix : ds ≡ (48 + n / 10) ∷ [] = d.0 (omega arith) in
        ap (λ (xs : List ℕ). xs ++ ((48 + n % 10) ∷ [])) prefix ∙ ap (λ (k : ℕ). k ∷ (48 + n % 10) ∷ []) tens ∙ ap (λ (k : ℕ). 49 ∷ k ∷ []) ones

has_digits : (n : ℕ) → n < 20 → HasDigits n (decimal n)
has_digits n h = decimal_by_steps HasDigits one_digit more_digits n (omega arith)

-- a lane's number is one digit from 1 to 9, or a 1 and a digit from 0 to 6
abbrev pub OneDigit : ℕ → List ℕ → Type 0
OneDigit lane bytes = (bytes ≡ (48 + lane) ∷ []) × (1 ≤ lane) × (lane ≤ 9)

abbrev pub TwoDigits : ℕ → List ℕ → Type 0
TwoDigits lane bytes = (bytes ≡ 49 ∷ (38 + lane) ∷ []) × (10 ≤ lane) × (lane ≤ 16)

pub lane_digits : (lane : ℕ) → IsLane lane → OneDigit lane (decimal lane) ⊎ TwoDigits lane (decimal lane)
lane_digits lane is =
    elim (cases_lt lane 10) [
      | inl l ↦ inl ((has_digits lane (omega (arith, is.1))).0 l, is.0, omega arith)
      | inr l ↦ inr ((has_digits lane (omega (arith, is.1))).1 l (omega (arith, is.1)), l, is.1)
    ]

-- one digit that is no 0 is the number of a lane
pub one-number : (digit : ℕ) → 49 ≤ digit → digit ≤ 57 → IsNumberOf (digit ∷ []) (Some (digit - 48))
one-number digit low high =
    let there : digit - 48 < 10 = omega arith in
    let same : 48 + (digit - 48) ≡ digit = omega arith in
    ((omega arith, omega arith), sym ((has_digits (digit - 48) (omega arith)).0 there ∙ ap (λ (k : ℕ). k ∷ []) same))

-- and so are a 1 and a digit from 0 to 6
pub two-numbers : (digit : ℕ) → 48 ≤ digit → digit ≤ 54 → IsNumberOf (49 ∷ digit ∷ []) (Some (digit - 48 + 10))
two-numbers digit low high =
    let same : 38 + (digit - 48 + 10) ≡ digit = omega arith in
    ((omega arith, omega arith), sym ((has_digits (digit - 48 + 10) (omega arith)).1 (omega arith) (omega arith) ∙ ap (λ (k : ℕ). 49 ∷ k ∷ []) same))

only-byte : (a b : ℕ) → ◌≡◌ {A = List ℕ} (a ∷ []) (b ∷ []) → a ≡ b
only-byte a b e = ap (λ (l : List ℕ). get_or l 0 0) e

second-byte : (a b c d : ℕ) → ◌≡◌ {A = List ℕ} (a ∷ b ∷ []) (c ∷ d ∷ []) → b ≡ d
second-byte a b c d e = ap (λ (l : List ℕ). get_or l 1 0) e

-- any other digit is the number of none
pub no-one : (digit : ℕ) → (49 ≤ digit → digit ≤ 57 → ⊥) → IsNumberOf (digit ∷ []) None
no-one digit other lane is e =
    elim (lane_digits lane is) [
      | inl one ↦ let same = only-byte digit (48 + lane) (e ∙ one.0) in other (omega arith) (omega arith)
      | inr two ↦ let many : ◌≡◌ {A = ℕ} 1 2 = ap length (e ∙ two.0) in absurd (omega arith)
    ]

pub no-two : (digit : ℕ) → (48 ≤ digit → digit ≤ 54 → ⊥) → IsNumberOf (49 ∷ digit ∷ []) None
no-two digit other lane is e =
    elim (lane_digits lane is) [
      | inl one ↦ let many : ◌≡◌ {A = ℕ} 2 1 = ap length (e ∙ one.0) in absurd (omega arith)
      | inr two ↦ let same = second-byte 49 digit 49 (38 + lane) (e ∙ two.0) in other (omega arith) (omega arith)
    ]

pub no-number : (bytes : List ℕ) → (length bytes ≡ 1 → ⊥) → (length bytes ≡ 2 → get_or bytes 0 0 ≡ 49 → ⊥) → IsNumberOf bytes None
no-number bytes one two lane is e =
    elim (lane_digits lane is) [
      | inl d ↦ one (ap length (e ∙ d.0))
      | inr d ↦ two (ap length (e ∙ d.0)) (ap (λ (l : List ℕ). get_or l 0 0) (e ∙ d.0))
    ]
