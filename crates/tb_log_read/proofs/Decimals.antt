-- The decimal text of a number has only digits, and its value is the number.
use Rattle.std.proofs.Common.{◌≡◌, ℕ, ◌+◌, ◌-◌, ◌*◌, ◌/◌, ◌%◌, ◌^◌, ◌≤◌, ◌<◌, true, false, List, [], ◌∷◌, ◌++◌, fold, refl, ◌∙◌, arith}
use Rattle.std.proofs.lemmas.Bool.{and_from}
use Rattle.std.proofs.lemmas.Bool.Decides.{nat_tests}
use Rattle.std.proofs.lemmas.Fmt.{decimal_by_steps}
use Rattle.std.proofs.lemmas.List.Folds.{list_all-append}
use Rattle.std.specs.Fmt.{decimal}
use Rattle.std.specs.List.{list_all}
use Rattle.tb_terms.specs.Names.{is_digit}
use Rattle.tb_read.specs.Spelling.{digits_value}
use Rattle.tb_log_read.specs.Helpers.Numbers.{number64, number32, number8, place_of}
use Rattle.tb_log_read.proofs.Cuts.{lacks, lacks_by, prefix-cut, behind-cut}

abbrev IsDecimal : ℕ → List ℕ → Type 0
IsDecimal n digits = (list_all is_digit digits ≡ true) × (digits_value digits ≡ n)

fold-push : (f : ℕ → ℕ → ℕ) (a : ℕ) (xs : List ℕ) (y : ℕ) → fold f a (xs ++ (y ∷ [])) ≡ f (fold f a xs) y
fold-push f a [] y = refl
fold-push f a (x ∷ xs) y = fold-push f (f a x) xs y

digit_glyph : (d : ℕ) → d < 10 → is_digit (48 + d) ≡ true
digit_glyph d h = grind (arith, nat_tests)

one_digit : (n : ℕ) → n < 10 → IsDecimal n ((48 + n) ∷ [])
one_digit n h = (and_from (is_digit (48 + n)) true (digit_glyph n h) refl, omega arith)

more_digits : (n : ℕ) (ds : List ℕ) → 10 ≤ n → IsDecimal (n / 10) ds → IsDecimal n (ds ++ ((48 + n % 10) ∷ []))
more_digits n ds h d =
    let below : n % 10 < 10 = omega arith in
    let value : digits_value (ds ++ ((48 + n % 10) ∷ [])) ≡ 10 * digits_value ds + (48 + n % 10 - 48) = fold-push (λ value digit. 10 * value + (digit - 48)) 0 ds (48 + n % 10) in
    let prefix : digits_value ds ≡ n / 10 = d.1 in
    let last : list_all is_digit ((48 + n % 10) ∷ []) ≡ true = and_from (is_digit (48 + n % 10)) true (digit_glyph (n % 10) below) refl in
    (list_all-append is_digit ds ((48 + n % 10) ∷ []) ∙ and_from (list_all is_digit ds) (list_all is_digit ((48 + n % 10) ∷ [])) d.0 last, omega arith)

is_decimal : (n : ℕ) → n < 2 ^ 64 → IsDecimal n (decimal n)
is_decimal n h = decimal_by_steps IsDecimal one_digit more_digits n h

pub digits-decimal : (n : ℕ) → n < 2 ^ 64 → list_all is_digit (decimal n) ≡ true
digits-decimal n h = (is_decimal n h).0

-- no digit is this byte
pub lacks-decimal : (s : ℕ) → is_digit s ≡ false → (n : ℕ) → n < 2 ^ 64 → lacks s (decimal n) ≡ true
lacks-decimal s f n h = lacks_by is_digit s f (decimal n) (digits-decimal n h)

pub number64-decimal : (n : ℕ) → n < 2 ^ 64 → number64 (decimal n) ≡ n
number64-decimal n h =
    let value : digits_value (decimal n) ≡ n = (is_decimal n h).1 in
    omega arith

pub number32-decimal : (n : ℕ) → n < 2 ^ 32 → number32 (decimal n) ≡ n
number32-decimal n h =
    let value : digits_value (decimal n) ≡ n = (is_decimal n (omega arith)).1 in
    omega arith

pub number8-decimal : (n : ℕ) → n < 2 ^ 8 → number8 (decimal n) ≡ n
number8-decimal n h =
    let value : digits_value (decimal n) ≡ n = (is_decimal n (omega arith)).1 in
    omega arith

pub place_of-decimal : (p a : ℕ) → p < 2 ^ 32 → a < 2 ^ 32 → place_of (decimal p ++ (46 ∷ decimal a)) ≡ record { proc = p; atom = a }
place_of-decimal p a hp ha =
    let lack : lacks 46 (decimal p) ≡ true = lacks-decimal 46 refl p (omega arith) in
    let proc : number32 (decimal p) ≡ p = number32-decimal p hp in
    let atom : number32 (decimal a) ≡ a = number32-decimal a ha in
    rw (prefix-cut 46 (decimal p) (decimal a) lack, behind-cut 46 (decimal p) (decimal a) lack) cc
