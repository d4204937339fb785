-- Checked arithmetic is arithmetic with a test of the range.
use Rattle.std.proofs.Common.{◌≡◌, ◌<◌, ℤ, pos, negsuc, ◌-ℤ◌, ◌*ℤ◌, int_div, int_rem, Bool, true, false, Option, Some, None, SomeIff, FitsSigned, refl, sym, ap, ◌∙◌, arith, rules, cond}
use Rattle.std.specs.Int.{w64}
use Rattle.std.proofs.lemmas.Int.{ints, quot-rem}
use Rattle.std.specs.Int.{CanDivide, cast_unsigned}
use Rattle.std.specs.Ordering.{int_eq}
use lib.Signed.{mag_rem}
use Rattle.std.proofs.lemmas.Bool.Decides.{nat_tests}
use Rattle.tb_terms.specs.Proper.{has_64_bits}
use Rattle.tb_func.specs.Numbers.{ranged, remainder}

pub has_64_bits-fits : (z : ℤ) → FitsSigned w64 z → has_64_bits z ≡ true
has_64_bits-fits (pos n) h = grind (arith, nat_tests, h.sfits)
has_64_bits-fits (negsuc n) h = grind (arith, nat_tests, h.sfits)

pub fits-has_64_bits : (z : ℤ) → has_64_bits z ≡ true → FitsSigned w64 z
fits-has_64_bits (pos n) h = record { sfits = grind (arith, nat_tests) }
fits-has_64_bits (negsuc n) h = record { sfits = grind (arith, nat_tests) }

without : (z : ℤ) (b : Bool) → has_64_bits z ≡ b → (FitsSigned w64 z → ⊥) → ◌≡◌ {A = Option ℤ} None (cond b (Some z) None)
without z true e h = absurd (h (fits-has_64_bits z e))
without z false e h = refl

pub ranged_checked : (r : Option ℤ) (z : ℤ) → SomeIff r (FitsSigned w64 z) z → r ≡ ranged z
ranged_checked None z h = without z (has_64_bits z) refl h
ranged_checked (Some x) z h = ap Some h.1 ∙ sym (ap (λ b. cond b (Some z) None) (has_64_bits-fits z h.0))

pub difference-is_rem : (x y : ℤ) → x -ℤ (y *ℤ int_div x y) ≡ int_rem x y
difference-is_rem x y = omega (arith, ints, quot-rem x y)

test_of_nonzero : (y : ℤ) → 0 < cast_unsigned w64 y → int_eq y (pos 0) ≡ false
test_of_nonzero (pos n) h = grind (arith, nat_tests)
test_of_nonzero (negsuc n) h = search rules

nonzero_of_test : (y : ℤ) → FitsSigned w64 y → int_eq y (pos 0) ≡ false → 0 < cast_unsigned w64 y
nonzero_of_test (pos n) f h = grind (arith, nat_tests)
nonzero_of_test (negsuc n) f h = omega (arith, f.sfits)

fits_rem : (x y : ℤ) → FitsSigned w64 x → FitsSigned w64 (int_rem x y)
fits_rem x y h = record { sfits = omega (arith, mag_rem x y, h.sfits) }

ranged-fits : (z : ℤ) → FitsSigned w64 z → ranged z ≡ Some z
ranged-fits z h = ap (λ b. cond b (Some z) None) (has_64_bits-fits z h)

none_from : (x y : ℤ) (b : Bool) → int_eq y (pos 0) ≡ b → FitsSigned w64 y → (CanDivide w64 x y → ⊥) → ◌≡◌ {A = Option ℤ} None (remainder x y)
none_from x y true e f h = rw e refl
none_from x y false e f h =
    let none : ◌≡◌ {A = Option ℤ} None (ranged (int_div x y)) = without (int_div x y) (has_64_bits (int_div x y)) refl (λ g. h (nonzero_of_test y f e, g)) in
    rw (e, sym none) refl

pub remainder_checked : (r : Option ℤ) (x y : ℤ) → FitsSigned w64 x → FitsSigned w64 y → SomeIff r (CanDivide w64 x y) (int_rem x y) → r ≡ remainder x y
remainder_checked None x y f g h = none_from x y (int_eq y (pos 0)) refl g h
remainder_checked (Some z) x y f g h =
    let e = test_of_nonzero y h.0.0 in
    let q = ranged-fits (int_div x y) h.0.1 in
    rw (e, q, difference-is_rem x y, ranged-fits (int_rem x y) (fits_rem x y f), h.1) refl
