-- The test `is_same` decides equality.
use Rattle.std.proofs.Common.{◌≡◌, Bool, true, false, ◌&&◌, refl, ap, sym, ◌∙◌, arith, rules, IsTrue, ◌↔◌}
use Rattle.std.specs.Coded.{Coded}
use base.Stored.{Gv, gnil, gnum, gcons}
use Rattle.tb_terms.specs.Same.{is_same_code, is_same}

pub is_same_code-refl : (x : Gv) → is_same_code x x ≡ true
is_same_code-refl gnil = refl
is_same_code-refl (gnum n) = search rules
is_same_code-refl (gcons a b) = let p = is_same_code-refl a in let q = is_same_code-refl b in grind (arith)

pub both-true : (a b : Bool) → (a && b) ≡ true → (a ≡ true) × (b ≡ true)
both-true true true h = (refl, refl)
both-true true false h = cc
both-true false b h = cc

pub is_same_code-sound : (x y : Gv) → is_same_code x y ≡ true → x ≡ y
is_same_code-sound gnil gnil h = refl
is_same_code-sound (gnum m) (gnum n) h = let e : m ≡ n = search rules in ap gnum e
is_same_code-sound (gcons a b) (gcons c d) h =
    let t = both-true (is_same_code a c) (is_same_code b d) h in
    let e = is_same_code-sound a c t.0 in
    let f = is_same_code-sound b d t.1 in
    cc
is_same_code-sound gnil (gnum n) h = cc
is_same_code-sound gnil (gcons c d) h = cc
is_same_code-sound (gnum m) gnil h = cc
is_same_code-sound (gnum m) (gcons c d) h = cc
is_same_code-sound (gcons a b) gnil h = cc
is_same_code-sound (gcons a b) (gnum n) h = cc

-- the test is true of a value and itself
pub is_same-refl : {A : Type 0} (coded : Coded A) (x : A) → is_same coded x x ≡ true
is_same-refl coded x = is_same_code-refl (coded.code x)

-- the test is true only of equal values
pub is_same-sound : {A : Type 0} (coded : Coded A) (x y : A) → is_same coded x y ≡ true → x ≡ y
is_same-sound coded x y h = coded.inj x y (is_same_code-sound (coded.code x) (coded.code y) h)

decided-by : {A : Type 0} (coded : Coded A) (x y : A) (r b : Bool) → is_same coded x y ≡ b → (IsTrue r ↔ (x ≡ y)) → r ≡ b
decided-by coded x y true true e h = refl
decided-by coded x y false false e h = refl
decided-by coded x y true false e h =
    let same : is_same coded x y ≡ true = ap (is_same coded x) (sym (h.0 refl)) ∙ is_same-refl coded x in
    cc
decided-by coded x y false true e h = h.1 (is_same-sound coded x y e)

-- a test that decides equality is this test
pub is_same-decided : {A : Type 0} (coded : Coded A) (x y : A) (r : Bool) → (IsTrue r ↔ (x ≡ y)) → r ≡ is_same coded x y
is_same-decided coded x y r h = decided-by coded x y r (is_same coded x y) refl h
