-- Each character of a string is taken, however it is spelled.
use Rattle.std.proofs.Common.{◌≡◌, ℕ, ◌+◌, ◌-◌, ◌/◌, ◌≤◌, ◌<◌, Bool, true, false, not, ◌&&◌, cond, eqb, leb, ltb, List, [], ◌∷◌, ◌++◌, Some, None, Result, Ok, Err, refl, ap, sym, ◌∙◌, subst, inl, inr, ⊎_elim, arith, append_assoc}
use Rattle.std.proofs.lemmas.Bool.{eqb-true, ltb-false, le-ltb, lt-ltb, le-leb, ne_eqb, and_parts, cases_lt}
use Rattle.std.proofs.lemmas.Bool.Decides.{nat_tests}
use lib.Utf8.{encode, encodes, scalar, scalars, scalar_cases, next}
use Rattle.tb_terms.specs.Texts.{escape_letter}
use Rattle.tb_read.specs.declared.quoted.Within.{Within}
use Rattle.tb_read.specs.declared.quoted.Within.TheVariants.{Between, Escaped, Going}
use Rattle.tb_read.specs.declared.quoted.Turn.{Turn}
use Rattle.tb_read.specs.declared.quoted.Turn.TheVariants.{Goes, Puts, Bad}
use Rattle.tb_read.specs.declared.fault.TermFault.{TermFault}
use Rattle.tb_read.specs.Spelling.{is_plain, SpellsByte, SpellsBytes}
use Rattle.tb_read.specs.Lexing.{string_turn, between_turn, going_turn, escaped_turn, unescaped, lead, string_rest, with_prefix}
use Rattle.tb_read.proofs.Strings.{turned}

abbrev Pair : Type 0
Pair = List ℕ × List ℕ

-- the byte that a letter represents
byte_by : (c l : ℕ) (p q r s t : Bool) → eqb c 92 ≡ p → eqb c 34 ≡ q → eqb c 10 ≡ r → eqb c 13 ≡ s → eqb c 9 ≡ t → cond p (Some 92) (cond q (Some 34) (cond r (Some 110) (cond s (Some 114) (cond t (Some 116) None)))) ≡ Some l → unescaped l ≡ Some c
byte_by c l true q r s t ep eq er es et e = let ls : 92 ≡ l = cc in subst (λ n. unescaped n ≡ Some c) ls (ap Some (sym (eqb-true c 92 ep)))
byte_by c l false true r s t ep eq er es et e = let ls : 34 ≡ l = cc in subst (λ n. unescaped n ≡ Some c) ls (ap Some (sym (eqb-true c 34 eq)))
byte_by c l false false true s t ep eq er es et e = let ls : 110 ≡ l = cc in subst (λ n. unescaped n ≡ Some c) ls (ap Some (sym (eqb-true c 10 er)))
byte_by c l false false false true t ep eq er es et e = let ls : 114 ≡ l = cc in subst (λ n. unescaped n ≡ Some c) ls (ap Some (sym (eqb-true c 13 es)))
byte_by c l false false false false true ep eq er es et e = let ls : 116 ≡ l = cc in subst (λ n. unescaped n ≡ Some c) ls (ap Some (sym (eqb-true c 9 et)))
byte_by c l false false false false false ep eq er es et e = cc

byte_of : (c l : ℕ) → escape_letter c ≡ Some l → unescaped l ≡ Some c
byte_of c l e = byte_by c l (eqb c 92) (eqb c 34) (eqb c 10) (eqb c 13) (eqb c 9) refl refl refl refl refl e

no_letter : (c : ℕ) → 128 ≤ c → escape_letter c ≡ None
no_letter c h =
    let a : eqb c 92 ≡ false = ne_eqb c 92 (λ e. absurd (omega arith)) in
    let b : eqb c 34 ≡ false = ne_eqb c 34 (λ e. absurd (omega arith)) in
    let d : eqb c 10 ≡ false = ne_eqb c 10 (λ e. absurd (omega arith)) in
    let f : eqb c 13 ≡ false = ne_eqb c 13 (λ e. absurd (omega arith)) in
    let g : eqb c 9 ≡ false = ne_eqb c 9 (λ e. absurd (omega arith)) in
    rw (a, b, d, f, g) refl

-- a byte above ASCII represents itself
raw_by : (b : ℕ) → 128 ≤ b → (s inner prefix rest : List ℕ) → inner ≡ prefix ++ rest → SpellsByte b prefix → SpellsBytes s rest → (more : List ℕ) × (inner ≡ b ∷ more) × SpellsBytes s more
raw_by b h s inner prefix rest e (inl p) m = (rest, e ∙ ap (λ l. l ++ rest) p.1, m)
raw_by b h s inner prefix rest e (inr p) m = let no : None ≡ Some p.0 = sym (no_letter b h) ∙ p.1 in cc

raw : (b : ℕ) → 128 ≤ b → (s inner : List ℕ) → SpellsBytes (b ∷ s) inner → (more : List ℕ) × (inner ≡ b ∷ more) × SpellsBytes s more
raw b h s inner p = raw_by b h s inner p.0 p.1 p.2 p.3 p.4

pub puts : (total : ℕ) (w next : Within) (b c : ℕ) (l : List ℕ) → string_turn w b ≡ Puts c next → string_rest total w (b ∷ l) ≡ with_prefix (c ∷ []) (string_rest total next l)
puts total w next b c l e = ap (λ t. turned total t l) e

pub goes : (total : ℕ) (w next : Within) (b : ℕ) (l : List ℕ) → string_turn w b ≡ Goes next → string_rest total w (b ∷ l) ≡ string_rest total next l
goes total w next b l e = ap (λ t. turned total t l) e

abbrev paired : List ℕ → List ℕ → Result Pair TermFault
paired prefix rest = Ok (prefix, rest)

prefixes : (f g : List ℕ) (r : Result Pair TermFault) → with_prefix f (with_prefix g r) ≡ with_prefix (f ++ g) r
prefixes f g (Ok x) = ap (λ (l : List ℕ). paired l x.1) (sym (append_assoc f g x.0))
prefixes f g (Err e) = refl

-- the turn of a first byte above ASCII is its lead
above : (b : ℕ) → 128 ≤ b → between_turn b ≡ lead b
above b h =
    let p : eqb b 34 ≡ false = ne_eqb b 34 (λ e. absurd (omega arith)) in
    let q : eqb b 92 ≡ false = ne_eqb b 92 (λ e. absurd (omega arith)) in
    let r : ltb b 32 ≡ false = le-ltb b 32 (omega arith) in
    rw (p, q, r) refl

lead_two : (b : ℕ) → 194 ≤ b → b < 224 → lead b ≡ Puts b (Going 1 128 191)
lead_two b l u =
    let p : ltb b 128 ≡ false = le-ltb b 128 (omega arith) in
    let q : ltb b 194 ≡ false = le-ltb b 194 l in
    let r : ltb b 224 ≡ true = lt-ltb b 224 u in
    rw (p, q, r) refl

-- the range of the second of three bytes, and of four
abbrev second_three : ℕ → Within
second_three b = cond (eqb b 224) (Going 2 160 191) (cond (eqb b 237) (Going 2 128 159) (Going 2 128 191))

abbrev second_four : ℕ → Within
second_four b = cond (eqb b 240) (Going 3 144 191) (cond (ltb b 244) (Going 3 128 191) (Going 3 128 143))

three_by : (b : ℕ) (p q : Bool) (rest : Turn) → cond p (Puts b (Going 2 160 191)) (cond q (Puts b (Going 2 128 159)) (cond true (Puts b (Going 2 128 191)) rest)) ≡ Puts b (cond p (Going 2 160 191) (cond q (Going 2 128 159) (Going 2 128 191)))
three_by b true q rest = refl
three_by b false true rest = refl
three_by b false false rest = refl

lead_three : (b : ℕ) → 224 ≤ b → b < 240 → lead b ≡ Puts b (second_three b)
lead_three b l u =
    let p : ltb b 128 ≡ false = le-ltb b 128 (omega arith) in
    let q : ltb b 194 ≡ false = le-ltb b 194 (omega arith) in
    let r : ltb b 224 ≡ false = le-ltb b 224 l in
    let s : ltb b 240 ≡ true = lt-ltb b 240 u in
    rw (p, q, r, s) (three_by b (eqb b 224) (eqb b 237) (cond (eqb b 240) (Puts b (Going 3 144 191)) (cond (ltb b 244) (Puts b (Going 3 128 191)) (cond (eqb b 244) (Puts b (Going 3 128 143)) Bad))))

four_by : (b : ℕ) (p q r : Bool) → (q ≡ false → r ≡ true) → cond p (Puts b (Going 3 144 191)) (cond q (Puts b (Going 3 128 191)) (cond r (Puts b (Going 3 128 143)) Bad)) ≡ Puts b (cond p (Going 3 144 191) (cond q (Going 3 128 191) (Going 3 128 143)))
four_by b true q r h = refl
four_by b false true r h = refl
four_by b false false r h = ap (λ v. cond v (Puts b (Going 3 128 143)) Bad) (h refl)

lead_four : (b : ℕ) → 240 ≤ b → b ≤ 244 → lead b ≡ Puts b (second_four b)
lead_four b l u =
    let p : ltb b 128 ≡ false = le-ltb b 128 (omega arith) in
    let q : ltb b 194 ≡ false = le-ltb b 194 (omega arith) in
    let r : ltb b 224 ≡ false = le-ltb b 224 (omega arith) in
    let s : eqb b 224 ≡ false = ne_eqb b 224 (λ e. absurd (omega arith)) in
    let t : eqb b 237 ≡ false = ne_eqb b 237 (λ e. absurd (omega arith)) in
    let v : ltb b 240 ≡ false = le-ltb b 240 l in
    rw (p, q, r, s, t, v) (four_by b (eqb b 240) (ltb b 244) (eqb b 244) (λ n. last b u n)) where
      last : (b : ℕ) → b ≤ 244 → ltb b 244 ≡ false → eqb b 244 ≡ true
      last b u n = grind (arith, nat_tests)

going : (more low high b : ℕ) → low ≤ b → b ≤ high → going_turn more low high b ≡ Puts b (cond (ltb more 2) Between (Going (more - 1) 128 191))
going more low high b l u =
    let p : leb low b ≡ true = le-leb low b l in
    let q : leb b high ≡ true = le-leb b high u in
    rw (p, q) refl

-- a further byte in the widest range
further_two : (b : ℕ) → 128 ≤ b → b < 192 → string_turn (Going 1 128 191) b ≡ Puts b Between
further_two b l u = going 1 128 191 b l (omega arith)

further_three : (b : ℕ) → 128 ≤ b → b < 192 → string_turn (Going 2 128 191) b ≡ Puts b (Going 1 128 191)
further_three b l u = going 2 128 191 b l (omega arith)

-- the second byte of three
three_turn : (x y : ℕ) → 128 ≤ y → y < 192 → (x ≡ 224 → 160 ≤ y) → (x ≡ 237 → y < 160) → string_turn (second_three x) y ≡ Puts y (Going 1 128 191)
three_turn x y l u low high = by (eqb x 224) (eqb x 237) (λ e. low (eqb-true x 224 e)) (λ e. high (eqb-true x 237 e)) where
  by : (p q : Bool) → (p ≡ true → 160 ≤ y) → (q ≡ true → y < 160) → string_turn (cond p (Going 2 160 191) (cond q (Going 2 128 159) (Going 2 128 191))) y ≡ Puts y (Going 1 128 191)
  by true q a b = going 2 160 191 y (a refl) (omega arith)
  by false true a b = let below : y < 160 = b refl in going 2 128 159 y l (omega arith)
  by false false a b = going 2 128 191 y l (omega arith)

-- the second byte of four
four_turn : (x y : ℕ) → 128 ≤ y → y < 192 → (x ≡ 240 → 144 ≤ y) → (244 ≤ x → y < 144) → string_turn (second_four x) y ≡ Puts y (Going 2 128 191)
four_turn x y l u low high = by (eqb x 240) (ltb x 244) (λ e. low (eqb-true x 240 e)) (λ e. high (ltb-false x 244 e)) where
  by : (p q : Bool) → (p ≡ true → 144 ≤ y) → (q ≡ false → y < 144) → string_turn (cond p (Going 3 144 191) (cond q (Going 3 128 191) (Going 3 128 143))) y ≡ Puts y (Going 2 128 191)
  by true q a b = going 3 144 191 y (a refl) (omega arith)
  by false true a b = going 3 128 191 y l (omega arith)
  by false false a b = let below : y < 144 = b refl in going 3 128 143 y l (omega arith)

-- the bytes of a character
pub encode_two : (c : ℕ) → 128 ≤ c → c < 2048 → encode c ≡ (192 + c / 64) ∷ next c ∷ []
unfolding encode
encode_two c l u = rw (le-ltb c 128 l, lt-ltb c 2048 u) refl

pub encode_three : (c : ℕ) → 2048 ≤ c → c < 65536 → encode c ≡ (224 + c / 4096) ∷ next (c / 64) ∷ next c ∷ []
unfolding encode
encode_three c l u = let h : 128 ≤ c = omega arith in rw (le-ltb c 128 h, le-ltb c 2048 l, lt-ltb c 65536 u) refl

pub encode_four : (c : ℕ) → 65536 ≤ c → encode c ≡ (240 + c / 262144) ∷ next (c / 4096) ∷ next (c / 64) ∷ next c ∷ []
unfolding encode
encode_four c l = let h : 128 ≤ c = omega arith in let k : 2048 ≤ c = omega arith in rw (le-ltb c 128 h, le-ltb c 2048 k, le-ltb c 65536 l) refl

encode_one : (c : ℕ) → c < 128 → encode c ≡ c ∷ []
unfolding encode
encode_one c u = rw (lt-ltb c 128 u) refl

next_bounds : (n : ℕ) → (128 ≤ next n) × (next n < 192)
next_bounds n = (omega arith, omega arith)

-- The text begins with a spelling of these bytes, and the scan of a string takes them before the rest.
abbrev Taken : List ℕ → List ℕ → List ℕ → Type 0
Taken bytes s inner = (more : List ℕ) × SpellsBytes s more × ((total : ℕ) (l : List ℕ) → string_rest total Between (inner ++ l) ≡ with_prefix bytes (string_rest total Between (more ++ l)))

taken_two : (x y : ℕ) → 194 ≤ x → x < 224 → 128 ≤ y → y < 192 → (s inner : List ℕ) → SpellsBytes (x ∷ y ∷ s) inner → Taken (x ∷ y ∷ []) s inner
taken_two x y lx ux ly uy s inner p =
    let h : 128 ≤ x = omega arith in
    let a = raw x h (y ∷ s) inner p in
    let b = raw y ly s a.0 a.2 in
    let is : inner ≡ x ∷ y ∷ b.0 = a.1 ∙ ap (λ l. x ∷ l) b.1 in (
      b.0,
      b.2,
      λ total l.
          ap (λ m. string_rest total Between (m ++ l)) is
          ∙ puts total Between (Going 1 128 191) x x (y ∷ b.0 ++ l) (above x h ∙ lead_two x lx ux)
          ∙ ap (with_prefix (x ∷ [])) (puts total (Going 1 128 191) Between y y (b.0 ++ l) (further_two y ly uy))
          ∙ prefixes (x ∷ []) (y ∷ []) (string_rest total Between (b.0 ++ l)),
    )

taken_three : (x y z : ℕ) → 224 ≤ x → x < 240 → 128 ≤ y → y < 192 → (x ≡ 224 → 160 ≤ y) → (x ≡ 237 → y < 160) → 128 ≤ z → z < 192 → (s inner : List ℕ) → SpellsBytes (x ∷ y ∷ z ∷ s) inner → Taken (x ∷ y ∷ z ∷ []) s inner
taken_three x y z lx ux ly uy low high lz uz s inner p =
    let h : 128 ≤ x = omega arith in
    let a = raw x h (y ∷ z ∷ s) inner p in
    let b = raw y ly (z ∷ s) a.0 a.2 in
    let c = raw z lz s b.0 b.2 in
    let is : inner ≡ x ∷ y ∷ z ∷ c.0 = a.1 ∙ ap (λ l. x ∷ l) (b.1 ∙ ap (λ l. y ∷ l) c.1) in (
      c.0,
      c.2,
      λ total l.
          ap (λ m. string_rest total Between (m ++ l)) is
          ∙ puts total Between (second_three x) x x (y ∷ z ∷ c.0 ++ l) (above x h ∙ lead_three x lx ux)
          ∙ ap (with_prefix (x ∷ [])) (puts total (second_three x) (Going 1 128 191) y y (z ∷ c.0 ++ l) (three_turn x y ly uy low high)
          ∙ ap (with_prefix (y ∷ [])) (puts total (Going 1 128 191) Between z z (c.0 ++ l) (further_two z lz uz))
          ∙ prefixes (y ∷ []) (z ∷ []) (string_rest total Between (c.0 ++ l)))
          ∙ prefixes (x ∷ []) (y ∷ z ∷ []) (string_rest total Between (c.0 ++ l)),
    )

taken_four : (x y z w : ℕ) → 240 ≤ x → x ≤ 244 → 128 ≤ y → y < 192 → (x ≡ 240 → 144 ≤ y) → (244 ≤ x → y < 144) → 128 ≤ z → z < 192 → 128 ≤ w → w < 192 → (s inner : List ℕ) → SpellsBytes (x ∷ y ∷ z ∷ w ∷ s) inner → Taken (x ∷ y ∷ z ∷ w ∷ []) s inner
taken_four x y z w lx ux ly uy low high lz uz lw uw s inner p =
    let h : 128 ≤ x = omega arith in
    let a = raw x h (y ∷ z ∷ w ∷ s) inner p in
    let b = raw y ly (z ∷ w ∷ s) a.0 a.2 in
    let c = raw z lz (w ∷ s) b.0 b.2 in
    let d = raw w lw s c.0 c.2 in
    let is : inner ≡ x ∷ y ∷ z ∷ w ∷ d.0 = a.1 ∙ ap (λ l. x ∷ l) (b.1 ∙ ap (λ l. y ∷ l) (c.1 ∙ ap (λ l. z ∷ l) d.1)) in (
      d.0,
      d.2,
      λ total l.
          ap (λ m. string_rest total Between (m ++ l)) is
          ∙ puts total Between (second_four x) x x (y ∷ z ∷ w ∷ d.0 ++ l) (above x h ∙ lead_four x lx ux)
          ∙ ap (with_prefix (x ∷ [])) (puts total (second_four x) (Going 2 128 191) y y (z ∷ w ∷ d.0 ++ l) (four_turn x y ly uy low high)
          ∙ ap (with_prefix (y ∷ [])) (puts total (Going 2 128 191) (Going 1 128 191) z z (w ∷ d.0 ++ l) (further_three z lz uz)
          ∙ ap (with_prefix (z ∷ [])) (puts total (Going 1 128 191) Between w w (d.0 ++ l) (further_two w lw uw))
          ∙ prefixes (z ∷ []) (w ∷ []) (string_rest total Between (d.0 ++ l)))
          ∙ prefixes (y ∷ []) (z ∷ w ∷ []) (string_rest total Between (d.0 ++ l)))
          ∙ prefixes (x ∷ []) (y ∷ z ∷ w ∷ []) (string_rest total Between (d.0 ++ l)),
    )

-- an ASCII byte that represents itself
plain_turn : (c : ℕ) → c < 128 → is_plain c ≡ true → between_turn c ≡ Puts c Between
plain_turn c u h =
    let p : eqb c 34 ≡ false = quote c h in
    let q : eqb c 92 ≡ false = backslash c h in
    let r : (ltb c 32 && not (eqb c 9)) ≡ false = control c h in
    rw (p, q, r, lt-ltb c 128 u) refl where
      quote : (c : ℕ) → is_plain c ≡ true → eqb c 34 ≡ false
      quote c h = grind (arith, nat_tests)

      backslash : (c : ℕ) → is_plain c ≡ true → eqb c 92 ≡ false
      backslash c h = grind (arith, nat_tests)

      control : (c : ℕ) → is_plain c ≡ true → (ltb c 32 && not (eqb c 9)) ≡ false
      control c h = grind (arith, nat_tests)

taken_one : (c : ℕ) → c < 128 → (s inner prefix rest : List ℕ) → inner ≡ prefix ++ rest → SpellsByte c prefix → SpellsBytes s rest → Taken (c ∷ []) s inner
taken_one c u s inner prefix rest e (inl p) m =
    let is : inner ≡ c ∷ rest = e ∙ ap (λ l. l ++ rest) p.1 in (
      rest,
      m,
      λ total l.
          ap (λ k. string_rest total Between (k ++ l)) is
          ∙ puts total Between Between c c (rest ++ l) (plain_turn c u p.0),
    )
taken_one c u s inner prefix rest e (inr p) m =
    let is : inner ≡ 92 ∷ p.0 ∷ rest = e ∙ ap (λ l. l ++ rest) p.2 in (
      rest,
      m,
      λ total l.
          ap (λ k. string_rest total Between (k ++ l)) is
          ∙ goes total Between Escaped 92 (p.0 ∷ rest ++ l) refl
          ∙ puts total Escaped Between p.0 c (rest ++ l) (ap escaped_turn (byte_of c p.0 p.1)),
    )

low_three : (c : ℕ) → 2048 ≤ c → c < 65536 → 224 + c / 4096 ≡ 224 → 160 ≤ next (c / 64)
low_three c l u e = omega arith

high_three : (c : ℕ) → scalar c ≡ true → 2048 ≤ c → c < 65536 → 224 + c / 4096 ≡ 237 → next (c / 64) < 160
high_three c h l u e = ⊎_elim (λ v. below c v e) (λ v. absurd (omega arith)) (scalar_cases c h) where
  below : (c : ℕ) → c < 55296 → 224 + c / 4096 ≡ 237 → next (c / 64) < 160
  below c v e = omega arith

low_four : (c : ℕ) → 65536 ≤ c → c < 1114112 → 240 + c / 262144 ≡ 240 → 144 ≤ next (c / 4096)
low_four c l u e = omega arith

high_four : (c : ℕ) → 65536 ≤ c → c < 1114112 → 244 ≤ 240 + c / 262144 → next (c / 4096) < 144
high_four c l u e = omega arith

-- the bytes of a scalar value are in the ranges
taken_char : (c : ℕ) → scalar c ≡ true → (s inner : List ℕ) → SpellsBytes (encode c ++ s) inner → Taken (encode c) s inner
taken_char c h s inner p = ⊎_elim one (λ l. ⊎_elim (two l) (λ l. ⊎_elim (three l) four (cases_lt c 65536)) (cases_lt c 2048)) (cases_lt c 128) where
  one : c < 128 → Taken (encode c) s inner
  one u =
      let e = encode_one c u in
      let q : SpellsBytes (c ∷ s) inner = subst (λ l. SpellsBytes (l ++ s) inner) e p in
      subst (λ l. Taken l s inner) (sym e) (taken_one c u s inner q.0 q.1 q.2 q.3 q.4)

  two : 128 ≤ c → c < 2048 → Taken (encode c) s inner
  two l u =
      let e = encode_two c l u in
      let q : SpellsBytes ((192 + c / 64) ∷ next c ∷ s) inner = subst (λ m. SpellsBytes (m ++ s) inner) e p in
      subst (λ m. Taken m s inner) (sym e) (taken_two (192 + c / 64) (next c) (omega arith) (omega arith) (next_bounds c).0 (next_bounds c).1 s inner q)

  three : 2048 ≤ c → c < 65536 → Taken (encode c) s inner
  three l u =
      let e = encode_three c l u in
      let q : SpellsBytes ((224 + c / 4096) ∷ next (c / 64) ∷ next c ∷ s) inner = subst (λ m. SpellsBytes (m ++ s) inner) e p in
      subst (λ m. Taken m s inner) (sym e)
      (taken_three (224 + c / 4096) (next (c / 64)) (next c) (omega arith) (omega arith) (next_bounds (c / 64)).0 (next_bounds (c / 64)).1
      (low_three c l u) (high_three c h l u) (next_bounds c).0 (next_bounds c).1 s inner q)

  four : 65536 ≤ c → Taken (encode c) s inner
  four l =
      let e = encode_four c l in
      let most : c < 1114112 = ⊎_elim (λ v. omega arith) (λ v. v.1) (scalar_cases c h) in
      let q : SpellsBytes ((240 + c / 262144) ∷ next (c / 4096) ∷ next (c / 64) ∷ next c ∷ s) inner = subst (λ m. SpellsBytes (m ++ s) inner) e p in
      subst (λ m. Taken m s inner) (sym e)
      (taken_four (240 + c / 262144) (next (c / 4096)) (next (c / 64)) (next c) (omega arith) (omega arith) (next_bounds (c / 4096)).0 (next_bounds (c / 4096)).1
      (low_four c l most) (high_four c l most) (next_bounds (c / 64)).0 (next_bounds (c / 64)).1 (next_bounds c).0 (next_bounds c).1 s inner q)

-- a string of scalar values, up to its closing quote
pub string_taken : (cs : List ℕ) → scalars cs ≡ true → (inner : List ℕ) → SpellsBytes (encodes cs) inner → (total : ℕ) (rest : List ℕ) → string_rest total Between (inner ++ (34 ∷ rest)) ≡ Ok (encodes cs, rest)
string_taken [] h inner p total rest = ap (λ l. string_rest total Between (l ++ (34 ∷ rest))) p
string_taken (c ∷ cs) h inner p total rest =
    let valid = and_parts (scalar c) (scalars cs) h in
    let t = taken_char c valid.0 (encodes cs) inner p in
    t.2 total (34 ∷ rest) ∙ ap (with_prefix (encode c)) (string_taken cs valid.1 t.0 t.1 total rest)
