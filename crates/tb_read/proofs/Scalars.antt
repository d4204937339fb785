-- The bytes that a scanned string adds are a string.
use Rattle.std.proofs.Common.{◌≡◌, ℕ, ◌+◌, ◌-◌, ◌*◌, ◌/◌, ◌≤◌, ◌<◌, Bool, true, false, not, ◌&&◌, ◌⊎◌, cond, eqb, leb, ltb, List, [], ◌∷◌, ◌++◌, Option, Some, None, Ok, refl, ap, sym, ◌∙◌, subst, inl, inr, ⊎_elim, lit≤, arith, append_assoc}
use Rattle.std.proofs.lemmas.Bool.{eqb-true, eqb-false, ltb-true, ltb-false, leb-true, and_parts, and_from, cases_eq, cases_lt}
use Rattle.std.proofs.lemmas.Bool.Decides.{nat_tests}
use Rattle.std.proofs.lemmas.Str.{IsUtf8-append, IsUtf8-encode, IsUtf8-nil, is_utf8-from_IsUtf8, encode_ascii}
use Rattle.std.specs.Str.{IsUtf8, is_utf8}
use lib.Utf8.{encode, scalar, low_scalar, next}
use Rattle.tb_terms.specs.Names.{is_string, is_text, is_text_byte}
use Rattle.tb_read.specs.declared.quoted.Within.{Within}
use Rattle.tb_read.specs.declared.quoted.Within.TheVariants.{Between, Escaped, Going}
use Rattle.tb_read.specs.declared.quoted.Turn.{Turn}
use Rattle.tb_read.specs.declared.quoted.Turn.TheVariants.{Ends, Goes, Puts, Bad}
use Rattle.tb_read.specs.Lexing.{between_turn, going_turn, escaped_turn, unescaped, lead, string_rest}
use Rattle.tb_read.specs.Spelling.{is_plain, SpellsByte, SpellsBytes}
use Rattle.tb_read.proofs.Strings.{turned, prefix_ok, string_sound}
use Rattle.tb_read.proofs.Chars.{encode_two, encode_three, encode_four}

abbrev Pair : Type 0
Pair = List ℕ × List ℕ

high_scalar : (c : ℕ) → 57344 ≤ c → c < 1114112 → scalar c ≡ true
high_scalar c l u = grind (arith, nat_tests)

two_utf8 : (x y : ℕ) → 194 ≤ x → x < 224 → 128 ≤ y → y ≤ 191 → IsUtf8 (x ∷ y ∷ [])
two_utf8 x y lx ux ly uy =
    let c = 64 * (x - 192) + (y - 128) in
    let l : 128 ≤ c = omega arith in
    let u : c < 2048 = omega arith in
    let a : 192 + c / 64 ≡ x = omega arith in
    let b : next c ≡ y = omega arith in
    let e : encode c ≡ x ∷ y ∷ [] = encode_two c l u ∙ ap (λ n. n ∷ next c ∷ []) a ∙ ap (λ n. x ∷ n ∷ []) b in
    subst IsUtf8 e (IsUtf8-encode c (low_scalar c (omega arith)))

three_utf8 : (x y z : ℕ) → 224 ≤ x → x < 240 → 128 ≤ y → y ≤ 191 → (x ≡ 224 → 160 ≤ y) → (x ≡ 237 → y < 160) → 128 ≤ z → z ≤ 191 → IsUtf8 (x ∷ y ∷ z ∷ [])
three_utf8 x y z lx ux ly uy low high lz uz =
    let c = 4096 * (x - 224) + (64 * (y - 128) + (z - 128)) in
    let l : 2048 ≤ c = ⊎_elim (λ e. let h : 160 ≤ y = low e in omega arith) (λ n. omega arith) (cases_eq x 224) in
    let u : c < 65536 = omega arith in
    let a : 224 + c / 4096 ≡ x = omega arith in
    let q : c / 64 ≡ 64 * (x - 224) + (y - 128) = omega arith in
    let b : next (c / 64) ≡ y = rw q (omega arith) in
    let d : next c ≡ z = omega arith in
    let e : encode c ≡ x ∷ y ∷ z ∷ [] = encode_three c l u ∙ ap (λ n. n ∷ next (c / 64) ∷ next c ∷ []) a ∙ ap (λ n. x ∷ n ∷ next c ∷ []) b ∙ ap (λ n. x ∷ y ∷ n ∷ []) d in
    let s : scalar c ≡ true = ⊎_elim (λ v. low_scalar c (omega arith)) (λ v. ⊎_elim (λ e. let h : y < 160 = high e in low_scalar c (omega arith)) (λ n. high_scalar c (omega arith) (omega arith)) (cases_eq x 237)) (cases_lt x 237) in
    subst IsUtf8 e (IsUtf8-encode c s)

four_utf8 : (x y z w : ℕ) → 240 ≤ x → x ≤ 244 → 128 ≤ y → y ≤ 191 → (x ≡ 240 → 144 ≤ y) → (244 ≤ x → y < 144) → 128 ≤ z → z ≤ 191 → 128 ≤ w → w ≤ 191 → IsUtf8 (x ∷ y ∷ z ∷ w ∷ [])
four_utf8 x y z w lx ux ly uy low high lz uz lw uw =
    let c = 262144 * (x - 240) + (4096 * (y - 128) + (64 * (z - 128) + (w - 128))) in
    let l : 65536 ≤ c = ⊎_elim (λ e. let h : 144 ≤ y = low e in omega arith) (λ n. omega arith) (cases_eq x 240) in
    let u : c < 1114112 = ⊎_elim (λ v. omega arith) (λ v. let h : y < 144 = high v in omega arith) (cases_lt x 244) in
    let a : 240 + c / 262144 ≡ x = omega arith in
    let p : c / 4096 ≡ 64 * (x - 240) + (y - 128) = omega arith in
    let q : c / 64 ≡ 4096 * (x - 240) + (64 * (y - 128) + (z - 128)) = omega arith in
    let b : next (c / 4096) ≡ y = rw p (omega arith) in
    let d : next (c / 64) ≡ z = rw q (omega arith) in
    let f : next c ≡ w = omega arith in
    let e : encode c ≡ x ∷ y ∷ z ∷ w ∷ [] = encode_four c l ∙ ap (λ n. n ∷ next (c / 4096) ∷ next (c / 64) ∷ next c ∷ []) a ∙ ap (λ n. x ∷ n ∷ next (c / 64) ∷ next c ∷ []) b ∙ ap (λ n. x ∷ y ∷ n ∷ next c ∷ []) d ∙ ap (λ n. x ∷ y ∷ z ∷ n ∷ []) f in
    subst IsUtf8 e (IsUtf8-encode c (high_scalar c (omega arith) u))

-- the bytes so far of a character, which any byte of the range completes, or brings to its last bytes
abbrev OneMore : ℕ → ℕ → List ℕ → Type 0
OneMore low high p = (b : ℕ) → low ≤ b → b ≤ high → IsUtf8 (p ++ (b ∷ []))

abbrev TwoMore : ℕ → ℕ → List ℕ → Type 0
TwoMore low high p = (b : ℕ) → low ≤ b → b ≤ high → OneMore 128 191 (p ++ (b ∷ []))

abbrev ThreeMore : ℕ → ℕ → List ℕ → Type 0
ThreeMore low high p = (b : ℕ) → low ≤ b → b ≤ high → TwoMore 128 191 (p ++ (b ∷ []))

-- the bytes of a character so far, in this state
abbrev Partial : Within → List ℕ → Type 0
Partial Between p = p ≡ []
Partial Escaped p = p ≡ []
Partial (Going more low high) p = (128 ≤ low) × (((more ≡ 1) × OneMore low high p) ⊎ (((more ≡ 2) × TwoMore low high p) ⊎ ((more ≡ 3) × ThreeMore low high p)))

-- the effect of a byte after whole characters
abbrev Begins : ℕ → Turn → Type 0
Begins b Ends = Unit {0}
Begins b (Goes next) = next ≡ Escaped
Begins b (Puts c next) = (c ≡ b) × (((next ≡ Between) × (b < 128)) ⊎ ((128 ≤ b) × Partial next (b ∷ [])))
Begins b Bad = Unit {0}

lead_begins : (b : ℕ) (p q r s t u v w x : Bool) → ltb b 128 ≡ p → ltb b 194 ≡ q → ltb b 224 ≡ r → eqb b 224 ≡ s → eqb b 237 ≡ t → ltb b 240 ≡ u → eqb b 240 ≡ v → ltb b 244 ≡ w → eqb b 244 ≡ x → Begins b (cond p (Puts b Between) (cond q Bad (cond r (Puts b (Going 1 128 191)) (cond s (Puts b (Going 2 160 191)) (cond t (Puts b (Going 2 128 159)) (cond u (Puts b (Going 2 128 191)) (cond v (Puts b (Going 3 144 191)) (cond w (Puts b (Going 3 128 191)) (cond x (Puts b (Going 3 128 143)) Bad)))))))))
lead_begins b true q r s t u v w x ep eq er es et eu ev ew ex = (refl, inl (refl, ltb-true b 128 ep))
lead_begins b false true r s t u v w x ep eq er es et eu ev ew ex = tt
lead_begins b false false true s t u v w x ep eq er es et eu ev ew ex =
    let l : 194 ≤ b = ltb-false b 194 eq in
    let h : b < 224 = ltb-true b 224 er in
    (refl, inr (omega arith, (lit≤ tt, inl (refl, λ y ly uy. two_utf8 b y l h ly uy))))
lead_begins b false false false true t u v w x ep eq er es et eu ev ew ex =
    let e : b ≡ 224 = eqb-true b 224 es in
    (refl, inr (omega arith, (lit≤ tt, inr (inl (refl, λ y ly uy z lz uz. three_utf8 b y z (omega arith) (omega arith) (omega arith) uy (λ _. ly) (λ f. absurd (omega arith)) lz uz)))))
lead_begins b false false false false true u v w x ep eq er es et eu ev ew ex =
    let e : b ≡ 237 = eqb-true b 237 et in
    (refl, inr (omega arith, (lit≤ tt, inr (inl (refl, λ y ly uy z lz uz. three_utf8 b y z (omega arith) (omega arith) ly (omega arith) (λ f. absurd (omega arith)) (λ _. omega arith) lz uz)))))
lead_begins b false false false false false true v w x ep eq er es et eu ev ew ex =
    let l : 224 ≤ b = ltb-false b 224 er in
    let h : b < 240 = ltb-true b 240 eu in
    (refl, inr (omega arith, (lit≤ tt, inr (inl (refl, λ y ly uy z lz uz. three_utf8 b y z l h ly uy (λ f. absurd (eqb-false b 224 es f)) (λ f. absurd (eqb-false b 237 et f)) lz uz)))))
lead_begins b false false false false false false true w x ep eq er es et eu ev ew ex =
    let e : b ≡ 240 = eqb-true b 240 ev in
    (refl, inr (omega arith, (lit≤ tt, inr (inr (refl, λ y ly uy z lz uz w lw uw. four_utf8 b y z w (omega arith) (omega arith) (omega arith) uy (λ _. ly) (λ f. absurd (omega arith)) lz uz lw uw)))))
lead_begins b false false false false false false false true x ep eq er es et eu ev ew ex =
    let l : 240 ≤ b = ltb-false b 240 eu in
    let h : b < 244 = ltb-true b 244 ew in
    (refl, inr (omega arith, (lit≤ tt, inr (inr (refl, λ y ly uy z lz uz w lw uw. four_utf8 b y z w l (omega arith) ly uy (λ f. absurd (eqb-false b 240 ev f)) (λ f. absurd (omega arith)) lz uz lw uw)))))
lead_begins b false false false false false false false false true ep eq er es et eu ev ew ex =
    let e : b ≡ 244 = eqb-true b 244 ex in
    (refl, inr (omega arith, (lit≤ tt, inr (inr (refl, λ y ly uy z lz uz w lw uw. four_utf8 b y z w (omega arith) (omega arith) ly (omega arith) (λ f. absurd (omega arith)) (λ _. omega arith) lz uz lw uw)))))
lead_begins b false false false false false false false false false ep eq er es et eu ev ew ex = tt

between_begins_by : (b : ℕ) (p q r : Bool) → Begins b (cond p Ends (cond q (Goes Escaped) (cond r Bad (lead b))))
between_begins_by b true q r = tt
between_begins_by b false true r = refl
between_begins_by b false false true = tt
between_begins_by b false false false =
    lead_begins b (ltb b 128) (ltb b 194) (ltb b 224) (eqb b 224) (eqb b 237) (ltb b 240) (eqb b 240) (ltb b 244) (eqb b 244) refl refl refl refl refl refl refl refl refl

between_begins : (b : ℕ) → Begins b (between_turn b)
between_begins b = between_begins_by b (eqb b 34) (eqb b 92) (ltb b 32 && not (eqb b 9))

ascii_utf8 : (b : ℕ) → b < 128 → IsUtf8 (b ∷ [])
ascii_utf8 b h = subst IsUtf8 (encode_ascii b h) (IsUtf8-encode b (low_scalar b (omega arith)))

-- an escape adds an ASCII byte
escape_ascii : (c l : ℕ) → unescaped l ≡ Some c → c < 128
escape_ascii c l e = by (eqb l 92) (eqb l 34) (eqb l 110) (eqb l 114) (eqb l 116) e where
  by : (p q r s t : Bool) → cond {A = Option ℕ} p (Some 92) (cond q (Some 34) (cond r (Some 10) (cond s (Some 13) (cond t (Some 9) None)))) ≡ Some c → c < 128
  by true q r s t e = let f : 92 ≡ c = cc in omega arith
  by false true r s t e = let f : 34 ≡ c = cc in omega arith
  by false false true s t e = let f : 10 ≡ c = cc in omega arith
  by false false false true t e = let f : 13 ≡ c = cc in omega arith
  by false false false false true e = let f : 9 ≡ c = cc in omega arith
  by false false false false false e = cc

-- after the bytes of a character so far, the added bytes complete whole characters
abbrev Whole : ℕ → List ℕ → Type 0
Whole total bytes = (w : Within) (p : List ℕ) → Partial w p → (x : Pair) → string_rest total w bytes ≡ Ok x → IsUtf8 (p ++ x.0)

same_put : (p put : List ℕ) (x y : Pair) → x.0 ≡ put ++ y.0 → IsUtf8 ((p ++ put) ++ y.0) → IsUtf8 (p ++ x.0)
same_put p put x y e u = subst IsUtf8 (append_assoc p put y.0 ∙ ap (λ (l : List ℕ). p ++ l) (sym e)) u

between_whole : (total b : ℕ) (bytes : List ℕ) → Whole total bytes → (t : Turn) → Begins b t → (x : Pair) → turned total t bytes ≡ Ok x → IsUtf8 x.0
between_whole total b bytes ih Ends f x e = let same : ◌≡◌ {A = Pair} ([], bytes) x = cc in subst (λ (q : Pair). IsUtf8 q.0) same IsUtf8-nil
between_whole total b bytes ih (Goes next) f x e = ih Escaped [] refl x (subst (λ w. string_rest total w bytes ≡ Ok x) f e)
between_whole total b bytes ih Bad f x e = cc
between_whole total b bytes ih (Puts c next) f x e = by f.1 where
  y : (z : Pair) × (string_rest total next bytes ≡ Ok z) × (x.0 ≡ (c ∷ []) ++ z.0) × (x.1 ≡ z.1)
  y = prefix_ok (c ∷ []) (string_rest total next bytes) x e

  by : (((next ≡ Between) × (b < 128)) ⊎ ((128 ≤ b) × Partial next (b ∷ []))) → IsUtf8 x.0
  by (inl g) =
      let rest : IsUtf8 ([] ++ y.0.0) = ih next [] (subst (λ w. Partial w []) (sym g.0) refl) y.0 y.1 in
      let c_ascii : c < 128 = subst (λ n. n < 128) (sym f.0) g.1 in
      subst IsUtf8 (sym y.2) (IsUtf8-append (c ∷ []) y.0.0 (ascii_utf8 c c_ascii) rest)
  by (inr g) =
      let rest : IsUtf8 ((b ∷ []) ++ y.0.0) = ih next (b ∷ []) g.1 y.0 y.1 in
      let same : b ∷ y.0.0 ≡ x.0 = ap (λ n. n ∷ y.0.0) (sym f.0) ∙ sym y.2 in
      subst IsUtf8 same rest

escaped_whole : (total b : ℕ) (bytes : List ℕ) → Whole total bytes → (o : Option ℕ) → unescaped b ≡ o → (x : Pair) → turned total (escaped_turn o) bytes ≡ Ok x → IsUtf8 x.0
escaped_whole total b bytes ih None u x e = cc
escaped_whole total b bytes ih (Some c) u x e =
    let y = prefix_ok (c ∷ []) (string_rest total Between bytes) x e in
    let rest : IsUtf8 ([] ++ y.0.0) = ih Between [] refl y.0 y.1 in
    subst IsUtf8 (sym y.2) (IsUtf8-append (c ∷ []) y.0.0 (ascii_utf8 c (escape_ascii c b u)) rest)

going_by : (total b : ℕ) (bytes : List ℕ) → Whole total bytes → (next : Within) (p : List ℕ) (v : Bool) → (v ≡ true → ((next ≡ Between) × IsUtf8 (p ++ (b ∷ []))) ⊎ Partial next (p ++ (b ∷ []))) → (x : Pair) → turned total (cond v (Puts b next) Bad) bytes ≡ Ok x → IsUtf8 (p ++ x.0)
going_by total b bytes ih next p false h x e = cc
going_by total b bytes ih next p true h x e = by (h refl) where
  y : (z : Pair) × (string_rest total next bytes ≡ Ok z) × (x.0 ≡ (b ∷ []) ++ z.0) × (x.1 ≡ z.1)
  y = prefix_ok (b ∷ []) (string_rest total next bytes) x e

  by : (((next ≡ Between) × IsUtf8 (p ++ (b ∷ []))) ⊎ Partial next (p ++ (b ∷ []))) → IsUtf8 (p ++ x.0)
  by (inl g) =
      let rest : IsUtf8 ([] ++ y.0.0) = ih next [] (subst (λ w. Partial w []) (sym g.0) refl) y.0 y.1 in
      same_put p (b ∷ []) x y.0 y.2 (IsUtf8-append (p ++ (b ∷ [])) y.0.0 g.1 rest)
  by (inr g) = same_put p (b ∷ []) x y.0 y.2 (ih next (p ++ (b ∷ [])) g y.0 y.1)

going_whole : (total b : ℕ) (bytes : List ℕ) → Whole total bytes → (more low high : ℕ) (p : List ℕ) → ((more ≡ 1) × OneMore low high p) ⊎ (((more ≡ 2) × TwoMore low high p) ⊎ ((more ≡ 3) × ThreeMore low high p)) → (x : Pair) → turned total (going_turn more low high b) bytes ≡ Ok x → IsUtf8 (p ++ x.0)
going_whole total b bytes ih more low high p (inl f) x e =
    going_by total b bytes ih Between p (leb low b && leb b high) (λ v. let q = and_parts (leb low b) (leb b high) v in inl (refl, f.1 b (leb-true low b q.0) (leb-true b high q.1))) x
    (subst (λ m. turned total (going_turn m low high b) bytes ≡ Ok x) f.0 e)
going_whole total b bytes ih more low high p (inr (inl f)) x e =
    going_by total b bytes ih (Going 1 128 191) p (leb low b && leb b high) (λ v. let q = and_parts (leb low b) (leb b high) v in inr (lit≤ tt, inl (refl, f.1 b (leb-true low b q.0) (leb-true b high q.1)))) x
    (subst (λ m. turned total (going_turn m low high b) bytes ≡ Ok x) f.0 e)
going_whole total b bytes ih more low high p (inr (inr f)) x e =
    going_by total b bytes ih (Going 2 128 191) p (leb low b && leb b high) (λ v. let q = and_parts (leb low b) (leb b high) v in inr (lit≤ tt, inr (inl (refl, f.1 b (leb-true low b q.0) (leb-true b high q.1))))) x
    (subst (λ m. turned total (going_turn m low high b) bytes ≡ Ok x) f.0 e)

whole : (total : ℕ) (bytes : List ℕ) → Whole total bytes
whole total [] w p f x e = cc
whole total (b ∷ bytes) Between p f x e = subst (λ (l : List ℕ). IsUtf8 (l ++ x.0)) (sym f) (between_whole total b bytes (whole total bytes) (between_turn b) (between_begins b) x e)
whole total (b ∷ bytes) Escaped p f x e = subst (λ (l : List ℕ). IsUtf8 (l ++ x.0)) (sym f) (escaped_whole total b bytes (whole total bytes) (unescaped b) refl x e)
whole total (b ∷ bytes) (Going more low high) p f x e = going_whole total b bytes (whole total bytes) more low high p f.1 x e

-- a string can have each byte that has a spelling
text_by : (b : ℕ) (p q r s t : Bool) → eqb b 92 ≡ p → eqb b 34 ≡ q → eqb b 10 ≡ r → eqb b 13 ≡ s → eqb b 9 ≡ t → (l : ℕ) → cond {A = Option ℕ} p (Some 92) (cond q (Some 34) (cond r (Some 110) (cond s (Some 114) (cond t (Some 116) None)))) ≡ Some l → is_text_byte b ≡ true
text_by b true q r s t ep eq er es et l e = subst (λ n. is_text_byte n ≡ true) (sym (eqb-true b 92 ep)) refl
text_by b false true r s t ep eq er es et l e = subst (λ n. is_text_byte n ≡ true) (sym (eqb-true b 34 eq)) refl
text_by b false false true s t ep eq er es et l e = subst (λ n. is_text_byte n ≡ true) (sym (eqb-true b 10 er)) refl
text_by b false false false true t ep eq er es et l e = subst (λ n. is_text_byte n ≡ true) (sym (eqb-true b 13 es)) refl
text_by b false false false false true ep eq er es et l e = subst (λ n. is_text_byte n ≡ true) (sym (eqb-true b 9 et)) refl
text_by b false false false false false ep eq er es et l e = cc

plain_text : (b : ℕ) → is_plain b ≡ true → is_text_byte b ≡ true
plain_text b h = grind (arith, nat_tests)

byte_text : (b : ℕ) (prefix : List ℕ) → SpellsByte b prefix → is_text_byte b ≡ true
byte_text b prefix (inl p) = plain_text b p.0
byte_text b prefix (inr p) = text_by b (eqb b 92) (eqb b 34) (eqb b 10) (eqb b 13) (eqb b 9) refl refl refl refl refl p.0 p.1

bytes_text : (bytes inner : List ℕ) → SpellsBytes bytes inner → is_text bytes ≡ true
bytes_text [] inner s = refl
bytes_text (b ∷ bytes) inner s = and_from (is_text_byte b) (is_text bytes) (byte_text b s.0 s.3) (bytes_text bytes s.1 s.4)

pub string_put : (total : ℕ) (bytes : List ℕ) (x : Pair) → string_rest total Between bytes ≡ Ok x → is_string x.0 ≡ true
string_put total bytes x e =
    let found = string_sound total bytes Between tt x e in
    and_from (is_utf8 x.0) (is_text x.0) (is_utf8-from_IsUtf8 x.0 (whole total bytes Between [] refl x e)) (bytes_text x.0 found.0 found.2)
