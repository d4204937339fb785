-- The bytes of a scanned string spell it.
use Rattle.std.proofs.Common.{◌≡◌, ℕ, suc, ◌-◌, ◌≤◌, Bool, true, false, not, ◌&&◌, cond, eqb, leb, ltb, List, [], ◌∷◌, ◌++◌, length, Option, Some, None, Result, Ok, Err, refl, ap, sym, ◌∙◌, subst, inl, inr, arith, lit≤}
use Rattle.std.proofs.lemmas.Bool.{eqb-true}
use Rattle.std.proofs.lemmas.Bool.Decides.{nat_tests}
use Rattle.tb_terms.specs.Texts.{escape_letter}
use Rattle.tb_read.specs.declared.quoted.Within.{Within}
use Rattle.tb_read.specs.declared.quoted.Within.TheVariants.{Between, Escaped, Going}
use Rattle.tb_read.specs.declared.quoted.Turn.{Turn}
use Rattle.tb_read.specs.declared.quoted.Turn.TheVariants.{Ends, Goes, Puts, Bad}
use Rattle.tb_read.specs.declared.fault.TermFault.{TermFault}
use Rattle.tb_read.specs.declared.fault.TermFault.TheVariants.{Syntax}
use Rattle.tb_read.specs.Spelling.{is_plain, SpellsBytes}
use Rattle.tb_read.specs.Lexing.{between_turn, going_turn, escaped_turn, unescaped, lead, string_rest, with_prefix}

-- the ranges of further bytes are above ASCII
abbrev pub Steady : Within → Type 0
Steady Between = Unit {0}
Steady Escaped = Unit {0}
Steady (Going more low high) = 128 ≤ low

-- the text after a backslash begins with the letter of the first byte
abbrev SpellsEscaped : List ℕ → List ℕ → Type 0
SpellsEscaped bytes inner = (byte : ℕ) × (rest : List ℕ) × (letter : ℕ) × (text : List ℕ) × (bytes ≡ byte ∷ rest) × (inner ≡ letter ∷ text) × (escape_letter byte ≡ Some letter) × SpellsBytes rest text

abbrev pub Spelled : Within → List ℕ → List ℕ → Type 0
Spelled Between bytes inner = SpellsBytes bytes inner
Spelled Escaped bytes inner = SpellsEscaped bytes inner
Spelled (Going more low high) bytes inner = SpellsBytes bytes inner

-- a state in which a byte represents itself
abbrev pub IsInside : Within → Type 0
IsInside Between = Unit {0}
IsInside Escaped = ⊥
IsInside (Going more low high) = Unit {0}

-- the effect of a byte within a string
abbrev pub Facts : ℕ → Turn → Type 0
Facts b Ends = b ≡ 34
Facts b (Goes next) = (b ≡ 92) × (next ≡ Escaped)
Facts b (Puts c next) = (c ≡ b) × (is_plain b ≡ true) × Steady next × IsInside next
Facts b Bad = Unit {0}

lead_by : (b : ℕ) → is_plain b ≡ true → (p q r s t u v w x : Bool) → Facts b (cond p (Puts b Between) (cond q Bad (cond r (Puts b (Going 1 128 191)) (cond s (Puts b (Going 2 160 191)) (cond t (Puts b (Going 2 128 159)) (cond u (Puts b (Going 2 128 191)) (cond v (Puts b (Going 3 144 191)) (cond w (Puts b (Going 3 128 191)) (cond x (Puts b (Going 3 128 143)) Bad)))))))))
lead_by b h true q r s t u v w x = (refl, h, tt, tt)
lead_by b h false true r s t u v w x = tt
lead_by b h false false true s t u v w x = (refl, h, lit≤ tt, tt)
lead_by b h false false false true t u v w x = (refl, h, lit≤ tt, tt)
lead_by b h false false false false true u v w x = (refl, h, lit≤ tt, tt)
lead_by b h false false false false false true v w x = (refl, h, lit≤ tt, tt)
lead_by b h false false false false false false true w x = (refl, h, lit≤ tt, tt)
lead_by b h false false false false false false false true x = (refl, h, lit≤ tt, tt)
lead_by b h false false false false false false false false true = (refl, h, lit≤ tt, tt)
lead_by b h false false false false false false false false false = tt

lead_facts : (b : ℕ) → is_plain b ≡ true → Facts b (lead b)
lead_facts b h = lead_by b h (ltb b 128) (ltb b 194) (ltb b 224) (eqb b 224) (eqb b 237) (ltb b 240) (eqb b 240) (ltb b 244) (eqb b 244)

plain_by : (b : ℕ) → eqb b 34 ≡ false → eqb b 92 ≡ false → (ltb b 32 && not (eqb b 9)) ≡ false → is_plain b ≡ true
plain_by b q s c = grind (arith, nat_tests)

between_by : (b : ℕ) (p q r : Bool) → eqb b 34 ≡ p → eqb b 92 ≡ q → (ltb b 32 && not (eqb b 9)) ≡ r → Facts b (cond p Ends (cond q (Goes Escaped) (cond r Bad (lead b))))
between_by b true q r ep eq er = eqb-true b 34 ep
between_by b false true r ep eq er = (eqb-true b 92 eq, refl)
between_by b false false true ep eq er = tt
between_by b false false false ep eq er = lead_facts b (plain_by b ep eq er)

pub between_facts : (b : ℕ) → Facts b (between_turn b)
between_facts b = between_by b (eqb b 34) (eqb b 92) (ltb b 32 && not (eqb b 9)) refl refl refl

plain_above : (low b : ℕ) → 128 ≤ low → leb low b ≡ true → is_plain b ≡ true
plain_above low b h e = grind (arith, nat_tests)

going_by : (more low high b : ℕ) → 128 ≤ low → (p q r : Bool) → leb low b ≡ p → Facts b (cond (p && q) (Puts b (cond r Between (Going (more - 1) 128 191))) Bad)
going_by more low high b h true true true e = (refl, plain_above low b h e, tt, tt)
going_by more low high b h true true false e = (refl, plain_above low b h e, lit≤ tt, tt)
going_by more low high b h true false r e = tt
going_by more low high b h false q r e = tt

pub going_facts : (more low high b : ℕ) → 128 ≤ low → Facts b (going_turn more low high b)
going_facts more low high b h = going_by more low high b h (leb low b) (leb b high) (ltb more 2) refl

-- a letter represents the byte that is written with it
letter_by : (l c : ℕ) (p q r s t : Bool) → eqb l 92 ≡ p → eqb l 34 ≡ q → eqb l 110 ≡ r → eqb l 114 ≡ s → eqb l 116 ≡ t → cond p (Some 92) (cond q (Some 34) (cond r (Some 10) (cond s (Some 13) (cond t (Some 9) None)))) ≡ Some c → escape_letter c ≡ Some l
letter_by l c true q r s t ep eq er es et e = let cs : 92 ≡ c = cc in subst (λ n. escape_letter n ≡ Some l) cs (ap Some (sym (eqb-true l 92 ep)))
letter_by l c false true r s t ep eq er es et e = let cs : 34 ≡ c = cc in subst (λ n. escape_letter n ≡ Some l) cs (ap Some (sym (eqb-true l 34 eq)))
letter_by l c false false true s t ep eq er es et e = let cs : 10 ≡ c = cc in subst (λ n. escape_letter n ≡ Some l) cs (ap Some (sym (eqb-true l 110 er)))
letter_by l c false false false true t ep eq er es et e = let cs : 13 ≡ c = cc in subst (λ n. escape_letter n ≡ Some l) cs (ap Some (sym (eqb-true l 114 es)))
letter_by l c false false false false true ep eq er es et e = let cs : 9 ≡ c = cc in subst (λ n. escape_letter n ≡ Some l) cs (ap Some (sym (eqb-true l 116 et)))
letter_by l c false false false false false ep eq er es et e = cc

pub letter_of : (l c : ℕ) → unescaped l ≡ Some c → escape_letter c ≡ Some l
letter_of l c e = letter_by l c (eqb l 92) (eqb l 34) (eqb l 110) (eqb l 114) (eqb l 116) refl refl refl refl refl e

-- the rest of a string, given the effect of its first byte
abbrev pub turned : ℕ → Turn → List ℕ → Result (List ℕ × List ℕ) TermFault
turned total turn bytes = elim turn [
  | Ends ↦ Ok ([], bytes)
  | Goes next ↦ string_rest total next bytes
  | Puts put next ↦ with_prefix (put ∷ []) (string_rest total next bytes)
  | Bad ↦ Err (Syntax (total - suc (length bytes)))
]

abbrev pub Pair : Type 0
Pair = List ℕ × List ℕ

pub prefix_ok : (f : List ℕ) (r : Result Pair TermFault) (x : Pair) → with_prefix f r ≡ Ok x → (y : Pair) × (r ≡ Ok y) × (x.0 ≡ f ++ y.0) × (x.1 ≡ y.1)
prefix_ok f (Ok y) x e =
    let same : ◌≡◌ {A = Pair} (f ++ y.0, y.1) x = cc in
    (y, refl, ap (λ (p : Pair). p.0) (sym same), ap (λ (p : Pair). p.1) (sym same))
prefix_ok f (Err g) x e = cc

abbrev Found : Within → List ℕ → Pair → Type 0
Found w bytes x = (inner : List ℕ) × (bytes ≡ inner ++ (34 ∷ x.1)) × Spelled w x.0 inner

abbrev Sound : ℕ → List ℕ → Type 0
Sound total bytes = (w : Within) → Steady w → (x : Pair) → string_rest total w bytes ≡ Ok x → Found w bytes x

as_inside : (w : Within) (bytes inner : List ℕ) → IsInside w → Spelled w bytes inner → SpellsBytes bytes inner
as_inside Between bytes inner i s = s
as_inside Escaped bytes inner i s = absurd i
as_inside (Going more low high) bytes inner i s = s

-- the first byte is within a string
inside_sound : (total b : ℕ) (bytes : List ℕ) → Sound total bytes → (t : Turn) → Facts b t → (x : Pair) → turned total t bytes ≡ Ok x → Found Between (b ∷ bytes) x
inside_sound total b bytes ih Ends f x e =
    let same : ◌≡◌ {A = Pair} ([], bytes) x = cc in
    ([], subst (λ (p : Pair). b ∷ bytes ≡ 34 ∷ p.1) same (ap (λ n. n ∷ bytes) f), subst (λ (p : Pair). SpellsBytes p.0 []) same refl)
inside_sound total b bytes ih (Goes next) f x e =
    let more : string_rest total Escaped bytes ≡ Ok x = subst (λ w. string_rest total w bytes ≡ Ok x) f.1 e in
    let found = ih Escaped tt x more in
    let s = found.2 in (
      b ∷ found.0,
      ap (λ l. b ∷ l) found.1,
      subst (λ l. SpellsBytes l (b ∷ found.0)) (sym s.4) (92 ∷ s.2 ∷ [], s.3, ap (λ n. n ∷ found.0) f.0 ∙ ap (λ l. 92 ∷ l) s.5, inr (s.2, s.6, refl), s.7),
    )
inside_sound total b bytes ih (Puts put next) f x e =
    let y = prefix_ok (put ∷ []) (string_rest total next bytes) x e in
    let found = ih next f.2 y.0 y.1 in
    let spelled = as_inside next y.0.0 found.0 f.3 found.2 in
    let same : x.0 ≡ b ∷ y.0.0 = y.2 ∙ ap (λ n. n ∷ y.0.0) f.0 in (
      b ∷ found.0,
      ap (λ l. b ∷ l) (found.1 ∙ ap (λ l. found.0 ++ (34 ∷ l)) (sym y.3)),
      subst (λ l. SpellsBytes l (b ∷ found.0)) (sym same) (b ∷ [], found.0, refl, inl (f.1, refl), spelled),
    )
inside_sound total b bytes ih Bad f x e = cc

-- the first byte is after a backslash
escaped_sound : (total b : ℕ) (bytes : List ℕ) → Sound total bytes → (o : Option ℕ) → unescaped b ≡ o → (x : Pair) → turned total (escaped_turn o) bytes ≡ Ok x → Found Escaped (b ∷ bytes) x
escaped_sound total b bytes ih None u x e = cc
escaped_sound total b bytes ih (Some c) u x e =
    let y = prefix_ok (c ∷ []) (string_rest total Between bytes) x e in
    let found = ih Between tt y.0 y.1 in (
      b ∷ found.0,
      ap (λ l. b ∷ l) (found.1 ∙ ap (λ l. found.0 ++ (34 ∷ l)) (sym y.3)),
      (c, y.0.0, b, found.0, y.2, refl, letter_of b c u, found.2),
    )

pub string_sound : (total : ℕ) (bytes : List ℕ) → Sound total bytes
string_sound total [] w s x e = cc
string_sound total (b ∷ bytes) Between s x e = inside_sound total b bytes (string_sound total bytes) (between_turn b) (between_facts b) x e
string_sound total (b ∷ bytes) Escaped s x e = escaped_sound total b bytes (string_sound total bytes) (unescaped b) refl x e
string_sound total (b ∷ bytes) (Going more low high) s x e = inside_sound total b bytes (string_sound total bytes) (going_turn more low high b) (going_facts more low high b s) x e
