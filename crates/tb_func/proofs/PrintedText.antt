-- The printed text is a string: its bytes are well-formed UTF-8, and a string can have each of them.
use Rattle.std.proofs.Common.{◌≡◌, ℕ, ℤ, pos, negsuc, zero, suc, ◌+◌, ◌/◌, ◌%◌, ◌^◌, ◌<◌, ◌≤◌, ◌==◌, Bool, true, false, cond, ◌&&◌, leb, ltb, List, [], ◌∷◌, ◌++◌, map, Option, Some, None, option_map, IsAscii, refl, sym, ◌∙◌, subst, arith, append-nil, lit<}
use Rattle.std.proofs.lemmas.Bool.{and_parts, and_from, ltb-true, false≢true}
use Rattle.std.proofs.lemmas.Bool.Decides.{nat_tests}
use Rattle.std.proofs.lemmas.Fmt.{decimal_by_steps}
use Rattle.std.proofs.lemmas.Grind.{flat_map-append}
use Rattle.std.proofs.lemmas.List.Folds.{list_all-append}
use Rattle.std.proofs.lemmas.Str.{IsUtf8-append, IsUtf8-nil, IsUtf8-from_ascii, IsUtf8-encode, encode_ascii, IsUtf8-from_is_utf8, is_utf8-from_IsUtf8}
use Rattle.std.specs.Fmt.{decimal, signed_decimal}
use Rattle.std.specs.List.{list_all, flat_map, AllByRecursion}
use Rattle.std.specs.Str.{IsUtf8, is_utf8}
use lib.Utf8.{encode, encodes, scalar, scalars}
use Rattle.tb_terms.specs.Names.{is_lower, is_name, is_name_byte, is_string, is_text, is_text_byte}
use Rattle.tb_terms.specs.Proper.{is_proper, proper_step, has_64_bits}
use Rattle.tb_terms.specs.Texts.{term_text, text_step, joined, with_letter, escaped, quoted, appl_text, list_text}
use Rattle.tb_terms.specs.declared.term.Term.{Term, Term-F, map-Term, fold_out-Term, out-Term}
use Rattle.tb_terms.specs.declared.term.Term.TheOpen as layer
use Rattle.tb_terms.proofs.Induction.{term_induction, fold-Int, fold-Str, fold-Appl, fold-List}
use Rattle.tb_func.specs.Arguments.{int_in, int_of}
use Rattle.tb_func.specs.Printing.{printed, shown, prefixed, str_in, str_of}
use Rattle.tb_func.proofs.OutputLemmas.{behind_nothing}

-- well-formed UTF-8, and a string can have each byte
pub record Sound (bytes : List ℕ) : Type 0 where
  pub utf8 : IsUtf8 bytes
  pub text : list_all is_text_byte bytes ≡ true

sound-nil : Sound []
sound-nil = record { utf8 = IsUtf8-nil; text = refl }

sound-append : (a b : List ℕ) → Sound a → Sound b → Sound (a ++ b)
sound-append a b p q = record { utf8 = IsUtf8-append a b p.utf8 q.utf8; text = list_all-append is_text_byte a b ∙ and_from (list_all is_text_byte a) (list_all is_text_byte b) p.text q.text }

-- ASCII that is printed

abbrev is_printable : ℕ → Bool
is_printable b = leb 32 b && ltb b 128

ascii-one : (b : ℕ) → b < 128 → IsAscii (b ∷ [])
ascii-one b h zero = h
ascii-one b h (suc i) = lit< tt

printable-below : (b : ℕ) → is_printable b ≡ true → b < 128
printable-below b h = let p = and_parts (leb 32 b) (ltb b 128) h in ltb-true b 128 p.1

printable-text : (b : ℕ) → is_printable b ≡ true → is_text_byte b ≡ true
printable-text b h = let p = and_parts (leb 32 b) (ltb b 128) h in rw p.0 refl

sound-low : (b : ℕ) → b < 128 → is_text_byte b ≡ true → Sound (b ∷ [])
sound-low b h t = record { utf8 = IsUtf8-from_ascii (b ∷ []) (ascii-one b h); text = and_from (is_text_byte b) true t refl }

sound-one : (b : ℕ) → is_printable b ≡ true → Sound (b ∷ [])
sound-one b h = sound-low b (printable-below b h) (printable-text b h)

sound-printable : (bs : List ℕ) → list_all is_printable bs ≡ true → Sound bs
sound-printable [] h = sound-nil
sound-printable (b ∷ bs) h =
    let p = and_parts (is_printable b) (list_all is_printable bs) h in
    sound-append (b ∷ []) bs (sound-one b p.0) (sound-printable bs p.1)

-- numbers and names

printable-push : (ds : List ℕ) (d : ℕ) → list_all is_printable ds ≡ true → is_printable d ≡ true → list_all is_printable (ds ++ d ∷ []) ≡ true
printable-push ds d h e = list_all-append is_printable ds (d ∷ []) ∙ and_from (list_all is_printable ds) (list_all is_printable (d ∷ [])) h (and_from (is_printable d) true e refl)

printable-digit : (d : ℕ) → d < 10 → is_printable (48 + d) ≡ true
printable-digit d h = grind (arith, nat_tests)

printable-decimal : (n : ℕ) → n < 2 ^ 64 → list_all is_printable (decimal n) ≡ true
printable-decimal n h = decimal_by_steps (λ m ds. list_all is_printable ds ≡ true) (λ m l. and_from (is_printable (48 + m)) true (printable-digit m l) refl) (λ m ds l p. printable-push ds (48 + m % 10) p (printable-digit (m % 10) (omega arith))) n h

sound-number : (z : ℤ) → has_64_bits z ≡ true → Sound (signed_decimal z)
sound-number (pos n) h =
    let below : n < 2 ^ 63 = ltb-true n (2 ^ 63) h in
    sound-printable (decimal n) (printable-decimal n (omega arith))
sound-number (negsuc n) h =
    let below : n < 2 ^ 63 = ltb-true n (2 ^ 63) h in
    sound-append (45 ∷ []) (decimal (suc n)) (sound-one 45 refl) (sound-printable (decimal (suc n)) (printable-decimal (suc n) (omega arith)))

printable-lower : (c : ℕ) → is_lower c ≡ true → is_printable c ≡ true
printable-lower c h = grind (arith, nat_tests)

printable-name : (c : ℕ) → is_name_byte c ≡ true → is_printable c ≡ true
printable-name c h = grind (arith, nat_tests)

printable-names : (cs : List ℕ) → list_all is_name_byte cs ≡ true → list_all is_printable cs ≡ true
printable-names [] h = refl
printable-names (c ∷ cs) h =
    let p = and_parts (is_name_byte c) (list_all is_name_byte cs) h in
    and_from (is_printable c) (list_all is_printable cs) (printable-name c p.0) (printable-names cs p.1)

sound-name : (name : List ℕ) → is_name name ≡ true → Sound name
sound-name [] h = absurd (false≢true h)
sound-name (c ∷ cs) h =
    let p = and_parts (is_lower c) (list_all is_name_byte cs) h in
    sound-printable (c ∷ cs) (and_from (is_printable c) (list_all is_printable cs) (printable-lower c p.0) (printable-names cs p.1))

-- the bytes of a character above ASCII

abbrev is_high : ℕ → Bool
is_high b = leb 128 b

high-of : (b : ℕ) → 128 ≤ b → is_high b ≡ true
high-of b h = grind (arith, nat_tests)

high-by : (c : ℕ) (p q r : Bool) → ltb c 128 ≡ p → 128 ≤ c → list_all is_high (cond p (c ∷ []) (cond q ((192 + c / 64) ∷ (128 + c % 64) ∷ []) (cond r ((224 + c / 4096) ∷ (128 + (c / 64) % 64) ∷ (128 + c % 64) ∷ []) ((240 + c / 262144) ∷ (128 + (c / 4096) % 64) ∷ (128 + (c / 64) % 64) ∷ (128 + c % 64) ∷ [])))) ≡ true
high-by c true q r e h = absurd (let l = ltb-true c 128 e in omega arith)
high-by c false true r e h = rw (high-of (192 + c / 64) (omega arith), high-of (128 + c % 64) (omega arith)) refl
high-by c false false true e h = rw (high-of (224 + c / 4096) (omega arith), high-of (128 + (c / 64) % 64) (omega arith), high-of (128 + c % 64) (omega arith)) refl
high-by c false false false e h = rw (high-of (240 + c / 262144) (omega arith), high-of (128 + (c / 4096) % 64) (omega arith), high-of (128 + (c / 64) % 64) (omega arith), high-of (128 + c % 64) (omega arith)) refl

high-encode : (c : ℕ) → 128 ≤ c → list_all is_high (encode c) ≡ true
unfolding encode
high-encode c h = high-by c (ltb c 128) (ltb c 2048) (ltb c 65536) refl h

-- at least one byte
abbrev IsMore : List ℕ → Type 0
IsMore [] = ⊥
IsMore (b ∷ bs) = Unit {0}

more-by : (x : ℕ) (y : ℕ) (ys : List ℕ) (z : ℕ) (zs : List ℕ) (w : ℕ) (ws : List ℕ) (p q r : Bool) → IsMore (cond p (x ∷ []) (cond q (y ∷ ys) (cond r (z ∷ zs) (w ∷ ws))))
more-by x y ys z zs w ws true q r = tt
more-by x y ys z zs w ws false true r = tt
more-by x y ys z zs w ws false false true = tt
more-by x y ys z zs w ws false false false = tt

more-encode : (c : ℕ) → IsMore (encode c)
unfolding encode
more-encode c = more-by _ _ _ _ _ _ _ (ltb c 128) (ltb c 2048) (ltb c 65536)

-- strings between quotes

high-escaped : (b : ℕ) → is_high b ≡ true → escaped b ≡ b ∷ []
high-escaped b h =
    let e1 : (b == 92) ≡ false = grind (arith, nat_tests) in
    let e2 : (b == 34) ≡ false = grind (arith, nat_tests) in
    let e3 : (b == 10) ≡ false = grind (arith, nat_tests) in
    let e4 : (b == 13) ≡ false = grind (arith, nat_tests) in
    let e5 : (b == 9) ≡ false = grind (arith, nat_tests) in
    rw (e1, e2, e3, e4, e5) refl

high-unchanged : (bs : List ℕ) → list_all is_high bs ≡ true → flat_map escaped bs ≡ bs
high-unchanged [] h = refl
high-unchanged (b ∷ bs) h =
    let p = and_parts (is_high b) (list_all is_high bs) h in
    rw (high-escaped b p.0, high-unchanged bs p.1) refl

low-by : (c : ℕ) (p q r s t : Bool) → (c == 92) ≡ p → (c == 34) ≡ q → (c == 10) ≡ r → (c == 13) ≡ s → (c == 9) ≡ t → is_text_byte c ≡ true → c < 128 → list_all is_printable (with_letter c (cond p (Some 92) (cond q (Some 34) (cond r (Some 110) (cond s (Some 114) (cond t (Some 116) None)))))) ≡ true
low-by c true q r s t ep eq er es et h l = refl
low-by c false true r s t ep eq er es et h l = refl
low-by c false false true s t ep eq er es et h l = refl
low-by c false false false true t ep eq er es et h l = refl
low-by c false false false false true ep eq er es et h l = refl
low-by c false false false false false ep eq er es et h l =
    let e : is_printable c ≡ true = grind (arith, nat_tests) in
    and_from (is_printable c) true e refl

low-escaped : (c : ℕ) → is_text_byte c ≡ true → c < 128 → list_all is_printable (escaped c) ≡ true
low-escaped c h l = low-by c (c == 92) (c == 34) (c == 10) (c == 13) (c == 9) refl refl refl refl refl h l

one-quoted : (c : ℕ) (p : Bool) → ltb c 128 ≡ p → scalar c ≡ true → list_all is_text_byte (encode c) ≡ true → Sound (flat_map escaped (encode c))
one-quoted c true e s h =
    let below = ltb-true c 128 e in
    let is = encode_ascii c below in
    let parts = and_parts (is_text_byte c) true (subst (λ (l : List ℕ). list_all is_text_byte l ≡ true) is h) in
    subst (λ (l : List ℕ). Sound (flat_map escaped l)) (sym is) (subst Sound (sym (append-nil (escaped c))) (sound-printable (escaped c) (low-escaped c parts.0 below)))
one-quoted c false e s h =
    let above : 128 ≤ c = grind (arith, nat_tests) in
    subst Sound (sym (high-unchanged (encode c) (high-encode c above))) (record { utf8 = IsUtf8-encode c s; text = h })

chars-quoted : (cs : List ℕ) → scalars cs ≡ true → list_all is_text_byte (encodes cs) ≡ true → Sound (flat_map escaped (encodes cs))
chars-quoted [] s h = sound-nil
chars-quoted (c ∷ cs) s h =
    let p = and_parts (scalar c) (scalars cs) s in
    let q = and_parts (list_all is_text_byte (encode c)) (list_all is_text_byte (encodes cs)) (sym (list_all-append is_text_byte (encode c) (encodes cs)) ∙ h) in
    subst Sound (sym (flat_map-append escaped (encode c) (encodes cs))) (sound-append (flat_map escaped (encode c)) (flat_map escaped (encodes cs)) (one-quoted c (ltb c 128) refl p.0 q.0) (chars-quoted cs p.1 q.1))

sound-escaped : (bytes : List ℕ) → IsUtf8 bytes → list_all is_text_byte bytes ≡ true → Sound (flat_map escaped bytes)
sound-escaped bytes u h =
    subst (λ (l : List ℕ). Sound (flat_map escaped l)) u.1.1 (chars-quoted u.0 u.1.0 (subst (λ (l : List ℕ). list_all is_text_byte l ≡ true) (sym u.1.1) h))

pub sound-string : (bytes : List ℕ) → is_string bytes ≡ true → Sound bytes
sound-string bytes h =
    let p = and_parts (is_utf8 bytes) (is_text bytes) h in
    record { utf8 = IsUtf8-from_is_utf8 bytes p.0; text = p.1 }

sound-quoted : (bytes : List ℕ) → is_string bytes ≡ true → Sound (quoted bytes)
sound-quoted bytes h =
    let s = sound-string bytes h in
    sound-append (34 ∷ flat_map escaped bytes) (34 ∷ []) (sound-append (34 ∷ []) (flat_map escaped bytes) (sound-one 34 refl) (sound-escaped bytes s.utf8 s.text)) (sound-one 34 refl)

-- terms

abbrev IsSoundText : Term → Type 0
IsSoundText t = is_proper t ≡ true → Sound (term_text t)

abbrev All : List Bool → Bool
All bs = list_all (λ part. part) bs

sound-joined : (ts : List Term) → AllByRecursion IsSoundText ts → All (map is_proper ts) ≡ true → Sound (joined (map term_text ts))
sound-joined [] w h = sound-nil
sound-joined (t ∷ []) w h = w.0 (and_parts (is_proper t) true h).0
sound-joined (t ∷ u ∷ ts) w h =
    let p = and_parts (is_proper t) (All (map is_proper (u ∷ ts))) h in
    sound-append (term_text t) (44 ∷ joined (map term_text (u ∷ ts))) (w.0 p.0) (sound-append (44 ∷ []) (joined (map term_text (u ∷ ts))) (sound-one 44 refl) (sound-joined (u ∷ ts) w.1 p.1))

sound-appl : (name : List ℕ) (ts : List Term) → AllByRecursion IsSoundText ts → is_name name ≡ true → All (map is_proper ts) ≡ true → Sound (appl_text name (map term_text ts))
sound-appl name [] w n h = sound-name name n
sound-appl name (t ∷ ts) w n h =
    let inner = sound-append (40 ∷ []) (joined (map term_text (t ∷ ts))) (sound-one 40 refl) (sound-joined (t ∷ ts) w h) in
    sound-append (name ++ (40 ∷ joined (map term_text (t ∷ ts)))) (41 ∷ []) (sound-append name (40 ∷ joined (map term_text (t ∷ ts))) (sound-name name n) inner) (sound-one 41 refl)

sound-list : (ts : List Term) → AllByRecursion IsSoundText ts → All (map is_proper ts) ≡ true → Sound (list_text (map term_text ts))
sound-list ts w h =
    sound-append (91 ∷ joined (map term_text ts)) (93 ∷ []) (sound-append (91 ∷ []) (joined (map term_text ts)) (sound-one 91 refl) (sound-joined ts w h)) (sound-one 93 refl)

pub sound-term : (t : Term) → IsSoundText t
sound-term = term_induction IsSoundText
    (λ n h. subst Sound (sym (fold-Int (List ℕ) text_step n)) (sound-number n (sym (fold-Int Bool proper_step n) ∙ h)))
    (λ s h. subst Sound (sym (fold-Str (List ℕ) text_step s)) (sound-quoted s (sym (fold-Str Bool proper_step s) ∙ h)))
    (λ n ts w h. let p = and_parts (is_name n) (All (map is_proper ts)) (sym (fold-Appl Bool proper_step n ts) ∙ h) in subst Sound (sym (fold-Appl (List ℕ) text_step n ts)) (sound-appl n ts w p.0 p.1))
    (λ ts w h. subst Sound (sym (fold-List (List ℕ) text_step ts)) (sound-list ts w (sym (fold-List Bool proper_step ts) ∙ h)))

-- the arguments by their kind

proper-layer : (t : Term) → is_proper t ≡ true → proper_step (map-Term Term Bool is_proper (out-Term t)) ≡ true
proper-layer t h = sym (fold_out-Term Bool proper_step t) ∙ h

int-proper : (x : Term-F Term) (n : ℤ) → proper_step (map-Term Term Bool is_proper x) ≡ true → int_in x ≡ Some n → has_64_bits n ≡ true
int-proper (layer.Int m) n p e =
    let is : m ≡ n = cc in
    subst (λ (z : ℤ). has_64_bits z ≡ true) is p
int-proper (layer.Str s) n p e = cc
int-proper (layer.Appl name parts) n p e = cc
int-proper (layer.List parts) n p e = cc

str-proper : (x : Term-F Term) (s : List ℕ) → proper_step (map-Term Term Bool is_proper x) ≡ true → str_in x ≡ Some s → is_string s ≡ true
str-proper (layer.Int m) s p e = cc
str-proper (layer.Str r) s p e =
    let is : r ≡ s = cc in
    subst (λ (z : List ℕ). is_string z ≡ true) is p
str-proper (layer.Appl name parts) s p e = cc
str-proper (layer.List parts) s p e = cc

sound-some : (o : Option ℤ) (a : List ℕ) → ((n : ℤ) → o ≡ Some n → has_64_bits n ≡ true) → option_map signed_decimal o ≡ Some a → Sound a
sound-some None a f e = absurd cc
sound-some (Some n) a f e =
    let is : signed_decimal n ≡ a = cc in
    subst Sound is (sound-number n (f n refl))

sound-by : (t : Term) (a : List ℕ) (p q r : Bool) → is_proper t ≡ true → cond p (option_map signed_decimal (int_of t)) (cond q (str_of t) (cond r (Some (term_text t)) None)) ≡ Some a → Sound a
sound-by t a true q r h e = sound-some (int_of t) a (λ n k. int-proper (out-Term t) n (proper-layer t h) k) e
sound-by t a false true r h e = sound-string a (str-proper (out-Term t) a (proper-layer t h) e)
sound-by t a false false true h e =
    let is : term_text t ≡ a = cc in
    subst Sound is (sound-term t h)
sound-by t a false false false h e = absurd cc

sound-shown : (letter : ℕ) (t : Term) (a : List ℕ) → is_proper t ≡ true → shown letter t ≡ Some a → Sound a
sound-shown letter t a h e = sound-by t a (letter == 100) (letter == 115) (letter == 116) h e

-- the format

sound-prefix : (o rest : Option (List ℕ)) (out : List ℕ) → ((a : List ℕ) → o ≡ Some a → Sound a) → ((r : List ℕ) → rest ≡ Some r → Sound r) → prefixed o rest ≡ Some out → Sound out
sound-prefix None rest out f g e = absurd cc
sound-prefix (Some a) None out f g e = absurd cc
sound-prefix (Some a) (Some r) out f g e =
    let is : a ++ r ≡ out = cc in
    subst Sound is (sound-append a r (f a refl) (g r refl))

sound-prefix-one : (b : ℕ) (rest : Option (List ℕ)) (out : List ℕ) → Sound (b ∷ []) → ((r : List ℕ) → rest ≡ Some r → Sound r) → prefixed (Some (b ∷ [])) rest ≡ Some out → Sound out
sound-prefix-one b rest out s g e = sound-prefix (Some (b ∷ [])) rest out (λ a k. let is : b ∷ [] ≡ a = cc in subst Sound is s) g e

-- the text of this format is sound, from any state
abbrev SoundAfter : List ℕ → Type 0
SoundAfter format = (b : Bool) (ts : List Term) (out : List ℕ) → list_all is_proper ts ≡ true → printed b format ts ≡ Some out → Sound out

plain-by : (c : ℕ) (cs : List ℕ) (p : Bool) → Sound (c ∷ []) → SoundAfter cs → (ts : List Term) (out : List ℕ) → list_all is_proper ts ≡ true → cond p (printed true cs ts) (prefixed (Some (c ∷ [])) (printed false cs ts)) ≡ Some out → Sound out
plain-by c cs true s after ts out h e = after true ts out h e
plain-by c cs false s after ts out h e = sound-prefix-one c (printed false cs ts) out s (λ r k. after false ts r h k) e

letter-by : (c : ℕ) (cs : List ℕ) (p : Bool) → SoundAfter cs → (t : Term) (ts : List Term) (out : List ℕ) → list_all is_proper (t ∷ ts) ≡ true → cond p (prefixed (Some (37 ∷ [])) (printed false cs (t ∷ ts))) (prefixed (shown c t) (printed false cs ts)) ≡ Some out → Sound out
letter-by c cs true after t ts out h e = sound-prefix-one 37 (printed false cs (t ∷ ts)) out (sound-one 37 refl) (λ r k. after false (t ∷ ts) r h k) e
letter-by c cs false after t ts out h e =
    let p = and_parts (is_proper t) (list_all is_proper ts) h in
    sound-prefix (shown c t) (printed false cs ts) out (λ a k. sound-shown c t a p.0 k) (λ r k. after false ts r p.1 k) e

last-by : (c : ℕ) (cs : List ℕ) (p : Bool) → SoundAfter cs → (out : List ℕ) → cond p (prefixed (Some (37 ∷ [])) (printed false cs [])) None ≡ Some out → Sound out
last-by c cs true after out e = sound-prefix-one 37 (printed false cs []) out (sound-one 37 refl) (λ r k. after false [] r refl k) e
last-by c cs false after out e = absurd cc

sound-after-low : (c : ℕ) (cs : List ℕ) → Sound (c ∷ []) → SoundAfter cs → SoundAfter (c ∷ cs)
sound-after-low c cs s after false ts out h e = plain-by c cs (c == 37) s after ts out h e
sound-after-low c cs s after true [] out h e = last-by c cs (c == 37) after out e
sound-after-low c cs s after true (t ∷ ts) out h e = letter-by c cs (c == 37) after t ts out h e

-- a character above ASCII is printed as it is, if no `%` is before it
put-one : (b : ℕ) (bs : List ℕ) (o : Option (List ℕ)) → ◌≡◌ {A = Option (List ℕ)} (prefixed (Some (b ∷ [])) (option_map (λ r. bs ++ r) o)) (option_map (λ r. (b ∷ bs) ++ r) o)
put-one b bs None = refl
put-one b bs (Some r) = refl

printed-high : (bs cs : List ℕ) (ts : List Term) → list_all is_high bs ≡ true → printed false (bs ++ cs) ts ≡ option_map (λ r. bs ++ r) (printed false cs ts)
printed-high [] cs ts h = sym (behind_nothing (printed false cs ts))
printed-high (b ∷ bs) cs ts h =
    let p = and_parts (is_high b) (list_all is_high bs) h in
    let e : (b == 37) ≡ false = grind (arith, nat_tests, p.0) in
    rw (e, printed-high bs cs ts p.1) (put-one b bs (printed false cs ts))

shown-high : (b : ℕ) (t : Term) → is_high b ≡ true → shown b t ≡ None
shown-high b t h =
    let e1 : (b == 100) ≡ false = grind (arith, nat_tests) in
    let e2 : (b == 115) ≡ false = grind (arith, nat_tests) in
    let e3 : (b == 116) ≡ false = grind (arith, nat_tests) in
    rw (e1, e2, e3) refl

letter-high : (b : ℕ) (cs : List ℕ) (ts : List Term) → is_high b ≡ true → printed true (b ∷ cs) ts ≡ None
letter-high b cs [] h =
    let e : (b == 37) ≡ false = grind (arith, nat_tests) in
    rw e refl
letter-high b cs (t ∷ ts) h =
    let e : (b == 37) ≡ false = grind (arith, nat_tests) in
    rw (e, shown-high b t h) refl

letters-high : (bs cs : List ℕ) (ts : List Term) → IsMore bs → list_all is_high bs ≡ true → printed true (bs ++ cs) ts ≡ None
letters-high [] cs ts m h = absurd m
letters-high (b ∷ bs) cs ts m h = letter-high b (bs ++ cs) ts (and_parts (is_high b) (list_all is_high bs) h).0

sound-behind : (bs : List ℕ) (o : Option (List ℕ)) (out : List ℕ) → Sound bs → ((r : List ℕ) → o ≡ Some r → Sound r) → option_map (λ r. bs ++ r) o ≡ Some out → Sound out
sound-behind bs None out s g e = absurd cc
sound-behind bs (Some r) out s g e =
    let is : bs ++ r ≡ out = cc in
    subst Sound is (sound-append bs r s (g r refl))

sound-after-high : (bs cs : List ℕ) → IsMore bs → list_all is_high bs ≡ true → Sound bs → SoundAfter cs → SoundAfter (bs ++ cs)
sound-after-high bs cs m h s after false ts out w e =
    sound-behind bs (printed false cs ts) out s (λ r k. after false ts r w k) (sym (printed-high bs cs ts h) ∙ e)
sound-after-high bs cs m h s after true ts out w e =
    let none : ◌≡◌ {A = Option (List ℕ)} None (Some out) = sym (letters-high bs cs ts m h) ∙ e in
    absurd cc

sound-char : (c : ℕ) (cs : List ℕ) (p : Bool) → ltb c 128 ≡ p → scalar c ≡ true → list_all is_text_byte (encode c) ≡ true → SoundAfter cs → SoundAfter (encode c ++ cs)
sound-char c cs true e s h after =
    let below = ltb-true c 128 e in
    let is = encode_ascii c below in
    let parts = and_parts (is_text_byte c) true (subst (λ (l : List ℕ). list_all is_text_byte l ≡ true) is h) in
    subst (λ (l : List ℕ). SoundAfter (l ++ cs)) (sym is) (sound-after-low c cs (sound-low c below parts.0) after)
sound-char c cs false e s h after =
    let above : 128 ≤ c = grind (arith, nat_tests) in
    sound-after-high (encode c) cs (more-encode c) (high-encode c above) (record { utf8 = IsUtf8-encode c s; text = h }) after

sound-end : SoundAfter []
sound-end false [] out h e =
    let is : [] ≡ out = cc in
    subst Sound is sound-nil
sound-end false (t ∷ ts) out h e = absurd cc
sound-end true ts out h e = absurd cc

sound-chars : (cs : List ℕ) → scalars cs ≡ true → list_all is_text_byte (encodes cs) ≡ true → SoundAfter (encodes cs)
sound-chars [] s h = sound-end
sound-chars (c ∷ cs) s h =
    let p = and_parts (scalar c) (scalars cs) s in
    let q = and_parts (list_all is_text_byte (encode c)) (list_all is_text_byte (encodes cs)) (sym (list_all-append is_text_byte (encode c) (encodes cs)) ∙ h) in
    sound-char c (encodes cs) (ltb c 128) refl p.0 q.0 (sound-chars cs p.1 q.1)

-- the printed text is a string if the format is a string and the arguments are proper
pub printed-is_string : (format : List ℕ) (ts : List Term) (out : List ℕ) → is_string format ≡ true → list_all is_proper ts ≡ true → printed false format ts ≡ Some out → is_string out ≡ true
printed-is_string format ts out f h e =
    let s = sound-string format f in
    let after : SoundAfter format = subst SoundAfter s.utf8.1.1 (sound-chars s.utf8.0 s.utf8.1.0 (subst (λ (l : List ℕ). list_all is_text_byte l ≡ true) (sym s.utf8.1.1) s.text)) in
    let sound = after false ts out h e in
    and_from (is_utf8 out) (is_text out) (is_utf8-from_IsUtf8 out sound.utf8) sound.text
