-- The text of a term parses as this term.
use Rattle.std.proofs.Common.{◌≡◌, ℕ, ℤ, pos, negsuc, neg_ℤ, suc, ◌+◌, ◌-◌, ◌*◌, ◌/◌, ◌%◌, ◌^◌, ◌≤◌, ◌<◌, Bool, true, false, cond, eqb, List, [], ◌∷◌, ◌++◌, map, fold, Option, Some, None, refl, ap, sym, ◌∙◌, subst, inl, inr, arith, append_assoc, append-nil}
use Rattle.std.proofs.lemmas.Bool.{false≢true, ltb-true, and_parts, and_from}
use Rattle.std.proofs.lemmas.Bool.Decides.{nat_tests}
use Rattle.std.proofs.lemmas.Fmt.{decimal_by_steps}
use Rattle.std.proofs.lemmas.List.Folds.{list_all-append}
use Rattle.std.specs.Fmt.{decimal, signed_decimal}
use Rattle.std.specs.Str.{is_utf8}
use Rattle.std.specs.List.{list_all, flat_map, AllByRecursion}
use Rattle.tb_terms.specs.Names.{is_digit, is_name, is_string, is_text, is_text_byte}
use Rattle.tb_terms.specs.Texts.{term_text, text_step, joined, escape_letter, with_letter, escaped, quoted, appl_text, list_text}
use Rattle.tb_terms.specs.Proper.{is_proper, proper_step, has_64_bits}
use Rattle.tb_terms.specs.declared.term.Term.{Term}
use Rattle.tb_terms.specs.declared.term.Term.TheVariants as term
use Rattle.tb_terms.proofs.Induction.{term_induction, fold-Int, fold-Str, fold-Appl, fold-List}
use Rattle.tb_read.specs.declared.token.Token.{Token}
use Rattle.tb_read.specs.declared.token.Token.TheVariants as token
use Rattle.tb_read.specs.Tokens.{tokens_of, with_commas}
use Rattle.tb_read.specs.Spelling.{is_digits, digits_value, is_plain, SpellsNumber, SpellsByte, SpellsBytes, SpellsString, SpellsToken, Spaced, Reads}
use Rattle.tb_read.proofs.Terms.{tokens-Int, tokens-Str, tokens-Appl, tokens-List}

-- Numbers.

abbrev Decimal : ℕ → List ℕ → Type 0
Decimal n digits = (is_digits digits ≡ true) × (digits_value digits ≡ n)

fold-push : (f : ℕ → ℕ → ℕ) (a : ℕ) (xs : List ℕ) (y : ℕ) → fold f a (xs ++ (y ∷ [])) ≡ f (fold f a xs) y
fold-push f a [] y = refl
fold-push f a (x ∷ xs) y = fold-push f (f a x) xs y

digit_glyph : (d : ℕ) → d < 10 → is_digit (48 + d) ≡ true
digit_glyph d h = grind (arith, nat_tests)

digits-push : (ds : List ℕ) (d : ℕ) → is_digits ds ≡ true → is_digit d ≡ true → is_digits (ds ++ (d ∷ [])) ≡ true
digits-push [] d h e = absurd (false≢true h)
digits-push (x ∷ ds) d h e =
    let p = and_parts (is_digit x) (list_all is_digit ds) h in
    let last : list_all is_digit (d ∷ []) ≡ true = and_from (is_digit d) true e refl in
    and_from (is_digit x) (list_all is_digit (ds ++ (d ∷ []))) p.0 (list_all-append is_digit ds (d ∷ []) ∙ and_from (list_all is_digit ds) (list_all is_digit (d ∷ [])) p.1 last)

one_digit : (n : ℕ) → n < 10 → Decimal n ((48 + n) ∷ [])
one_digit n h = (and_from (is_digit (48 + n)) true (digit_glyph n h) refl, omega arith)

more_digits : (n : ℕ) (ds : List ℕ) → 10 ≤ n → Decimal (n / 10) ds → Decimal n (ds ++ ((48 + n % 10) ∷ []))
more_digits n ds h d =
    let below : n % 10 < 10 = omega arith in
    let value : digits_value (ds ++ ((48 + n % 10) ∷ [])) ≡ 10 * digits_value ds + (48 + n % 10 - 48) = fold-push (λ value digit. 10 * value + (digit - 48)) 0 ds (48 + n % 10) in
    let prefix : digits_value ds ≡ n / 10 = d.1 in
    (digits-push ds (48 + n % 10) d.0 (digit_glyph (n % 10) below), omega arith)

decimal_spelled : (n : ℕ) → n < 2 ^ 64 → Decimal n (decimal n)
decimal_spelled n h = decimal_by_steps Decimal one_digit more_digits n h

pub number_spelled : (z : ℤ) → has_64_bits z ≡ true → SpellsNumber z (signed_decimal z)
number_spelled (pos n) h =
    let below : n < 2 ^ 63 = ltb-true n (2 ^ 63) h in
    let d = decimal_spelled n (omega arith) in
    record { digits = decimal n; are_digits = d.0; signed = inl (refl, ap pos (sym d.1), rw d.1 below) }
number_spelled (negsuc n) h =
    let below : n < 2 ^ 63 = ltb-true n (2 ^ 63) h in
    let d = decimal_spelled (suc n) (omega arith) in
    let least : suc n ≤ 2 ^ 63 = below in
    record { digits = decimal (suc n); are_digits = d.0; signed = inr (refl, ap (λ v. neg_ℤ (pos v)) (sym d.1), rw d.1 least) }

-- Strings.

plain_of_text : (b : ℕ) → is_text_byte b ≡ true → escape_letter b ≡ None → is_plain b ≡ true
plain_of_text b h e = by b h (eqb b 92) (eqb b 34) (eqb b 10) (eqb b 13) (eqb b 9) refl refl refl refl refl e where
  by : (b : ℕ) → is_text_byte b ≡ true → (p q r s t : Bool) → eqb b 92 ≡ p → eqb b 34 ≡ q → eqb b 10 ≡ r → eqb b 13 ≡ s → eqb b 9 ≡ t → cond {A = Option ℕ} p (Some 92) (cond q (Some 34) (cond r (Some 110) (cond s (Some 114) (cond t (Some 116) None)))) ≡ None → is_plain b ≡ true
  by b h true q r s t ep eq er es et e = cc
  by b h false true r s t ep eq er es et e = cc
  by b h false false true s t ep eq er es et e = cc
  by b h false false false true t ep eq er es et e = cc
  by b h false false false false true ep eq er es et e = cc
  by b h false false false false false ep eq er es et e = grind (arith, nat_tests)

byte_by : (b : ℕ) → is_text_byte b ≡ true → (o : Option ℕ) → escape_letter b ≡ o → SpellsByte b (with_letter b o)
byte_by b h None e = inl (plain_of_text b h e, refl)
byte_by b h (Some l) e = inr (l, e, refl)

bytes_spelled : (bytes : List ℕ) → is_text bytes ≡ true → SpellsBytes bytes (flat_map escaped bytes)
bytes_spelled [] h = refl
bytes_spelled (b ∷ bytes) h =
    let p = and_parts (is_text_byte b) (is_text bytes) h in
    (escaped b, flat_map escaped bytes, refl, byte_by b p.0 (escape_letter b) refl, bytes_spelled bytes p.1)

pub string_spelled : (bytes : List ℕ) → is_string bytes ≡ true → SpellsString bytes (quoted bytes)
string_spelled bytes h =
    record { is = h; inner = flat_map escaped bytes; quoted = refl; spelled = bytes_spelled bytes (and_parts (is_utf8 bytes) (is_text bytes) h).1 }

-- Terms, with any bytes after them.

single : (k : Token) (text : List ℕ) (ks : List Token) (rest : List ℕ) → SpellsToken k text → Spaced ks rest → Spaced (k ∷ ks) (text ++ rest)
single k text ks rest s p = ([], text, rest, refl, refl, s, p)

abbrev Written : Term → Type 0
Written t = is_proper t ≡ true → (ks : List Token) (rest : List ℕ) → Spaced ks rest → Spaced (tokens_of t ++ ks) (term_text t ++ rest)

abbrev All : List Bool → Bool
All bs = list_all (λ part. part) bs

parts_written : (t : Term) (ts : List Term) → AllByRecursion Written (t ∷ ts) → All (map is_proper (t ∷ ts)) ≡ true → (ks : List Token) (rest : List ℕ) → Spaced ks rest → Spaced (with_commas (map tokens_of (t ∷ ts)) ++ ks) (joined (map term_text (t ∷ ts)) ++ rest)
parts_written t [] w h ks rest p =
    let q = and_parts (is_proper t) true h in
    subst (λ (l : List Token). Spaced (l ++ ks) (term_text t ++ rest)) (sym (append-nil (tokens_of t))) (w.0 q.0 ks rest p)
parts_written t (u ∷ ts) w h ks rest p =
    let q = and_parts (is_proper t) (All (map is_proper (u ∷ ts))) h in
    let tokens = with_commas (map tokens_of (u ∷ ts)) in
    let text = joined (map term_text (u ∷ ts)) in
    let others : Spaced (tokens ++ ks) (text ++ rest) = parts_written u ts w.1 q.1 ks rest p in
    let comma : Spaced (token.Comma ∷ (tokens ++ ks)) (44 ∷ (text ++ rest)) = single token.Comma (44 ∷ []) (tokens ++ ks) (text ++ rest) refl others in
    let whole : Spaced (tokens_of t ++ (token.Comma ∷ (tokens ++ ks))) (term_text t ++ (44 ∷ (text ++ rest))) = w.0 q.0 (token.Comma ∷ (tokens ++ ks)) (44 ∷ (text ++ rest)) comma in
    subst (λ (l : List Token). Spaced l ((term_text t ++ (44 ∷ text)) ++ rest)) (sym (append_assoc (tokens_of t) (token.Comma ∷ tokens) ks))
    (subst (λ (l : List ℕ). Spaced (tokens_of t ++ (token.Comma ∷ (tokens ++ ks))) l) (sym (append_assoc (term_text t) (44 ∷ text) rest)) whole)

-- the parts between brackets
bracketed : (left right : Token) (o c : ℕ) → SpellsToken left (o ∷ []) → SpellsToken right (c ∷ []) → (t : Term) (ts : List Term) → AllByRecursion Written (t ∷ ts) → All (map is_proper (t ∷ ts)) ≡ true → (ks : List Token) (rest : List ℕ) → Spaced ks rest → Spaced ((left ∷ with_commas (map tokens_of (t ∷ ts)) ++ (right ∷ [])) ++ ks) ((o ∷ joined (map term_text (t ∷ ts)) ++ (c ∷ [])) ++ rest)
bracketed left right o c so sc t ts w h ks rest p =
    let tokens = with_commas (map tokens_of (t ∷ ts)) in
    let text = joined (map term_text (t ∷ ts)) in
    let closed : Spaced (right ∷ ks) (c ∷ rest) = single right (c ∷ []) ks rest sc p in
    let inner : Spaced (tokens ++ (right ∷ ks)) (text ++ (c ∷ rest)) = parts_written t ts w h (right ∷ ks) (c ∷ rest) closed in
    let whole : Spaced (left ∷ (tokens ++ (right ∷ ks))) (o ∷ (text ++ (c ∷ rest))) = single left (o ∷ []) (tokens ++ (right ∷ ks)) (text ++ (c ∷ rest)) so inner in
    subst (λ (l : List Token). Spaced l (((o ∷ text) ++ (c ∷ [])) ++ rest)) (sym (append_assoc (left ∷ tokens) (right ∷ []) ks))
    (subst (λ (l : List ℕ). Spaced (left ∷ (tokens ++ (right ∷ ks))) l) (sym (append_assoc (o ∷ text) (c ∷ []) rest)) whole)

abbrev At : List Token → List ℕ → List Token → List ℕ → Type 0
At tokens text ks rest = Spaced (tokens ++ ks) (text ++ rest)

written-Int : (n : ℤ) → Written (term.Int n)
written-Int n h ks rest p =
    let valid : has_64_bits n ≡ true = sym (fold-Int Bool proper_step n) ∙ h in
    let s : At (token.Int n ∷ []) (signed_decimal n) ks rest = single (token.Int n) (signed_decimal n) ks rest (number_spelled n valid) p in
    subst (λ (l : List ℕ). At (tokens_of (term.Int n)) l ks rest) (sym (fold-Int (List ℕ) text_step n)) (subst (λ (l : List Token). At l (signed_decimal n) ks rest) (sym (tokens-Int n)) s)

written-Str : (b : List ℕ) → Written (term.Str b)
written-Str b h ks rest p =
    let valid : is_string b ≡ true = sym (fold-Str Bool proper_step b) ∙ h in
    let s : At (token.Str b ∷ []) (quoted b) ks rest = single (token.Str b) (quoted b) ks rest (string_spelled b valid) p in
    subst (λ (l : List ℕ). At (tokens_of (term.Str b)) l ks rest) (sym (fold-Str (List ℕ) text_step b)) (subst (λ (l : List Token). At l (quoted b) ks rest) (sym (tokens-Str b)) s)

written-Appl : (n : List ℕ) (ts : List Term) → AllByRecursion Written ts → Written (term.Appl n ts)
written-Appl n [] w h ks rest p =
    let valid = and_parts (is_name n) true (sym (fold-Appl Bool proper_step n []) ∙ h) in
    let s : At (token.Name n ∷ []) n ks rest = single (token.Name n) n ks rest (valid.0, refl) p in
    subst (λ (l : List ℕ). At (tokens_of (term.Appl n [])) l ks rest) (sym (fold-Appl (List ℕ) text_step n [])) (subst (λ (l : List Token). At l n ks rest) (sym (tokens-Appl n [])) s)
written-Appl n (t ∷ ts) w h ks rest p =
    let valid = and_parts (is_name n) (All (map is_proper (t ∷ ts))) (sym (fold-Appl Bool proper_step n (t ∷ ts)) ∙ h) in
    let tokens = (token.LeftParen ∷ with_commas (map tokens_of (t ∷ ts))) ++ (token.RightParen ∷ []) in
    let text = (40 ∷ joined (map term_text (t ∷ ts))) ++ (41 ∷ []) in
    let inner : Spaced (tokens ++ ks) (text ++ rest) = bracketed token.LeftParen token.RightParen 40 41 refl refl t ts w valid.1 ks rest p in
    let named : Spaced (token.Name n ∷ (tokens ++ ks)) (n ++ (text ++ rest)) = single (token.Name n) n (tokens ++ ks) (text ++ rest) (valid.0, refl) inner in
    let regrouped : appl_text n (map term_text (t ∷ ts)) ++ rest ≡ n ++ (text ++ rest) = ap (λ (l : List ℕ). l ++ rest) (append_assoc n (40 ∷ joined (map term_text (t ∷ ts))) (41 ∷ [])) ∙ append_assoc n text rest in
    subst (λ (l : List ℕ). At (tokens_of (term.Appl n (t ∷ ts))) l ks rest) (sym (fold-Appl (List ℕ) text_step n (t ∷ ts)))
    (subst (λ (l : List Token). At l (appl_text n (map term_text (t ∷ ts))) ks rest) (sym (tokens-Appl n (t ∷ ts)))
    (subst (λ (l : List ℕ). Spaced (token.Name n ∷ (tokens ++ ks)) l) (sym regrouped) named))

written-List : (ts : List Term) → AllByRecursion Written ts → Written (term.List ts)
written-List [] w h ks rest p =
    let close : Spaced (token.RightBracket ∷ ks) (93 ∷ rest) = single token.RightBracket (93 ∷ []) ks rest refl p in
    let s : At (token.LeftBracket ∷ token.RightBracket ∷ []) (91 ∷ 93 ∷ []) ks rest = single token.LeftBracket (91 ∷ []) (token.RightBracket ∷ ks) (93 ∷ rest) refl close in
    subst (λ (l : List ℕ). At (tokens_of (term.List [])) l ks rest) (sym (fold-List (List ℕ) text_step [])) (subst (λ (l : List Token). At l (91 ∷ 93 ∷ []) ks rest) (sym (tokens-List [])) s)
written-List (t ∷ ts) w h ks rest p =
    let valid : All (map is_proper (t ∷ ts)) ≡ true = sym (fold-List Bool proper_step (t ∷ ts)) ∙ h in
    let s : At ((token.LeftBracket ∷ with_commas (map tokens_of (t ∷ ts))) ++ (token.RightBracket ∷ [])) (list_text (map term_text (t ∷ ts))) ks rest = bracketed token.LeftBracket token.RightBracket 91 93 refl refl t ts w valid ks rest p in
    subst (λ (l : List ℕ). At (tokens_of (term.List (t ∷ ts))) l ks rest) (sym (fold-List (List ℕ) text_step (t ∷ ts)))
    (subst (λ (l : List Token). At l (list_text (map term_text (t ∷ ts))) ks rest) (sym (tokens-List (t ∷ ts))) s)

written : (t : Term) → Written t
written = term_induction Written written-Int written-Str written-Appl written-List

pub written_reads : (t : Term) → is_proper t ≡ true → Reads (term_text t) t
written_reads t h =
    let p : Spaced (tokens_of t ++ []) (term_text t ++ []) = written t h [] [] refl in
    subst (λ (l : List ℕ). Spaced (tokens_of t) l) (append-nil (term_text t)) (subst (λ (l : List Token). Spaced l (term_text t ++ [])) (append-nil (tokens_of t)) p)
