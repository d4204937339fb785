-- A property of the text of each term, from the property of names and strings; the property holds at each depth of brackets.
use Rattle.std.proofs.Common.{◌≡◌, ℕ, ℤ, pos, negsuc, suc, ◌^◌, ◌<◌, Bool, true, false, ◌||◌, eqb, List, [], ◌∷◌, ◌++◌, map, refl, sym, ◌∙◌, subst, arith, append_assoc}
use Rattle.std.specs.Fmt.{decimal, signed_decimal}
use Rattle.std.specs.List.{list_all, AllByRecursion}
use Rattle.std.proofs.lemmas.Bool.{false≢true, and_parts, and_from, ltb-true}
use Rattle.tb_terms.specs.Names.{is_lower, is_upper, is_digit, is_name_byte, is_name, is_string}
use Rattle.tb_terms.specs.Proper.{is_proper, proper_step, has_64_bits}
use Rattle.tb_terms.specs.Texts.{term_text, text_step, joined, quoted}
use Rattle.tb_terms.specs.declared.term.Term.{Term}
use Rattle.tb_terms.specs.declared.term.Term.TheVariants as term
use Rattle.tb_terms.proofs.Induction.{term_induction, fold-Int, fold-Str, fold-Appl, fold-List}
use Rattle.tb_log_read.proofs.Decimals.{digits-decimal}

digit_of_name : (b : ℕ) → is_digit b ≡ true → is_name_byte b ≡ true
digit_of_name b h = rw h (by (is_lower b || is_upper b)) where
  by : (l : Bool) → ((l || true) || (eqb b 45) || (eqb b 95)) ≡ true
  by true = refl
  by false = refl

pub digits_of_name : (xs : List ℕ) → list_all is_digit xs ≡ true → list_all is_name_byte xs ≡ true
digits_of_name [] h = refl
digits_of_name (x ∷ xs) h =
    let p = and_parts (is_digit x) (list_all is_digit xs) h in
    and_from (is_name_byte x) (list_all is_name_byte xs) (digit_of_name x p.0) (digits_of_name xs p.1)

pub bytes_of_name : (n : List ℕ) → is_name n ≡ true → list_all is_name_byte n ≡ true
bytes_of_name [] h = absurd (false≢true h)
bytes_of_name (c ∷ cs) h =
    let p = and_parts (is_lower c) (list_all is_name_byte cs) h in
    let first : is_name_byte c ≡ true = rw p.0 refl in
    and_from (is_name_byte c) (list_all is_name_byte cs) first p.1

-- a property of bytes at a depth of brackets; the property is kept by `++`
module _ (Q : ℕ → List ℕ → Type 0) (none : (d : ℕ) → Q d []) (more : (d : ℕ) (xs ys : List ℕ) → Q d xs → Q d ys → Q d (xs ++ ys)) (plain : (d b : ℕ) → is_name_byte b ≡ true → Q d (b ∷ [])) (string : (d : ℕ) (s : List ℕ) → is_string s ≡ true → Q d (quoted s)) (comma : (d : ℕ) → Q (suc d) (44 ∷ [])) (paren : (d : ℕ) (xs : List ℕ) → Q (suc d) xs → Q d ((40 ∷ xs) ++ (41 ∷ []))) (square : (d : ℕ) (xs : List ℕ) → Q (suc d) xs → Q d ((91 ∷ xs) ++ (93 ∷ []))) where
  pub name_text : (d : ℕ) (xs : List ℕ) → list_all is_name_byte xs ≡ true → Q d xs
  name_text d [] h = none d
  name_text d (x ∷ xs) h =
      let p = and_parts (is_name_byte x) (list_all is_name_byte xs) h in
      more d (x ∷ []) xs (plain d x p.0) (name_text d xs p.1)

  number_text : (d : ℕ) (z : ℤ) → has_64_bits z ≡ true → Q d (signed_decimal z)
  number_text d (pos n) h =
      let below : n < 2 ^ 63 = ltb-true n (2 ^ 63) h in
      name_text d (decimal n) (digits_of_name (decimal n) (digits-decimal n (omega arith)))
  number_text d (negsuc n) h =
      let below : n < 2 ^ 63 = ltb-true n (2 ^ 63) h in
      more d (45 ∷ []) (decimal (suc n)) (plain d 45 refl) (name_text d (decimal (suc n)) (digits_of_name (decimal (suc n)) (digits-decimal (suc n) (omega arith))))

  abbrev pub Texted : Term → Type 0
  Texted t = is_proper t ≡ true → (d : ℕ) → Q d (term_text t)

  abbrev All : List Bool → Bool
  All bs = list_all (λ part. part) bs

  parts_text : (t : Term) (ts : List Term) → AllByRecursion Texted (t ∷ ts) → All (map is_proper (t ∷ ts)) ≡ true → (d : ℕ) → Q (suc d) (joined (map term_text (t ∷ ts)))
  parts_text t [] w h d = w.0 (and_parts (is_proper t) true h).0 (suc d)
  parts_text t (u ∷ ts) w h d =
      let q = and_parts (is_proper t) (All (map is_proper (u ∷ ts))) h in
      let others = parts_text u ts w.1 q.1 d in
      more (suc d) (term_text t) (44 ∷ joined (map term_text (u ∷ ts))) (w.0 q.0 (suc d)) (more (suc d) (44 ∷ []) (joined (map term_text (u ∷ ts))) (comma d) others)

  text-Int : (n : ℤ) → Texted (term.Int n)
  text-Int n h d = subst (Q d) (sym (fold-Int (List ℕ) text_step n)) (number_text d n (sym (fold-Int Bool proper_step n) ∙ h))

  text-Str : (s : List ℕ) → Texted (term.Str s)
  text-Str s h d = subst (Q d) (sym (fold-Str (List ℕ) text_step s)) (string d s (sym (fold-Str Bool proper_step s) ∙ h))

  text-Appl : (n : List ℕ) (ts : List Term) → AllByRecursion Texted ts → Texted (term.Appl n ts)
  text-Appl n [] w h d =
      let valid = and_parts (is_name n) true (sym (fold-Appl Bool proper_step n []) ∙ h) in
      subst (Q d) (sym (fold-Appl (List ℕ) text_step n [])) (name_text d n (bytes_of_name n valid.0))
  text-Appl n (t ∷ ts) w h d =
      let valid = and_parts (is_name n) (All (map is_proper (t ∷ ts))) (sym (fold-Appl Bool proper_step n (t ∷ ts)) ∙ h) in
      let inner = joined (map term_text (t ∷ ts)) in
      let whole : Q d (n ++ ((40 ∷ inner) ++ (41 ∷ []))) = more d n ((40 ∷ inner) ++ (41 ∷ [])) (name_text d n (bytes_of_name n valid.0)) (paren d inner (parts_text t ts w valid.1 d)) in
      subst (Q d) (sym (fold-Appl (List ℕ) text_step n (t ∷ ts))) (subst (Q d) (sym (append_assoc n (40 ∷ inner) (41 ∷ []))) whole)

  text-List : (ts : List Term) → AllByRecursion Texted ts → Texted (term.List ts)
  text-List [] w h d = subst (Q d) (sym (fold-List (List ℕ) text_step [])) (square d [] (none (suc d)))
  text-List (t ∷ ts) w h d =
      let valid : All (map is_proper (t ∷ ts)) ≡ true = sym (fold-List Bool proper_step (t ∷ ts)) ∙ h in
      subst (Q d) (sym (fold-List (List ℕ) text_step (t ∷ ts))) (square d (joined (map term_text (t ∷ ts))) (parts_text t ts w valid d))

  pub term_texted : (t : Term) → Texted t
  term_texted = term_induction Texted text-Int text-Str text-Appl text-List
