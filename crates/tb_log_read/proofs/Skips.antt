-- The text of several terms is split between each two terms, and never within a term.
use Rattle.std.proofs.Common.{◌≡◌, ℕ, suc, ◌+◌, ◌-◌, Bool, true, false, cond, eqb, List, [], ◌∷◌, ◌++◌, map, Option, Some, None, refl, ap, sym, ◌∙◌, arith, append_assoc, append-nil, add-one}
use Rattle.std.specs.List.{list_all, flat_map, All}
use Rattle.std.proofs.lemmas.Bool.{false≢true, and_parts, and_right, eqb-true, ne_eqb, false_from_ne_true}
use Rattle.std.proofs.lemmas.List.Elements.{All-head, All-tail}
use Rattle.tb_terms.specs.Names.{is_name_byte}
use Rattle.tb_terms.specs.Proper.{is_proper}
use Rattle.tb_terms.specs.Sizes.{IsWithinLimits}
use Rattle.tb_terms.specs.Texts.{term_text, terms_text, quoted, escaped, escape_letter, with_letter}
use Rattle.tb_terms.specs.declared.term.Term.{Term}
use Rattle.tb_read.proofs.Written.{written_reads}
use Rattle.tb_log_read.specs.Helpers.Parts.{plain_after, after, is_cut, onto, parts_from, parts}
use Rattle.tb_log_read.specs.Helpers.Terms.{term_of, all_terms, terms_of}
use Rattle.tb_log_read.specs.declared.part.Standing.{Standing}
use Rattle.tb_log_read.specs.declared.part.Standing.TheVariants.{Plain, Quoted, Escaped}
use Rattle.tb_log_read.proofs.Readings.{term_of-reads}
use Rattle.tb_log_read.proofs.Texts.{term_texted}

abbrev onto_all : List ℕ → List (List ℕ) → List (List ℕ)
onto_all [] ps = ps
onto_all (x ∷ xs) ps = onto x (onto_all xs ps)

onto_all-append : (xs ys : List ℕ) (ps : List (List ℕ)) → onto_all (xs ++ ys) ps ≡ onto_all xs (onto_all ys ps)
onto_all-append [] ys ps = refl
onto_all-append (x ∷ xs) ys ps = ap (onto x) (onto_all-append xs ys ps)

onto_all-first : (xs p : List ℕ) (ps : List (List ℕ)) → onto_all xs (p ∷ ps) ≡ (xs ++ p) ∷ ps
onto_all-first [] p ps = refl
onto_all-first (x ∷ xs) p ps = ap (onto x) (onto_all-first xs p ps)

-- these bytes lead from one state to the other, and no part ends in them
abbrev Skips : Standing → Standing → List ℕ → Type 0
Skips s t xs = (rest : List ℕ) → parts_from s (xs ++ rest) ≡ onto_all xs (parts_from t rest)

skips_more : (s t u : Standing) (xs ys : List ℕ) → Skips s t xs → Skips t u ys → Skips s u (xs ++ ys)
skips_more s t u xs ys p q rest =
    ap (parts_from s) (append_assoc xs ys rest) ∙ p (ys ++ rest) ∙ ap (onto_all xs) (q rest) ∙ sym (onto_all-append xs ys (parts_from u rest))

skips_one : (s t : Standing) (b : ℕ) → is_cut s b ≡ false → after s b ≡ t → Skips s t (b ∷ [])
skips_one s t b e f rest = rw (e, f) refl

-- Plain bytes.

other : (b s : ℕ) → is_name_byte b ≡ true → is_name_byte s ≡ false → eqb b s ≡ false
other b s h f = false_from_ne_true (eqb b s) (λ e. false≢true (sym f ∙ ap is_name_byte (sym (eqb-true b s e)) ∙ h))

plain_goes : (d b : ℕ) → is_name_byte b ≡ true → plain_after d b ≡ Plain d
plain_goes d b h = rw (other b 34 h refl, other b 40 h refl, other b 91 h refl, other b 41 h refl, other b 93 h refl) refl

plain_skips : (d b : ℕ) → is_name_byte b ≡ true → Skips (Plain d) (Plain d) (b ∷ [])
plain_skips d b h = skips_one (Plain d) (Plain d) b (and_right (eqb d 0) (eqb b 44) (other b 44 h refl)) (plain_goes d b h)

-- Strings.

abbrev Unquoted : ℕ → Type 0
Unquoted b = (eqb b 92 ≡ false) × (eqb b 34 ≡ false)

unquoted : (b : ℕ) → escape_letter b ≡ None → Unquoted b
unquoted b e = by (eqb b 92) (eqb b 34) refl refl e where
  by : (p q : Bool) → eqb b 92 ≡ p → eqb b 34 ≡ q → cond {A = Option ℕ} p (Some 92) (cond q (Some 34) (cond (eqb b 10) (Some 110) (cond (eqb b 13) (Some 114) (cond (eqb b 9) (Some 116) None)))) ≡ None → Unquoted b
  by true q ep eq e = cc
  by false true ep eq e = cc
  by false false ep eq e = (ep, eq)

byte_skips : (d b : ℕ) (o : Option ℕ) → escape_letter b ≡ o → Skips (Quoted d) (Quoted d) (with_letter b o)
byte_skips d b None e =
    let u = unquoted b e in
    let goes : after (Quoted d) b ≡ Quoted d = rw (u.1, u.0) refl in
    skips_one (Quoted d) (Quoted d) b refl goes
byte_skips d b (Some l) e = skips_more (Quoted d) (Escaped d) (Quoted d) (92 ∷ []) (l ∷ []) (skips_one (Quoted d) (Escaped d) 92 refl refl) (skips_one (Escaped d) (Quoted d) l refl refl)

bytes_skip : (d : ℕ) (s : List ℕ) → Skips (Quoted d) (Quoted d) (flat_map escaped s)
bytes_skip d [] = λ rest. refl
bytes_skip d (b ∷ s) = skips_more (Quoted d) (Quoted d) (Quoted d) (escaped b) (flat_map escaped s) (byte_skips d b (escape_letter b) refl) (bytes_skip d s)

string_skips : (d : ℕ) (s : List ℕ) → Skips (Plain d) (Plain d) (quoted s)
string_skips d s =
    let opens : Skips (Plain d) (Quoted d) (34 ∷ []) = skips_one (Plain d) (Quoted d) 34 (and_right (eqb d 0) false refl) refl in
    let close : Skips (Quoted d) (Plain d) (34 ∷ []) = skips_one (Quoted d) (Plain d) 34 refl refl in
    let inner = skips_more (Plain d) (Quoted d) (Quoted d) (34 ∷ []) (flat_map escaped s) opens (bytes_skip d s) in
    skips_more (Plain d) (Quoted d) (Plain d) (34 ∷ flat_map escaped s) (34 ∷ []) inner close

-- Brackets.

no_cut : (d b : ℕ) → is_cut (Plain (suc d)) b ≡ false
no_cut d b = let deep : eqb (suc d) 0 ≡ false = ne_eqb (suc d) 0 (λ e. absurd (omega arith)) in rw deep refl

bracket_skips : (d o c : ℕ) (xs : List ℕ) → is_cut (Plain d) o ≡ false → after (Plain d) o ≡ Plain (d + 1) → after (Plain (suc d)) c ≡ Plain (suc d - 1) → Skips (Plain (suc d)) (Plain (suc d)) xs → Skips (Plain d) (Plain d) ((o ∷ xs) ++ (c ∷ []))
bracket_skips d o c xs eo fo fc p =
    let up : after (Plain d) o ≡ Plain (suc d) = fo ∙ ap Plain (add-one d) in
    let down : after (Plain (suc d)) c ≡ Plain d = fc ∙ ap Plain (let e : suc d - 1 ≡ d = omega arith in e) in
    let opened = skips_more (Plain d) (Plain (suc d)) (Plain (suc d)) (o ∷ []) xs (skips_one (Plain d) (Plain (suc d)) o eo up) p in
    skips_more (Plain d) (Plain (suc d)) (Plain d) (o ∷ xs) (c ∷ []) opened (skips_one (Plain (suc d)) (Plain d) c (no_cut d c) down)

-- Terms.

term_skips : (t : Term) → is_proper t ≡ true → (d : ℕ) → Skips (Plain d) (Plain d) (term_text t)
term_skips =
    let Q : ℕ → List ℕ → Type 0 = λ d xs. Skips (Plain d) (Plain d) xs in
    term_texted Q (λ d rest. refl) (λ d xs ys p q. skips_more (Plain d) (Plain d) (Plain d) xs ys p q) plain_skips (λ d s h. string_skips d s)
    (λ d. skips_one (Plain (suc d)) (Plain (suc d)) 44 (no_cut d 44) refl)
    (λ d xs p. bracket_skips d 40 41 xs (and_right (eqb d 0) false refl) refl refl p)
    (λ d xs p. bracket_skips d 91 93 xs (and_right (eqb d 0) false refl) refl refl p)

pub parts-terms_text : (t : Term) (ts : List Term) → list_all is_proper (t ∷ ts) ≡ true → parts (terms_text (t ∷ ts)) ≡ map term_text (t ∷ ts)
parts-terms_text t [] h =
    let p = and_parts (is_proper t) true h in
    ap parts (sym (append-nil (term_text t))) ∙ term_skips t p.0 0 [] ∙ onto_all-first (term_text t) [] [] ∙ ap (λ (l : List ℕ). l ∷ []) (append-nil (term_text t))
parts-terms_text t (u ∷ ts) h =
    let p = and_parts (is_proper t) (list_all is_proper (u ∷ ts)) h in
    let more = terms_text (u ∷ ts) in
    term_skips t p.0 0 (44 ∷ more) ∙ onto_all-first (term_text t) [] (parts more)
    ∙ ap (λ (l : List ℕ). l ∷ parts more) (append-nil (term_text t)) ∙ ap (λ (l : List (List ℕ)). term_text t ∷ l) (parts-terms_text u ts p.1)

-- Reading.

pub term_of-text : (t : Term) → is_proper t ≡ true → IsWithinLimits t → term_of (term_text t) ≡ Some t
term_of-text t h w = term_of-reads (term_text t) t (written_reads t h) w

all_terms-texts : (ts : List Term) → list_all is_proper ts ≡ true → All IsWithinLimits ts → all_terms (map term_text ts) ≡ Some ts
all_terms-texts [] h w = refl
all_terms-texts (t ∷ ts) h w =
    let p = and_parts (is_proper t) (list_all is_proper ts) h in
    rw (term_of-text t p.0 (All-head IsWithinLimits t ts w), all_terms-texts ts p.1 (All-tail IsWithinLimits t ts w)) refl

pub terms_of-text : (t : Term) (ts : List Term) → list_all is_proper (t ∷ ts) ≡ true → All IsWithinLimits (t ∷ ts) → terms_of (terms_text (t ∷ ts)) ≡ Some (t ∷ ts)
terms_of-text t ts h w = ap all_terms (parts-terms_text t ts h) ∙ all_terms-texts (t ∷ ts) h w
