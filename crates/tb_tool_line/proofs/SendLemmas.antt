-- The text of a line for a tool fits the room for it.
use Rattle.std.proofs.Common.{◌≡◌, ℤ, ℕ, ◌≤◌, Bool, true, false, ◌&&◌, ◌||◌, ◌==◌, nat_le, List, length, map, sum, codes, subst, sym, refl, arith}
use Rattle.std.specs.List.{AllByRecursion}
use Rattle.std.specs.Str.{bytes_eq}
use Rattle.std.proofs.lemmas.Slice.Eq.{bytes_eq-Decides}
use Rattle.std.proofs.lemmas.Bool.{false≢true}
use Rattle.tb_terms.specs.declared.term.Term.{Term, Term-F, out-Term}
use Rattle.tb_terms.specs.declared.term.Term.TheVariants as term
use Rattle.tb_terms.specs.declared.term.Term.TheVariants.{outs-Int, outs-Str, outs-Appl, outs-List}
use Rattle.tb_terms.specs.declared.term.Term.TheOpen as layer
use Rattle.tb_terms.specs.Proper.{is_proper}
use Rattle.tb_terms.specs.Sizes.{term_size}
use Rattle.tb_terms.specs.Texts.{term_text}
use Rattle.tb_terms.proofs.Induction.{term_induction}
use Rattle.tb_terms.proofs.TextLengths.{appl-text-short}
use Rattle.tb_log.specs.Shapes.{has_parts, IsForTool}

-- the longest of the four names has 13 bytes
named : (word name : List ℕ) (more : Bool) → length word ≤ 13 → (bytes_eq name word && more) ≡ true → length name ≤ 13
named word name more short h = by (bytes_eq name word) refl h where
  by : (b : Bool) → bytes_eq name word ≡ b → (b && more) ≡ true → length name ≤ 13
  by true e k = subst (λ (w : List ℕ). length w ≤ 13) (sym ((bytes_eq-Decides name word).0 e)) short
  by false e k = absurd (false≢true k)

either : (P : Type 0) (a b : Bool) → (a ≡ true → P) → (b ≡ true → P) → (a || b) ≡ true → P
either P true b left right h = left refl
either P false b left right h = right h

name-short : (name : List ℕ) (count : ℕ) → has_parts name count ≡ true → length name ≤ 13
name-short name count =
    either (length name ≤ 13) ((bytes_eq name (codes "rec-eval") && (count == 1)) || (bytes_eq name (codes "rec-do") && (count == 1)) || (bytes_eq name (codes "rec-terminate") && (count == 1))) (bytes_eq name (codes "rec-ack-event") && nat_le 1 count)
    (either (length name ≤ 13) ((bytes_eq name (codes "rec-eval") && (count == 1)) || (bytes_eq name (codes "rec-do") && (count == 1))) (bytes_eq name (codes "rec-terminate") && (count == 1))
    (either (length name ≤ 13) (bytes_eq name (codes "rec-eval") && (count == 1)) (bytes_eq name (codes "rec-do") && (count == 1))
    (named (codes "rec-eval") name (count == 1) (omega arith))
    (named (codes "rec-do") name (count == 1) (omega arith)))
    (named (codes "rec-terminate") name (count == 1) (omega arith)))
    (named (codes "rec-ack-event") name (nat_le 1 count) (omega arith))

abbrev Fits : Term → Type 0
Fits t = is_proper t ≡ true → IsForTool (out-Term t) → length (term_text t) ≤ 1376320

not-here : (t : Term) (l : Term-F Term) → out-Term t ≡ l → (IsForTool l → ⊥) → Fits t
not-here t l e none proper shape = absurd (none (subst IsForTool e shape))

int-fits : (n : ℤ) → Fits (term.Int n)
int-fits n = not-here (term.Int n) (layer.Int n) (outs-Int n) (λ h. h)

str-fits : (s : List ℕ) → Fits (term.Str s)
str-fits s = not-here (term.Str s) (layer.Str s) (outs-Str s) (λ h. h)

appl-fits : (name : List ℕ) (parts : List Term) → AllByRecursion Fits parts → Fits (term.Appl name parts)
appl-fits name parts each proper shape =
    let here : IsForTool (layer.Appl name parts) = subst IsForTool (outs-Appl name parts) shape in
    let short : length name ≤ 13 = name-short name (length parts) here.0 in
    let together : sum (map term_size parts) ≤ 65536 = here.1.together in
    let text = appl-text-short name parts proper in
    omega (arith, short, together, text)

list-fits : (parts : List Term) → AllByRecursion Fits parts → Fits (term.List parts)
list-fits parts each = not-here (term.List parts) (layer.List parts) (outs-List parts) (λ h. h)

pub line-fits : (t : Term) → is_proper t ≡ true → IsForTool (out-Term t) → length (term_text t) ≤ 1376320
line-fits = term_induction Fits int-fits str-fits appl-fits list-fits
