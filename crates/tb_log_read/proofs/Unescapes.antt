-- A string that was written reads back.
use Rattle.std.proofs.Common.{◌≡◌, ℕ, Bool, true, false, cond, eqb, List, [], ◌∷◌, ◌++◌, Option, Some, None, refl, ap, sym, ◌∙◌}
use Rattle.std.specs.List.{flat_map}
use Rattle.std.proofs.lemmas.Bool.{eqb-true}
use Rattle.tb_terms.specs.Texts.{escaped, escape_letter, with_letter}
use Rattle.tb_log_read.specs.Helpers.Unescaping.{unescaped_from}

-- one byte, with whatever follows
escape_read : (b : ℕ) (rest : List ℕ) → unescaped_from false (with_letter b (escape_letter b) ++ rest) ≡ b ∷ unescaped_from false rest
escape_read b rest = by (eqb b 92) (eqb b 34) (eqb b 10) (eqb b 13) (eqb b 9) refl refl refl refl refl where
  by : (p q r s t : Bool) → eqb b 92 ≡ p → eqb b 34 ≡ q → eqb b 10 ≡ r → eqb b 13 ≡ s → eqb b 9 ≡ t → unescaped_from false (with_letter b (cond {A = Option ℕ} p (Some 92) (cond q (Some 34) (cond r (Some 110) (cond s (Some 114) (cond t (Some 116) None))))) ++ rest) ≡ b ∷ unescaped_from false rest
  by true q r s t ep eq er es et = ap (λ (c : ℕ). c ∷ unescaped_from false rest) (sym (eqb-true b 92 ep))
  by false true r s t ep eq er es et = ap (λ (c : ℕ). c ∷ unescaped_from false rest) (sym (eqb-true b 34 eq))
  by false false true s t ep eq er es et = ap (λ (c : ℕ). c ∷ unescaped_from false rest) (sym (eqb-true b 10 er))
  by false false false true t ep eq er es et = ap (λ (c : ℕ). c ∷ unescaped_from false rest) (sym (eqb-true b 13 es))
  by false false false false true ep eq er es et = ap (λ (c : ℕ). c ∷ unescaped_from false rest) (sym (eqb-true b 9 et))
  by false false false false false ep eq er es et = rw ep refl

pub unescaped-escaped : (s : List ℕ) → unescaped_from false (flat_map escaped s) ≡ s
unescaped-escaped [] = refl
unescaped-escaped (b ∷ s) = escape_read b (flat_map escaped s) ∙ ap (λ (l : List ℕ). b ∷ l) (unescaped-escaped s)
