-- The terms of patterns, if all are fixed and if one is open.
use Rattle.std.proofs.Common.{◌≡◌, Bool, true, not, ◌||◌, IsTrue, Option, Some, None, List, [], ◌∷◌, map, refl, ap, ◌∙◌, rules}
use Rattle.std.specs.Option.{is_some}
use Rattle.tb_terms.specs.declared.term.Term.{Term}
use Rattle.tb_terms.specs.declared.pattern.Pattern.{Pattern}
use Rattle.tb_terms.specs.declared.pattern.Pattern.TheVariants as pattern
use Rattle.tb_func.specs.Arguments.{of_both}
use Rattle.tb_func.specs.Helpers.Opens.{has_open}
use Rattle.tb_func.specs.Patterns.{fixed_in, fixed_term, fixed_terms}

term_of_fixed : (t : Term) → ◌≡◌ {A = Option Term} (fixed_term (pattern.Fixed t)) (Some t)
term_of_fixed t = ap fixed_in (pattern.outs-Fixed t)

pub fixed_terms_fixed : (ts : List Term) → ◌≡◌ {A = Option (List Term)} (fixed_terms (map pattern.Fixed ts)) (Some ts)
fixed_terms_fixed [] = refl
fixed_terms_fixed (t ∷ ts) =
    ap (λ (x : Option Term). of_both (λ y ys. Some (y ∷ ys)) x (fixed_terms (map pattern.Fixed ts))) (term_of_fixed t)
    ∙ ap (λ (rest : Option (List Term)). of_both (λ y ys. Some (y ∷ ys)) (Some t) rest) (fixed_terms_fixed ts)

fixed_terms-step : (x : Option Term) (rest : Option (List Term)) (b : Bool) → (b ≡ true → rest ≡ None) → (not (is_some x) || b) ≡ true → ◌≡◌ {A = Option (List Term)} (of_both (λ y ys. Some (y ∷ ys)) x rest) None
fixed_terms-step None rest b f h = refl
fixed_terms-step (Some t) rest b f h = ap (λ r. of_both (λ y ys. Some (y ∷ ys)) (Some t) r) (f h)

fixed_terms_opened : (ps : List Pattern) → has_open ps ≡ true → ◌≡◌ {A = Option (List Term)} (fixed_terms ps) None
fixed_terms_opened [] h = cc
fixed_terms_opened (p ∷ ps) h = fixed_terms-step (fixed_term p) (fixed_terms ps) (has_open ps) (fixed_terms_opened ps) h

pub fixed_terms_open : (ps : List Pattern) → IsTrue (has_open ps) → ◌≡◌ {A = Option (List Term)} (fixed_terms ps) None
fixed_terms_open ps h = fixed_terms_opened ps (search rules)
