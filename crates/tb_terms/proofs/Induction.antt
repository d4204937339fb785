-- Induction over terms, and what a fold gives at each kind of term.
use Rattle.std.proofs.Common.{◌≡◌, ℤ, ℕ, List, [], ◌∷◌, map, sym, ap, ◌∙◌, subst}
use Rattle.std.specs.List.{AllByRecursion}
use Rattle.tb_terms.specs.declared.term.Term.{Term, Term-F, map-Term, fold-Term, fold_out-Term, ind-Term, roll-Term}
use Rattle.tb_terms.specs.declared.term.Term.TheVariants as term
use Rattle.tb_terms.specs.declared.term.Term.TheVariants.{rolls-Int, rolls-Str, rolls-Appl, rolls-List, outs-Int, outs-Str, outs-Appl, outs-List}
use Rattle.tb_terms.specs.declared.term.Term.TheOpen as layer

abbrev Shown : (Term → Type 0) → Type 0
Shown P = (t : Term) × P t

each : (P : Term → Type 0) (ps : List (Shown P)) → AllByRecursion P (map (λ (p : Shown P). p.0) ps)
each P [] = tt
each P (p ∷ ps) = (p.1, each P ps)

pub term_induction : (P : Term → Type 0) → ((n : ℤ) → P (term.Int n)) → ((s : List ℕ) → P (term.Str s)) → ((n : List ℕ) (ts : List Term) → AllByRecursion P ts → P (term.Appl n ts)) → ((ts : List Term) → AllByRecursion P ts → P (term.List ts)) → (t : Term) → P t
term_induction P int str appl list = ind-Term P step where
  step : (x : Term-F Term) (y : Term-F (Shown P)) → map-Term (Shown P) Term (λ e. e.0) y ≡ x → P (roll-Term x)
  step x (layer.Int n) e = subst (λ (w : Term-F Term). P (roll-Term w)) e (subst P (sym (rolls-Int n)) (int n))
  step x (layer.Str s) e = subst (λ (w : Term-F Term). P (roll-Term w)) e (subst P (sym (rolls-Str s)) (str s))
  step x (layer.Appl n ps) e = subst (λ (w : Term-F Term). P (roll-Term w)) e (subst P (sym (rolls-Appl n (map (λ (p : Shown P). p.0) ps))) (appl n _ (each P ps)))
  step x (layer.List ps) e = subst (λ (w : Term-F Term). P (roll-Term w)) e (subst P (sym (rolls-List (map (λ (p : Shown P). p.0) ps))) (list _ (each P ps)))

module _ (A : Type 0) (step : Term-F A → A) where
  pub fold-Int : (n : ℤ) → fold-Term A step (term.Int n) ≡ step (layer.Int n)
  fold-Int n = fold_out-Term A step (term.Int n) ∙ ap (λ (w : Term-F Term). step (map-Term Term A (fold-Term A step) w)) (outs-Int n)

  pub fold-Str : (s : List ℕ) → fold-Term A step (term.Str s) ≡ step (layer.Str s)
  fold-Str s = fold_out-Term A step (term.Str s) ∙ ap (λ (w : Term-F Term). step (map-Term Term A (fold-Term A step) w)) (outs-Str s)

  pub fold-Appl : (n : List ℕ) (ts : List Term) → fold-Term A step (term.Appl n ts) ≡ step (layer.Appl n (map (fold-Term A step) ts))
  fold-Appl n ts = fold_out-Term A step (term.Appl n ts) ∙ ap (λ (w : Term-F Term). step (map-Term Term A (fold-Term A step) w)) (outs-Appl n ts)

  pub fold-List : (ts : List Term) → fold-Term A step (term.List ts) ≡ step (layer.List (map (fold-Term A step) ts))
  fold-List ts = fold_out-Term A step (term.List ts) ∙ ap (λ (w : Term-F Term). step (map-Term Term A (fold-Term A step) w)) (outs-List ts)
