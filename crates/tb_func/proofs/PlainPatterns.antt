-- The pattern of a plain expression is its value alone: by induction over the expression.
use Rattle.std.proofs.Common.{◌≡◌, Bool, true, List, [], ◌∷◌, map, Option, Some, None, option_map, option_and_then, refl, sym, ap, ◌∙◌, subst}
use Rattle.std.proofs.lemmas.Bool.{and_parts, false≢true}
use Rattle.std.specs.List.{list_all}
use Rattle.tb_terms.specs.declared.term.Term.{Term}
use Rattle.tb_terms.specs.declared.term.Term.TheVariants as term
use Rattle.tb_terms.specs.declared.expr.Func.{Func}
use Rattle.tb_terms.specs.declared.expr.Expr.{Expr, Expr-F, map-Expr, fold-roll-Expr, ind-Expr, roll-Expr}
use Rattle.tb_terms.specs.declared.expr.Expr.TheOpen as layer
use Rattle.tb_terms.specs.declared.pattern.Pattern.{Pattern}
use Rattle.tb_terms.specs.declared.pattern.Pattern.TheVariants as pattern
use Rattle.tb_terms.specs.declared.pattern.Pattern.TheVariants.{outs-Fixed}
use Rattle.tb_func.specs.declared.slot.Slot.{Slot}
use Rattle.tb_func.specs.Apply.{apply_of}
use Rattle.tb_func.specs.Arguments.{of_both}
use Rattle.tb_func.specs.Limits.{limited}
use Rattle.tb_func.specs.Patterns.{pattern_of, pattern_step, is_plain, plain_step, fixed_in, fixed_term, fixed_terms, of_parts, appl_pattern, call_pattern, list_pattern}
use Rattle.tb_func.specs.Values.{all_of, value_of, value_step}

-- fixed patterns give back their terms

fixed_term-Fixed : (t : Term) → fixed_term (pattern.Fixed t) ≡ Some t
fixed_term-Fixed t = ap fixed_in (outs-Fixed t)

abbrev cons : Option Term → Option (List Term) → Option (List Term)
cons first others = of_both (λ x xs. Some (x ∷ xs)) first others

fixed_terms-Fixed : (ts : List Term) → fixed_terms (map pattern.Fixed ts) ≡ Some ts
fixed_terms-Fixed [] = refl
fixed_terms-Fixed (t ∷ ts) = ap (λ o. cons o (fixed_terms (map pattern.Fixed ts))) (fixed_term-Fixed t) ∙ ap (λ os. cons (Some t) os) (fixed_terms-Fixed ts)

abbrev fixed : Option Term → Option Pattern
fixed o = option_map pattern.Fixed o

abbrev all_fixed : Option (List Term) → Option (List Pattern)
all_fixed o = option_map (map pattern.Fixed) o

cons-fixed : (o : Option Term) (os : Option (List Term)) → ◌≡◌ {A = Option (List Pattern)} (of_both (λ x xs. Some (x ∷ xs)) (fixed o) (all_fixed os)) (all_fixed (cons o os))
cons-fixed None os = refl
cons-fixed (Some t) None = refl
cons-fixed (Some t) (Some ts) = refl

of_fixed_parts : (f : List Term → Option Term) (other : List Pattern → Pattern) (o : Option (List Term)) → ◌≡◌ {A = Option Pattern} (option_and_then (λ ps. of_parts f (other ps) (fixed_terms ps)) (all_fixed o)) (fixed (option_and_then f o))
of_fixed_parts f other None = refl
of_fixed_parts f other (Some ts) = ap (of_parts f (other (map pattern.Fixed ts))) (fixed_terms-Fixed ts)

of_fixed_call : (func : Func) (o : Option (List Term)) → ◌≡◌ {A = Option Pattern} (option_and_then (call_pattern func) (all_fixed o)) (fixed (option_and_then (apply_of func) o))
of_fixed_call func None = refl
of_fixed_call func (Some ts) = ap (λ os. fixed (option_and_then (apply_of func) os)) (fixed_terms-Fixed ts)

abbrev IsFixed : List Slot → Expr → Type 0
IsFixed slots e = is_plain e ≡ true → pattern_of slots e ≡ fixed (value_of slots e)

abbrev Shown : List Slot → Type 0
Shown slots = (e : Expr) × IsFixed slots e

abbrev exprs_of : (slots : List Slot) → List (Shown slots) → List Expr
exprs_of slots ps = map (λ (p : Shown slots). p.0) ps

parts-fixed : (slots : List Slot) (ps : List (Shown slots)) → list_all (λ part. part) (map is_plain (exprs_of slots ps)) ≡ true → all_of (map (pattern_of slots) (exprs_of slots ps)) ≡ all_fixed (all_of (map (value_of slots) (exprs_of slots ps)))
parts-fixed slots [] h = refl
parts-fixed slots (p ∷ ps) h =
    let es = exprs_of slots ps in
    let parts = and_parts (is_plain p.0) (list_all (λ part. part) (map is_plain es)) h in
    ap (λ (o : Option Pattern). of_both (λ x xs. Some (x ∷ xs)) o (all_of (map (pattern_of slots) es))) (p.1 parts.0)
    ∙ ap (λ (os : Option (List Pattern)). of_both (λ x xs. Some (x ∷ xs)) (fixed (value_of slots p.0)) os) (parts-fixed slots ps parts.1)
    ∙ cons-fixed (value_of slots p.0) (all_of (map (value_of slots) es))

-- one layer
abbrev IsFixedLayer : List Slot → Expr-F Expr → Type 0
IsFixedLayer slots x = plain_step (map-Expr Expr Bool is_plain x) ≡ true → pattern_step slots (map-Expr Expr (Option Pattern) (pattern_of slots) x) ≡ fixed (value_step slots (map-Expr Expr (Option Term) (value_of slots) x))

rolled : (slots : List Slot) (x : Expr-F Expr) → IsFixedLayer slots x → IsFixed slots (roll-Expr x)
rolled slots x f h =
    fold-roll-Expr (Option Pattern) (pattern_step slots) x
    ∙ f (sym (fold-roll-Expr Bool plain_step x) ∙ h)
    ∙ ap fixed (sym (fold-roll-Expr (Option Term) (value_step slots) x))

layer-fixed : (slots : List Slot) (y : Expr-F (Shown slots)) → IsFixedLayer slots (map-Expr (Shown slots) Expr (λ s. s.0) y)
layer-fixed slots (layer.Int n) h = refl
layer-fixed slots (layer.Str s) h = refl
layer-fixed slots (layer.Var slot) h = refl
layer-fixed slots (layer.Result slot) h = absurd (false≢true h)
layer-fixed slots (layer.Hole sort) h = absurd (false≢true h)
layer-fixed slots (layer.Appl name ps) h =
    ap (option_and_then (appl_pattern name)) (parts-fixed slots ps h)
    ∙ of_fixed_parts (λ ts. limited (term.Appl name ts)) (λ qs. pattern.Appl name qs) (all_of (map (value_of slots) (exprs_of slots ps)))
layer-fixed slots (layer.Call func ps) h =
    ap (option_and_then (call_pattern func)) (parts-fixed slots ps h)
    ∙ of_fixed_call func (all_of (map (value_of slots) (exprs_of slots ps)))
layer-fixed slots (layer.List ps) h =
    ap (option_and_then list_pattern) (parts-fixed slots ps h)
    ∙ of_fixed_parts (λ ts. limited (term.List ts)) (λ qs. pattern.List qs) (all_of (map (value_of slots) (exprs_of slots ps)))

pub plain-fixed : (slots : List Slot) (e : Expr) → is_plain e ≡ true → pattern_of slots e ≡ option_map pattern.Fixed (value_of slots e)
plain-fixed slots = ind-Expr (IsFixed slots) step where
  step : (x : Expr-F Expr) (y : Expr-F (Shown slots)) → map-Expr (Shown slots) Expr (λ s. s.0) y ≡ x → IsFixed slots (roll-Expr x)
  step x y e = rolled slots x (subst (IsFixedLayer slots) e (layer-fixed slots y))
