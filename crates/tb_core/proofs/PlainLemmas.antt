-- Subscribed patterns take no terms: the expressions of such an atom have no result variables, so the patterns have none either.
use Rattle.std.proofs.Common.{◌≡◌, ℕ, Bool, true, List, [], ◌∷◌, map, Option, Some, None, IfSome, option_map, option_and_then, refl, ap, sym, ◌∙◌, subst}
use Rattle.std.proofs.lemmas.Bool.{and_from, and_parts, false≢true}
use Rattle.std.specs.List.{AllByRecursion, list_all}
use Rattle.tb_terms.specs.declared.term.Term.{Term}
use Rattle.tb_terms.specs.declared.term.Term.TheVariants as term
use Rattle.tb_terms.specs.declared.sort.Sort.{Sort}
use Rattle.tb_terms.specs.declared.expr.Func.{Func}
use Rattle.tb_terms.specs.declared.expr.Expr.{Expr, Expr-F, map-Expr, fold-roll-Expr, ind-Expr, roll-Expr}
use Rattle.tb_terms.specs.declared.expr.Expr.TheOpen as layer
use Rattle.tb_terms.specs.declared.pattern.Pattern.{Pattern, Pattern-F, map-Pattern, out-Pattern, fold_out-Pattern}
use Rattle.tb_terms.specs.declared.pattern.Pattern.TheOpen as pattern_layer
use Rattle.tb_terms.specs.declared.pattern.Pattern.TheVariants as pattern
use Rattle.tb_terms.specs.declared.pattern.Pattern.TheVariants.{outs-Fixed, outs-Hole, outs-Appl, outs-List}
use Rattle.tb_func.specs.declared.slot.Slot.{Slot}
use Rattle.tb_func.specs.Apply.{apply_of}
use Rattle.tb_func.specs.Arguments.{of_both}
use Rattle.tb_func.specs.Limits.{limited}
use Rattle.tb_func.specs.Patterns.{pattern_of, pattern_step, of_parts, fixed_terms, appl_pattern, call_pattern, list_pattern}
use Rattle.tb_func.specs.Stores.{value_at}
use Rattle.tb_func.specs.Values.{all_of}
use Rattle.tb_match.specs.Matches.{is_plain, plain_step, are_plain}
use Rattle.tb_body.specs.Exprs.{Positions, positions_of, positions_step, is_test}
use Rattle.tb_body.specs.Acts.{some_and_all}
use Rattle.tb_process_steps.specs.Atoms.{patterns_of}

abbrev Plain : Pattern → Type 0
Plain p = is_plain p ≡ true

opened : (p : Pattern) (w : Pattern-F Pattern) → out-Pattern p ≡ w → is_plain p ≡ plain_step (map-Pattern Pattern Bool is_plain w)
opened p w e = fold_out-Pattern Bool plain_step p ∙ ap (λ (v : Pattern-F Pattern). plain_step (map-Pattern Pattern Bool is_plain v)) e

all-plain : (ps : List Pattern) → AllByRecursion Plain ps → list_all (λ part. part) (map is_plain ps) ≡ true
all-plain [] h = refl
all-plain (p ∷ ps) h = and_from (is_plain p) (list_all (λ part. part) (map is_plain ps)) h.0 (all-plain ps h.1)

fixed-plain : (t : Term) → Plain (pattern.Fixed t)
fixed-plain t = opened (pattern.Fixed t) (pattern_layer.Fixed t) (outs-Fixed t)

hole-plain : (s : Sort) → Plain (pattern.Hole s)
hole-plain s = opened (pattern.Hole s) (pattern_layer.Hole s) (outs-Hole s)

appl-plain : (name : List ℕ) (ps : List Pattern) → AllByRecursion Plain ps → Plain (pattern.Appl name ps)
appl-plain name ps h = opened (pattern.Appl name ps) (pattern_layer.Appl name ps) (outs-Appl name ps) ∙ all-plain ps h

list-plain : (ps : List Pattern) → AllByRecursion Plain ps → Plain (pattern.List ps)
list-plain ps h = opened (pattern.List ps) (pattern_layer.List ps) (outs-List ps) ∙ all-plain ps h

-- patterns that are found

abbrev FoundPlain : Option Pattern → Type 0
FoundPlain found = IfSome found Plain

abbrev AllPlain : Option (List Pattern) → Type 0
AllPlain found = IfSome found (AllByRecursion Plain)

maybe_fixed-plain : (o : Option Term) → FoundPlain (option_map pattern.Fixed o)
maybe_fixed-plain None = tt
maybe_fixed-plain (Some t) = fixed-plain t

of_parts-plain : (value : List Term → Option Term) (other : Pattern) (o : Option (List Term)) → Plain other → FoundPlain (of_parts value other o)
of_parts-plain value other None h = h
of_parts-plain value other (Some ts) h = maybe_fixed-plain (value ts)

cons-plain : (o : Option Pattern) (os : Option (List Pattern)) → FoundPlain o → AllPlain os → AllPlain (of_both (λ x xs. Some (x ∷ xs)) o os)
cons-plain None os h k = tt
cons-plain (Some p) None h k = tt
cons-plain (Some p) (Some ps) h k = (h, k)

all_of-plain : (os : List (Option Pattern)) → AllByRecursion FoundPlain os → AllPlain (all_of os)
all_of-plain [] h = tt
all_of-plain (o ∷ os) h = cons-plain o (all_of os) h.0 (all_of-plain os h.1)

then_appl-plain : (name : List ℕ) (o : Option (List Pattern)) → AllPlain o → FoundPlain (option_and_then (appl_pattern name) o)
then_appl-plain name None h = tt
then_appl-plain name (Some ps) h = of_parts-plain (λ ts. limited (term.Appl name ts)) (pattern.Appl name ps) (fixed_terms ps) (appl-plain name ps h)

then_list-plain : (o : Option (List Pattern)) → AllPlain o → FoundPlain (option_and_then list_pattern o)
then_list-plain None h = tt
then_list-plain (Some ps) h = of_parts-plain (λ ts. limited (term.List ts)) (pattern.List ps) (fixed_terms ps) (list-plain ps h)

then_call-plain : (func : Func) (o : Option (List Pattern)) → FoundPlain (option_and_then (call_pattern func) o)
then_call-plain func None = tt
then_call-plain func (Some ps) = maybe_fixed-plain (option_and_then (apply_of func) (fixed_terms ps))

-- expressions without result variables

module _ (slots : ℕ) (store : List Slot) where
  abbrev IsTestPlain : Expr → Type 0
  IsTestPlain e = is_test slots e ≡ true → FoundPlain (pattern_of store e)

  abbrev Shown : Type 0
  Shown = (e : Expr) × IsTestPlain e

  abbrev exprs_of : List Shown → List Expr
  exprs_of ps = map (λ (p : Shown). p.0) ps

  parts-plain : (ps : List Shown) → list_all (λ (part : Positions). part.test) (map (positions_of slots) (exprs_of ps)) ≡ true → AllByRecursion FoundPlain (map (pattern_of store) (exprs_of ps))
  parts-plain [] h = tt
  parts-plain (p ∷ ps) h =
      let parts = and_parts (is_test slots p.0) (list_all (λ (part : Positions). part.test) (map (positions_of slots) (exprs_of ps))) h in
      (p.1 parts.0, parts-plain ps parts.1)

  abbrev IsPlainLayer : Expr-F Expr → Type 0
  IsPlainLayer x = (positions_step slots (map-Expr Expr Positions (positions_of slots) x)).test ≡ true → FoundPlain (pattern_step store (map-Expr Expr (Option Pattern) (pattern_of store) x))

  layer-plain : (y : Expr-F Shown) → IsPlainLayer (map-Expr Shown Expr (λ s. s.0) y)
  layer-plain (layer.Int n) h = fixed-plain (term.Int n)
  layer-plain (layer.Str s) h = maybe_fixed-plain (limited (term.Str s))
  layer-plain (layer.Var slot) h = maybe_fixed-plain (value_at store slot)
  layer-plain (layer.Result slot) h = absurd (false≢true h)
  layer-plain (layer.Hole sort) h = hole-plain sort
  layer-plain (layer.Appl name ps) h = then_appl-plain name (all_of (map (pattern_of store) (exprs_of ps))) (all_of-plain (map (pattern_of store) (exprs_of ps)) (parts-plain ps h))
  layer-plain (layer.Call func ps) h = then_call-plain func (all_of (map (pattern_of store) (exprs_of ps)))
  layer-plain (layer.List ps) h = then_list-plain (all_of (map (pattern_of store) (exprs_of ps))) (all_of-plain (map (pattern_of store) (exprs_of ps)) (parts-plain ps h))

  rolled : (x : Expr-F Expr) → IsPlainLayer x → IsTestPlain (roll-Expr x)
  rolled x f h =
      subst FoundPlain (sym (fold-roll-Expr (Option Pattern) (pattern_step store) x))
      (f (ap (λ (p : Positions). p.test) (sym (fold-roll-Expr Positions (positions_step slots) x)) ∙ h))

  test-plain : (e : Expr) → IsTestPlain e
  test-plain = ind-Expr IsTestPlain step where
    step : (x : Expr-F Expr) (y : Expr-F Shown) → map-Expr Shown Expr (λ s. s.0) y ≡ x → IsTestPlain (roll-Expr x)
    step x y e = rolled x (subst IsPlainLayer e (layer-plain y))

  exprs-plain : (exprs : List Expr) → list_all (is_test slots) exprs ≡ true → AllByRecursion FoundPlain (map (pattern_of store) exprs)
  exprs-plain [] h = tt
  exprs-plain (e ∷ exprs) h =
      let parts = and_parts (is_test slots e) (list_all (is_test slots) exprs) h in
      (test-plain e parts.0, exprs-plain exprs parts.1)

  some-plain : (exprs : List Expr) → some_and_all (is_test slots) exprs ≡ true → AllByRecursion FoundPlain (map (pattern_of store) exprs)
  some-plain [] h = absurd (false≢true h)
  some-plain (e ∷ exprs) h = exprs-plain (e ∷ exprs) h

  found-plain : (o : Option (List Pattern)) (patterns : List Pattern) → AllPlain o → o ≡ Some patterns → are_plain patterns ≡ true
  found-plain None patterns h e = cc
  found-plain (Some ps) patterns h e = let same : ps ≡ patterns = cc in ap are_plain (sym same) ∙ all-plain ps h

  -- the patterns of such expressions are plain
  pub patterns-plain : (exprs : List Expr) (patterns : List Pattern) → some_and_all (is_test slots) exprs ≡ true → patterns_of store exprs ≡ Some patterns → are_plain patterns ≡ true
  patterns-plain exprs patterns h e = found-plain (patterns_of store exprs) patterns (all_of-plain (map (pattern_of store) exprs) (some-plain exprs h)) e
