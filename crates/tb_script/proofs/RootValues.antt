-- The value of a root's argument is within the limits of terms.
use Rattle.std.proofs.Common.{◌≡◌, ℤ, Bool, true, false, List, [], Option, Some, None, option_and_then, refl, sym, subst, ◌∙◌, rules}
use Rattle.std.specs.Prelude.{if◌then◌else◌}
use Rattle.std.proofs.lemmas.Option.{same_Some, none-some}
use Rattle.tb_terms.specs.declared.term.Term.{Term, the_lemmas as term_lemmas}
use Rattle.tb_terms.specs.declared.term.Term.TheVariants as term
use Rattle.tb_terms.specs.declared.expr.Expr.{Expr, out-Expr}
use Rattle.tb_terms.specs.declared.expr.Expr.TheOpen as layer
use Rattle.tb_terms.specs.declared.expr.Expr.TheFolds.{fold_out-Expr, map-Expr}
use Rattle.tb_terms.specs.Sizes.{is_within_limits}
use Rattle.tb_func.specs.Apply.{apply_of, given}
use Rattle.tb_func.specs.Limits.{limited}
use Rattle.tb_func.specs.Values.{all_of, value_of, value_step}

kept : (u t : Term) (within : Bool) → is_within_limits u ≡ within → ◌≡◌ {A = Option Term} (if within then Some u else None) (Some t) → is_within_limits t ≡ true
kept u t true e is = subst (λ (v : Term). is_within_limits v ≡ true) (same_Some u t is) e
kept u t false e is = absurd (none-some t is)

limited_is : (u t : Term) → limited u ≡ Some t → is_within_limits t ≡ true
limited_is u t is = kept u t (is_within_limits u) refl is

and_then_is : {A : Type 0} (found : Option A) (f : A → Term) (t : Term) → option_and_then (λ x. limited (f x)) found ≡ Some t → is_within_limits t ≡ true
and_then_is None f t is = absurd (none-some t is)
and_then_is (Some x) f t is = limited_is (f x) t is

number_is_limited : (n : ℤ) → is_within_limits (term.Int n) ≡ true
unfolding is_within_limits
number_is_limited n = search (rules, term_lemmas)

applied_is : (found : Option Term) (t : Term) → option_and_then limited found ≡ Some t → is_within_limits t ≡ true
applied_is None t is = absurd (none-some t is)
applied_is (Some u) t is = limited_is u t is

call_is : (found : Option (List Term)) (t : Term) (apply : List Term → Option Term) → ((ts : List Term) → apply ts ≡ Some t → is_within_limits t ≡ true) → option_and_then apply found ≡ Some t → is_within_limits t ≡ true
call_is None t apply each is = absurd (none-some t is)
call_is (Some ts) t apply each is = each ts is

by_layer : (x : layer.Expr-F (Option Term)) (t : Term) → value_step [] x ≡ Some t → is_within_limits t ≡ true
by_layer (layer.Int n) t is = subst (λ (v : Term). is_within_limits v ≡ true) (same_Some (term.Int n) t is) (number_is_limited n)
by_layer (layer.Str bytes) t is = limited_is (term.Str bytes) t is
by_layer (layer.Var slot) t is = absurd (none-some t is)
by_layer (layer.Result slot) t is = absurd (none-some t is)
by_layer (layer.Hole sort) t is = absurd (none-some t is)
by_layer (layer.Appl name parts) t is = and_then_is (all_of parts) (λ ts. term.Appl name ts) t is
by_layer (layer.Call func parts) t is = call_is (all_of parts) t (apply_of func) (λ ts e. applied_is (given func ts) t e) is
by_layer (layer.List parts) t is = and_then_is (all_of parts) (λ ts. term.List ts) t is

-- the value of an expression, if no variable has a value
pub closed_is_limited : (e : Expr) (t : Term) → value_of [] e ≡ Some t → is_within_limits t ≡ true
closed_is_limited e t is = by_layer (map-Expr Expr (Option Term) (value_of []) (out-Expr e)) t (sym (fold_out-Expr (Option Term) (value_step []) e) ∙ is)
