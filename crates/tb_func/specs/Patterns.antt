-- The pattern of an expression: a part without placeholders and result variables becomes its value alone.
use Rattle.std.specs.Prelude.{ℕ, Bool, true, false, List, map, Option, Some, None, option_map, option_and_then}
use Rattle.std.specs.List.{list_all}
use Rattle.tb_terms.specs.declared.term.Term.{Term}
use Rattle.tb_terms.specs.declared.term.Term.TheVariants as term
use Rattle.tb_terms.specs.declared.expr.Expr.{Expr}
use Rattle.tb_terms.specs.declared.expr.Expr.TheOpen as expr
use Rattle.tb_terms.specs.declared.expr.Expr.TheFolds.{fold-Expr}
use Rattle.tb_terms.specs.declared.expr.Func.{Func}
use Rattle.tb_terms.specs.declared.pattern.Pattern.{Pattern, out-Pattern}
use Rattle.tb_terms.specs.declared.pattern.Pattern.TheOpen.{Pattern-F, Fixed, Hole, Result, Appl, List as ListOf}
use Rattle.tb_terms.specs.declared.pattern.Pattern.TheVariants as pattern
use Rattle.tb_func.specs.declared.slot.Slot.{Slot}
use Rattle.tb_func.specs.Apply.{apply_of}
use Rattle.tb_func.specs.Limits.{limited}
use Rattle.tb_func.specs.Stores.{value_at, sort_at}
use Rattle.tb_func.specs.Values.{all_of}

abbrev pub fixed_in : Pattern-F Pattern → Option Term
fixed_in (Fixed t) = Some t
fixed_in (Hole sort) = None
fixed_in (Result slot sort) = None
fixed_in (Appl name parts) = None
fixed_in (ListOf parts) = None

abbrev pub fixed_term : Pattern → Option Term
fixed_term p = fixed_in (out-Pattern p)

-- the terms of patterns, or none if one pattern isn't fixed
abbrev pub fixed_terms : List Pattern → Option (List Term)
fixed_terms ps = all_of (map fixed_term ps)

-- the value of the parts as a fixed pattern if all parts are fixed, and the other pattern otherwise
abbrev pub of_parts : (List Term → Option Term) → Pattern → Option (List Term) → Option Pattern
of_parts value other None = Some other
of_parts value other (Some ts) = option_map pattern.Fixed (value ts)

abbrev pub appl_pattern : List ℕ → List Pattern → Option Pattern
appl_pattern name ps = of_parts (λ ts. limited (term.Appl name ts)) (pattern.Appl name ps) (fixed_terms ps)

abbrev pub list_pattern : List Pattern → Option Pattern
list_pattern ps = of_parts (λ ts. limited (term.List ts)) (pattern.List ps) (fixed_terms ps)

abbrev pub call_pattern : Func → List Pattern → Option Pattern
call_pattern func ps = option_map pattern.Fixed (option_and_then (apply_of func) (fixed_terms ps))

-- the pattern of one expression, given the patterns of its parts
abbrev pub pattern_step : List Slot → expr.Expr-F (Option Pattern) → Option Pattern
pattern_step slots (expr.Int number) = Some (pattern.Fixed (term.Int number))
pattern_step slots (expr.Str bytes) = option_map pattern.Fixed (limited (term.Str bytes))
pattern_step slots (expr.Var slot) = option_map pattern.Fixed (value_at slots slot)
pattern_step slots (expr.Result slot) = option_map (pattern.Result slot) (sort_at slots slot)
pattern_step slots (expr.Hole sort) = Some (pattern.Hole sort)
pattern_step slots (expr.Appl name parts) = option_and_then (appl_pattern name) (all_of parts)
pattern_step slots (expr.Call func parts) = option_and_then (call_pattern func) (all_of parts)
pattern_step slots (expr.List parts) = option_and_then list_pattern (all_of parts)

abbrev pub pattern_of : List Slot → Expr → Option Pattern
pattern_of slots = fold-Expr (Option Pattern) (pattern_step slots)

-- an expression without placeholders and result variables
abbrev pub plain_step : expr.Expr-F Bool → Bool
plain_step (expr.Int number) = true
plain_step (expr.Str bytes) = true
plain_step (expr.Var slot) = true
plain_step (expr.Result slot) = false
plain_step (expr.Hole sort) = false
plain_step (expr.Appl name parts) = list_all (λ part. part) parts
plain_step (expr.Call func parts) = list_all (λ part. part) parts
plain_step (expr.List parts) = list_all (λ part. part) parts

abbrev pub is_plain : Expr → Bool
is_plain = fold-Expr Bool plain_step
