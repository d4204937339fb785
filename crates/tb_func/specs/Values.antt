-- The value of an expression in a store, or none.
use Rattle.std.specs.Prelude.{List, [], ◌∷◌, Option, Some, None, option_and_then}
use Rattle.tb_terms.specs.declared.term.Term.{Term}
use Rattle.tb_terms.specs.declared.term.Term.TheVariants as term
use Rattle.tb_terms.specs.declared.expr.Expr.{Expr}
use Rattle.tb_terms.specs.declared.expr.Expr.TheOpen as expr
use Rattle.tb_terms.specs.declared.expr.Expr.TheFolds.{fold-Expr}
use Rattle.tb_func.specs.declared.slot.Slot.{Slot}
use Rattle.tb_func.specs.Apply.{apply_of}
use Rattle.tb_func.specs.Arguments.{of_both}
use Rattle.tb_func.specs.Limits.{limited}
use Rattle.tb_func.specs.Stores.{value_at}

-- the values, or none if one is missing
abbrev pub all_of : {A : Type 0} → List (Option A) → Option (List A)
all_of [] = Some []
all_of (first ∷ others) = of_both (λ x xs. Some (x ∷ xs)) first (all_of others)

-- the value of one expression, given the values of its parts; a result variable and a placeholder have no value
abbrev pub value_step : List Slot → expr.Expr-F (Option Term) → Option Term
value_step slots (expr.Int number) = Some (term.Int number)
value_step slots (expr.Str bytes) = limited (term.Str bytes)
value_step slots (expr.Var slot) = value_at slots slot
value_step slots (expr.Result slot) = None
value_step slots (expr.Hole sort) = None
value_step slots (expr.Appl name parts) = option_and_then (λ ts. limited (term.Appl name ts)) (all_of parts)
value_step slots (expr.Call func parts) = option_and_then (apply_of func) (all_of parts)
value_step slots (expr.List parts) = option_and_then (λ ts. limited (term.List ts)) (all_of parts)

abbrev pub value_of : List Slot → Expr → Option Term
value_of slots = fold-Expr (Option Term) (value_step slots)
