-- The outline of an expression: a pattern that all its values match. Of the variables in the expression, only the types count.
use Rattle.std.specs.Prelude.{ℕ, List, [], ◌∷◌, Bool, true, false, slice_get, unwrap_or}
use Rattle.std.specs.Str.{bytes_eq}
use Rattle.tb_terms.specs.declared.term.Term.TheVariants as term
use Rattle.tb_terms.specs.declared.sort.Sort.{Sort, out-Sort}
use Rattle.tb_terms.specs.declared.sort.Sort.TheOpen as layer
use Rattle.tb_terms.specs.declared.sort.Sort.TheVariants as sort
use Rattle.tb_terms.specs.declared.expr.Expr.{Expr}
use Rattle.tb_terms.specs.declared.expr.Expr.TheOpen as expr
use Rattle.tb_terms.specs.declared.expr.Expr.TheFolds.{fold-Expr}
use Rattle.tb_terms.specs.declared.pattern.Pattern.{Pattern, out-Pattern}
use Rattle.tb_terms.specs.declared.pattern.Pattern.TheOpen.{Pattern-F, Fixed, Hole, Result, Appl, List as ListOf}
use Rattle.tb_terms.specs.declared.pattern.Pattern.TheVariants as pattern
use Rattle.tb_func.specs.Fitting.{sort_of}
use Rattle.tb_func.specs.Functions.{signature_of}

-- the type of a slot; the type of all terms if there is no such slot
abbrev pub slot_sort : List Sort → ℕ → Sort
slot_sort sorts slot = unwrap_or (slice_get sorts slot) sort.Any

-- the outline of an expression, from the outlines of its parts
abbrev pub outline_step : List Sort → expr.Expr-F Pattern → Pattern
-- a number or a string is its own outline
outline_step sorts (expr.Int number) = pattern.Fixed (term.Int number)
outline_step sorts (expr.Str bytes) = pattern.Fixed (term.Str bytes)
-- a variable or a placeholder has the hole of its type
outline_step sorts (expr.Var slot) = pattern.Hole (slot_sort sorts slot)
outline_step sorts (expr.Result slot) = pattern.Hole (slot_sort sorts slot)
outline_step sorts (expr.Hole sort) = pattern.Hole sort
outline_step sorts (expr.Appl name parts) = pattern.Appl name parts
-- a call of a function has the hole of the result's type
outline_step sorts (expr.Call func parts) = pattern.Hole (sort_of (signature_of func).result)
outline_step sorts (expr.List parts) = pattern.List parts

abbrev pub outline : List Sort → Expr → Pattern
outline sorts = fold-Expr Pattern (outline_step sorts)

-- whether a value of this type may be a tool of this name: the type is that of all terms, or the tool's own
abbrev pub may_be_sort : List ℕ → layer.Sort-F Sort → Bool
may_be_sort tool layer.Bool = false
may_be_sort tool layer.Int = false
may_be_sort tool layer.Str = false
may_be_sort tool (layer.List members) = false
may_be_sort tool layer.Any = true
may_be_sort tool (layer.Tool name) = bytes_eq name tool

-- whether a value with this outline may be a tool of this name: the outline is such a hole, or the tool's name with one argument
abbrev pub may_be_in : List ℕ → Pattern-F Pattern → Bool
may_be_in tool (Fixed fixed) = false
may_be_in tool (Hole sort) = may_be_sort tool (out-Sort sort)
may_be_in tool (Result slot sort) = false
may_be_in tool (Appl name []) = false
may_be_in tool (Appl name (part ∷ [])) = bytes_eq name tool
may_be_in tool (Appl name (part ∷ other ∷ parts)) = false
may_be_in tool (ListOf parts) = false

-- Whether a value with this outline may be a tool of this name.
abbrev pub may_be : List ℕ → Pattern → Bool
may_be tool outline = may_be_in tool (out-Pattern outline)
