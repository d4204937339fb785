-- The tools whose types an expression fits: none, all, or the tool of one name.
use Rattle.std.specs.Prelude.{ℕ, Bool, true, false, List, [], ◌∷◌}
use Rattle.std.specs.Str.{bytes_eq}
use Rattle.tb_terms.specs.declared.sort.Sort.TheVariants as sorts
use Rattle.tb_types.specs.declared.tools.Fitted.{Fitted}
use Rattle.tb_types.specs.declared.tools.Fitted.TheVariants.{Nothing, Every, One}
use Rattle.tb_types.specs.Exprs.{Judged}

abbrev pub fitted_by : Fitted → List ℕ → Bool
fitted_by Nothing tool = false
fitted_by Every tool = true
fitted_by (One name) tool = bytes_eq tool name.now

-- the list has exactly one part, and this part fits `int`
abbrev pub is_one_number : List Judged → Bool
is_one_number [] = false
is_one_number (number ∷ []) = number.fits sorts.Int
is_one_number (number ∷ other ∷ parts) = false
