-- The variables that are known at a place, those of the innermost `let` first, and the type of each.
use Rattle.std.specs.Prelude.{ℕ, List, [], ◌∷◌, ◌++◌, map, Option, Some, None, if◌then◌else◌}
use Rattle.std.specs.Str.{bytes_eq}
use Rattle.tb_terms.specs.declared.sort.Sort.{Sort}
use Rattle.tb_syntax.specs.declared.proc.Var.{Var}
use Rattle.tb_syntax.specs.declared.script.Formal.{Formal}
use Rattle.tb_types.specs.declared.scope.Known.{Known}
use Rattle.tb_types.specs.declared.scope.Scope.{Scope, Formals, Inner'}

abbrev pub known_formal : Formal → Known
known_formal formal = record { name = formal.name; sort = formal.sort }

abbrev pub known_var : Var → Known
known_var var = record { name = var.name; sort = var.sort }

-- the variables of a scope of the program
abbrev pub visible : Scope → List Known
visible (Formals formals) = map known_formal formals.now
visible (Inner' vars p outer) = map known_var vars.now ++ visible outer

-- the type of the innermost variable of this name
abbrev pub sort_in : List Known → List ℕ → Option Sort
sort_in [] name = None
sort_in (known ∷ scope) name = if bytes_eq known.name name then Some known.sort else sort_in scope name
