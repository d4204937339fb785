-- The variables that are visible at a place in a body. The innermost variable of a name hides the others.
use Rattle.std.specs.Prelude.{ℕ, ◌+◌, List, [], ◌∷◌, ◌++◌, find, Option, Some, None}
use Rattle.std.specs.Str.{bytes_eq}
use Rattle.std.specs.List.{fold}
use Rattle.tb_terms.specs.declared.sort.Sort.{Sort}
use Rattle.tb_terms.specs.declared.sort.Sort.TheVariants as sort
use Rattle.tb_syntax.specs.declared.proc.Var.{Var}
use Rattle.tb_syntax.specs.declared.script.Formal.{Formal}
use Rattle.tb_expand.specs.declared.seen.Seen.{Seen}

-- the visible variables, the innermost first
abbrev pub Scope : Type 0
Scope = List Seen

-- the visible variables in open blocks, of which the outermost comes first
abbrev pub of_blocks : List Scope → Scope
of_blocks blocks = fold (λ (outer : Scope) (block : Scope). block ++ outer) [] blocks

abbrev pub seen_as : List ℕ → Scope → Option Seen
seen_as name scope = find (λ (seen : Seen). bytes_eq seen.name name) scope

-- In a well-formed script, each variable is visible. For other variables, the slot is 0, and the type is `term`.
abbrev pub slot_or_0 : Option Seen → ℕ
slot_or_0 None = 0
slot_or_0 (Some seen) = seen.slot

abbrev pub slot_of : Scope → List ℕ → ℕ
slot_of scope name = slot_or_0 (seen_as name scope)

abbrev pub sort_or_term : Option Seen → Sort
sort_or_term None = sort.Any
sort_or_term (Some seen) = seen.sort

abbrev pub sort_of : Scope → List ℕ → Sort
sort_of scope name = sort_or_term (seen_as name scope)

-- the variables of a `let`, each with a slot of its own, from this slot on; in a well-formed script, their names differ
abbrev pub declared : ℕ → List Var → Scope
declared slot [] = []
declared slot (var ∷ vars) = record { name = var.name; slot = slot; sort = var.sort } ∷ declared (slot + 1) vars

-- the parameters of a process that isn't expanded as a call: each has a slot of its own
abbrev pub formals_seen : ℕ → List Formal → Scope
formals_seen slot [] = []
formals_seen slot (formal ∷ formals) = record { name = formal.name; slot = slot; sort = formal.sort } ∷ formals_seen (slot + 1) formals
