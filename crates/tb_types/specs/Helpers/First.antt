-- The first of several violations: by the number of the condition, then by the token.
use Rattle.std.specs.Prelude.{◌==◌, Bool, ◌||◌, ◌&&◌, nat_lt, List, fold, Option, Some, None, if◌then◌else◌}
use Rattle.tb_types.specs.declared.violation.Violation.{Violation}
use Rattle.tb_types.specs.Numbers.{number_of}

abbrev pub is_before : Violation → Violation → Bool
is_before one other =
    nat_lt (number_of one.rule) (number_of other.rule) || ((number_of one.rule == number_of other.rule) && nat_lt one.token other.token)

abbrev pub earlier : Option Violation → Violation → Option Violation
earlier None next = Some next
earlier (Some so_far) next = if is_before next so_far then Some next else Some so_far

abbrev pub first_of : List Violation → Option Violation
first_of violation = fold earlier None violation
