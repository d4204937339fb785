-- The violations of a call, a `create`, or a root: of the process name, of the number of arguments, and of each argument.
use Rattle.std.specs.Prelude.{ℕ, ◌+◌, ◌==◌, Bool, false, not, List, [], ◌∷◌, ◌++◌, length, slice_get, Option, Some, None, is_none, if◌then◌else◌}
use Rattle.tb_terms.specs.declared.sort.Sort.{Sort}
use Rattle.tb_syntax.specs.declared.ast.Ast.{Ast}
use Rattle.tb_syntax.specs.declared.proc.Call.{Call}
use Rattle.tb_syntax.specs.declared.script.Formal.{Formal}
use Rattle.tb_syntax.specs.declared.script.ProcDef.{ProcDef}
use Rattle.tb_syntax.specs.declared.script.Script.{Script}
use Rattle.tb_types.specs.declared.violation.Violation.{Violation}
use Rattle.tb_types.specs.declared.violation.Rule.TheVariants.{NoProcess, Arity}
use Rattle.tb_types.specs.declared.calls.Manner.{Manner}
use Rattle.tb_types.specs.declared.calls.Manner.TheVariants.{Called, Made, Rooted}
use Rattle.tb_types.specs.declared.positions.Position.{Position}
use Rattle.tb_types.specs.declared.positions.Position.TheVariants.{Sent, Taken}
use Rattle.tb_types.specs.declared.scope.Known.{Known}
use Rattle.tb_types.specs.Violation.{noted_if}
use Rattle.tb_types.specs.ExpectedSorts.{Expectation, plain, of_sort, rooted, exact, site_faults}
use Rattle.tb_types.specs.Names.{process_named}

-- the argument of a value parameter fits the parameter's type; in a root, it must also have a value of this type
abbrev pub value_expected_sort : Manner → Sort → Expectation
value_expected_sort Called s = of_sort s
value_expected_sort Made s = of_sort s
value_expected_sort Rooted s = rooted s

abbrev pub formal_expected_sort : Manner → Formal → Expectation
formal_expected_sort manner formal = if formal.result then exact formal.sort else value_expected_sort manner formal.sort

-- A result variable can be the argument of a result parameter in a call. In a `create` and a root, no argument can be a result
-- variable.
abbrev pub formal_position : Manner → Bool → Position
formal_position Called is_result = if is_result then Taken else Sent
formal_position Made is_result = Sent
formal_position Rooted is_result = Sent

-- the kind of place of an argument; there is no parameter if the process is unknown or has fewer parameters
abbrev pub actual_position : Manner → Option Formal → Position
actual_position manner None = Sent
actual_position manner (Some formal) = formal_position manner formal.result

abbrev pub actual_expected_sort : Manner → Option Formal → Expectation
actual_expected_sort manner None = plain
actual_expected_sort manner (Some formal) = formal_expected_sort manner formal

-- the violations of the arguments; the first of them is the argument with the number `position`, counted from 0
abbrev pub actuals_faults : Script → List Known → Manner → List Formal → ℕ → List Ast → List Violation
actuals_faults script known manner formals position [] = []
actuals_faults script known manner formals position (actual ∷ actuals) =
    site_faults script known (actual_position manner (slice_get formals position)) (actual_expected_sort manner (slice_get formals position)) actual
    ++ actuals_faults script known manner formals (position + 1) actuals

abbrev pub formals_of : Option ProcDef → List Formal
formals_of None = []
formals_of (Some definition) = definition.formals

-- the number of arguments isn't the number of the process's parameters
abbrev pub has_wrong_actuals : Option ProcDef → List Ast → Bool
has_wrong_actuals None actuals = false
has_wrong_actuals (Some definition) actuals = not (length actuals == length definition.formals)

abbrev pub found_call_faults : Script → List Known → Manner → Option ProcDef → Call → List Violation
found_call_faults script known manner found call =
    noted_if (is_none found) NoProcess call.token
    ++ noted_if (has_wrong_actuals found call.actuals) Arity call.token
    ++ actuals_faults script known manner (formals_of found) 0 call.actuals

abbrev pub call_faults : Script → List Known → Manner → Call → List Violation
call_faults script known manner call = found_call_faults script known manner (process_named script.procs call.name) call
