-- The error that reports a violation.
use Rattle.std.specs.Prelude.{ℕ}
use Rattle.tb_types.specs.declared.violation.Violation.{Violation}
use Rattle.tb_types.specs.declared.violation.Rule.{Rule}
use Rattle.tb_types.specs.declared.violation.Rule.TheVariants as rule
use Rattle.tb_types.specs.declared.fault.CheckFault.{CheckFault}
use Rattle.tb_types.specs.declared.fault.CheckFault.TheVariants as fault

abbrev pub fault_at : Rule → ℕ → CheckFault
fault_at rule.Twice token = fault.Twice token
fault_at rule.NoProcess token = fault.NoProcess token
fault_at rule.NoTool token = fault.NoTool token
fault_at rule.NoFunction token = fault.NoFunction token
fault_at rule.Arity token = fault.Arity token
fault_at rule.Undeclared token = fault.Undeclared token
fault_at rule.ResultInSend token = fault.ResultInSend token
fault_at rule.NotResult token = fault.NotResult token
fault_at rule.TypeClash token = fault.TypeClash token

abbrev pub fault_of : Violation → CheckFault
fault_of violation = fault_at violation.rule violation.token
