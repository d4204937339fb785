-- The numbers of the nine conditions. The condition with the smaller number comes first.
use Rattle.std.specs.Prelude.{ℕ}
use Rattle.tb_types.specs.declared.violation.Rule.{Rule}
use Rattle.tb_types.specs.declared.violation.Rule.TheVariants as rule

abbrev pub number_of : Rule → ℕ
number_of rule.Twice = 1
number_of rule.NoProcess = 2
number_of rule.NoTool = 3
number_of rule.NoFunction = 4
number_of rule.Arity = 5
number_of rule.Undeclared = 6
number_of rule.ResultInSend = 7
number_of rule.NotResult = 8
number_of rule.TypeClash = 9
