-- The nine conditions of a script, with the tokens at which each fails; well-formed scripts; and the first error of a script.
use Rattle.std.specs.Prelude.{◌≡◌, ℕ, ◌<◌, ◌≤◌, ◌⊎◌, List, [], ◌∷◌}
use Rattle.tb_syntax.specs.declared.script.Script.{Script}
use Rattle.tb_types.specs.declared.violation.Violation.{Violation}
use Rattle.tb_types.specs.declared.violation.Rule.{Rule}
use Rattle.tb_types.specs.declared.violation.Rule.TheVariants as rule
use Rattle.tb_types.specs.declared.fault.CheckFault.{CheckFault}
use Rattle.tb_types.specs.declared.fault.CheckFault.TheVariants as fault
use Rattle.tb_types.specs.Bodies.{script_faults}
use Rattle.tb_types.specs.Numbers.{number_of}

abbrev pub IsIn : Violation → List Violation → Type 0
IsIn it [] = ⊥
IsIn it (first ∷ others) = (it ≡ first) ⊎ IsIn it others

-- the condition fails at the token
abbrev pub Fails : Script → Rule → ℕ → Type 0
Fails script condition token = IsIn (record { rule = condition; token = token }) (script_faults script)

-- a condition holds if and only if it fails at no token
abbrev pub Holds : Script → Rule → Type 0
Holds script condition = (token : ℕ) → Fails script condition token → ⊥

-- a well-formed script: all nine conditions hold
abbrev pub Proper : Script → Type 0
Proper script = (condition : Rule) → Holds script condition

-- the first condition that fails, and the first token at which it does
pub record IsFirst (script : Script) (condition : Rule) (token : ℕ) : Type 0 where
  pub fails : Fails script condition token
  pub first_token : (other : ℕ) → Fails script condition other → token ≤ other
  pub first_condition : (earlier : Rule) → number_of earlier < number_of condition → Holds script earlier

-- the errors that a check can return for this script; `NoMemory` makes no claim about the script
abbrev pub IsFault : Script → CheckFault → Type 0
IsFault script (fault.Twice token) = IsFirst script rule.Twice token
IsFault script (fault.NoProcess token) = IsFirst script rule.NoProcess token
IsFault script (fault.NoTool token) = IsFirst script rule.NoTool token
IsFault script (fault.NoFunction token) = IsFirst script rule.NoFunction token
IsFault script (fault.Arity token) = IsFirst script rule.Arity token
IsFault script (fault.Undeclared token) = IsFirst script rule.Undeclared token
IsFault script (fault.ResultInSend token) = IsFirst script rule.ResultInSend token
IsFault script (fault.NotResult token) = IsFirst script rule.NotResult token
IsFault script (fault.TypeClash token) = IsFirst script rule.TypeClash token
IsFault script fault.NoMemory = Unit {0}
