-- The violation that is noted if a script breaks a condition: the condition and the token.
use Rattle.std.specs.Prelude.{ℕ, Bool, List, [], ◌∷◌, if◌then◌else◌}
use Rattle.tb_types.specs.declared.violation.Rule.{Rule}
use Rattle.tb_types.specs.declared.violation.Violation.{Violation}

abbrev pub noted_if : Bool → Rule → ℕ → List Violation
noted_if is_violated rule token = if is_violated then record { rule = rule; token = token } ∷ [] else []
