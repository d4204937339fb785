-- The places where result variables and placeholders are allowed.
use Rattle.std.specs.Prelude.{ℕ, Bool, true, false, not, List, [], length, is_some, if◌then◌else◌}
use Rattle.std.specs.List.{flat_map}
use Rattle.tb_syntax.specs.declared.ast.Ast.{Ast}
use Rattle.tb_syntax.specs.declared.ast.AstKind.{AstKind}
use Rattle.tb_syntax.specs.declared.ast.AstKind.TheOpen as ast
use Rattle.tb_syntax.specs.declared.ast.AstKind.TheFolds.{fold-AstKind}
use Rattle.tb_types.specs.declared.violation.Violation.{Violation}
use Rattle.tb_types.specs.declared.violation.Rule.TheVariants.{ResultInSend}
use Rattle.tb_types.specs.declared.positions.Position.{Position}
use Rattle.tb_types.specs.declared.positions.Position.TheVariants.{Sent, Taken, Noted, Received}
use Rattle.tb_types.specs.Violation.{noted_if}
use Rattle.tb_types.specs.Names.{applied}

abbrev pub takes_results : Position → Bool
takes_results Sent = false
takes_results Taken = true
takes_results Noted = false
takes_results Received = true

abbrev pub takes_holes : Position → Bool
takes_holes Sent = false
takes_holes Taken = false
takes_holes Noted = true
takes_holes Received = true

-- the kind of place of a part of an expression: at `Taken`, only the whole expression can be a result variable
abbrev pub part_position : Position → Position
part_position Sent = Sent
part_position Taken = Sent
part_position Noted = Noted
part_position Received = Received

-- the kind of place of an argument: in a function application, neither a result variable nor a placeholder is allowed
abbrev pub argument_position : List ℕ → ℕ → Position → Position
argument_position name count position = if is_some (applied name count) then Sent else part_position position

abbrev pub misplaced_step : ast.AstKind-F (ℕ → Position → List Violation) (Position → List Violation) → ℕ → Position → List Violation
misplaced_step (ast.Int number) token position = []
misplaced_step (ast.Str text) token position = []
misplaced_step (ast.Appl name parts) token position = flat_map (λ (part : Position → List Violation). part (argument_position name (length parts) position)) parts
misplaced_step (ast.Var name) token position = []
misplaced_step (ast.Result name) token position = noted_if (not (takes_results position)) ResultInSend token
misplaced_step (ast.Hole sort) token position = noted_if (not (takes_holes position)) ResultInSend token
misplaced_step (ast.List parts) token position = flat_map (λ (part : Position → List Violation). part (part_position position)) parts

abbrev pub expr_step : ast.Ast-F (ℕ → Position → List Violation) (Position → List Violation) → Position → List Violation
expr_step expr = expr.kind expr.token

abbrev pub misplaced_kind : AstKind → ℕ → Position → List Violation
misplaced_kind = fold-AstKind (ℕ → Position → List Violation) (Position → List Violation) misplaced_step expr_step

-- the result variables and placeholders in an expression that aren't allowed at their places
abbrev pub misplaced : Position → Ast → List Violation
misplaced position expr = misplaced_kind expr.kind expr.token position
