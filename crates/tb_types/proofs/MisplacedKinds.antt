-- The misplaced result variables and placeholders of an application and of a list, from those of their parts.
use Rattle.std.proofs.Common.{◌≡◌, ℕ, List, [], ◌∷◌, ◌++◌, map, length, refl, ap, ◌∙◌}
use Rattle.std.specs.List.{flat_map}
use Rattle.std.proofs.lemmas.List.{length-map}
use Rattle.tb_syntax.specs.declared.ast.Ast.{Ast}
use Rattle.tb_syntax.specs.declared.ast.AstKind.{AstKind, out-AstKind}
use Rattle.tb_syntax.specs.declared.ast.AstKind.TheVariants as ast
use Rattle.tb_syntax.specs.declared.ast.AstKind.TheVariants.{outs-Appl, outs-Var, outs-List}
use Rattle.tb_syntax.specs.declared.ast.AstKind.TheOpen.{AstKind-F}
use Rattle.tb_syntax.specs.declared.ast.AstKind.TheFolds.{fold_out-AstKind, map-AstKind, fold-Ast, fold_out-Ast}
use Rattle.tb_types.specs.declared.violation.Violation.{Violation}
use Rattle.tb_types.specs.declared.positions.Position.{Position}
use Rattle.tb_types.specs.Positions.{misplaced_step, expr_step, misplaced, misplaced_kind, part_position, argument_position}

abbrev OfKind : Type 0
OfKind = ℕ → Position → List Violation

abbrev OfExpr : Type 0
OfExpr = Position → List Violation

abbrev found : Ast → OfExpr
found = fold-Ast OfKind OfExpr misplaced_step expr_step

abbrev layer_found : AstKind-F AstKind Ast → OfKind
layer_found x = misplaced_step (map-AstKind AstKind Ast OfKind OfExpr misplaced_kind found x)

opened : (k : AstKind) (x : AstKind-F AstKind Ast) (token : ℕ) (position : Position) → out-AstKind k ≡ x → misplaced_kind k token position ≡ layer_found x token position
opened k x token position e = ap (λ (f : OfKind). f token position) (fold_out-AstKind OfKind OfExpr misplaced_step expr_step k ∙ ap layer_found e)

expr_is : (expr : Ast) (position : Position) → found expr position ≡ misplaced position expr
expr_is expr position = ap (λ (f : OfExpr). f position) (fold_out-Ast OfKind OfExpr misplaced_step expr_step expr)

parts_are : (position : Position) (parts : List Ast) → flat_map (λ (f : OfExpr). f position) (map found parts) ≡ flat_map (misplaced position) parts
parts_are position [] = refl
parts_are position (part ∷ parts) = λ i. expr_is part position i ++ parts_are position parts i

pub misplaced_of_appl : (name : List ℕ) (parts : List Ast) (token : ℕ) (position : Position)
    → misplaced_kind (ast.Appl name parts) token position ≡ flat_map (misplaced (argument_position name (length parts) position)) parts
misplaced_of_appl name parts token position =
    opened _ _ token position (outs-Appl name parts)
    ∙ ap (λ n. flat_map (λ (f : OfExpr). f (argument_position name n position)) (map found parts)) (length-map parts found)
    ∙ parts_are (argument_position name (length parts) position) parts

pub misplaced_of_var : (name : List ℕ) (token : ℕ) (position : Position) → misplaced_kind (ast.Var name) token position ≡ []
misplaced_of_var name token position = opened _ _ token position (outs-Var name)

pub misplaced_of_list : (parts : List Ast) (token : ℕ) (position : Position) → misplaced_kind (ast.List parts) token position ≡ flat_map (misplaced (part_position position)) parts
misplaced_of_list parts token position = opened _ _ token position (outs-List parts) ∙ parts_are (part_position position) parts
