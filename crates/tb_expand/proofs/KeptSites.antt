-- The properties of an expression without violations at its place.
use Rattle.std.proofs.Common.{◌≡◌, true, false, not, List, [], ◌++◌, refl}
use Rattle.std.specs.Prelude.{is_some}
use Rattle.std.proofs.lemmas.Bool.{not-false}
use Rattle.tb_syntax.specs.declared.ast.Ast.{Ast}
use Rattle.tb_syntax.specs.declared.ast.AstKind.{AstKind, out-AstKind}
use Rattle.tb_syntax.specs.declared.ast.AstKind.TheOpen as layer
use Rattle.tb_syntax.specs.declared.ast.AstKind.TheOpen.{AstKind-F}
use Rattle.tb_syntax.specs.declared.script.Script.{Script}
use Rattle.tb_types.specs.declared.violation.Rule.TheVariants.{NoTool, NoFunction, NotResult, TypeClash}
use Rattle.tb_types.specs.declared.positions.Position.{Position}
use Rattle.tb_types.specs.declared.scope.Known.{Known}
use Rattle.tb_types.specs.Violation.{noted_if}
use Rattle.tb_types.specs.ExpectedSorts.{Expectation, lacks_tool, lacks_function, lacks_result, clashes, is_result, result_name, site_faults}
use Rattle.tb_types.specs.Exprs.{expr_faults}
use Rattle.tb_types.specs.Positions.{misplaced}
use Rattle.tb_expand.specs.Acts.{name_in, name_of}
use Rattle.tb_expand.proofs.NoFaults.{append_none, noted_none}

pub record IsKept (script : Script) (known : List Known) (position : Position) (expected_sort : Expectation) (e : Ast) : Type 0 where
  pub has_tool : lacks_tool script expected_sort e ≡ false
  pub no_faults : expr_faults known e ≡ []
  pub in_place : misplaced position e ≡ []
  pub has_result : lacks_result expected_sort e ≡ false
  pub no_clash : clashes script known expected_sort e ≡ false

pub kept_site : (script : Script) (known : List Known) (position : Position) (expected_sort : Expectation) (e : Ast) → site_faults script known position expected_sort e ≡ [] → IsKept script known position expected_sort e
kept_site script known position expected_sort e none =
    let tool = noted_if (lacks_tool script expected_sort e) NoTool e.token in
    let function = noted_if (lacks_function expected_sort e) NoFunction e.token in
    let result = noted_if (lacks_result expected_sort e) NotResult e.token in
    let clash = noted_if (clashes script known expected_sort e) TypeClash e.token in
    let fifth = append_none (tool ++ function ++ expr_faults known e ++ misplaced position e ++ result) clash none in
    let fourth = append_none (tool ++ function ++ expr_faults known e ++ misplaced position e) result fifth.0 in
    let third = append_none (tool ++ function ++ expr_faults known e) (misplaced position e) fourth.0 in
    let second = append_none (tool ++ function) (expr_faults known e) third.0 in
    let first = append_none tool function second.0 in
    record {
      has_tool = noted_none (lacks_tool script expected_sort e) NoTool e.token first.0;
      no_faults = second.1;
      in_place = third.1;
      has_result = noted_none (lacks_result expected_sort e) NotResult e.token fourth.1;
      no_clash = noted_none (clashes script known expected_sort e) TypeClash e.token fifth.1;
    }

result_at : (x : AstKind-F AstKind Ast) → is_some (result_name x) ≡ true → x ≡ layer.Result (name_in x)
result_at (layer.Int number) e = absurd (cc)
result_at (layer.Str text) e = absurd (cc)
result_at (layer.Appl name parts) e = absurd (cc)
result_at (layer.Var name) e = absurd (cc)
result_at (layer.Result name) e = refl
result_at (layer.Hole s) e = absurd (cc)
result_at (layer.List parts) e = absurd (cc)

-- an expression that doesn't fail to be a result variable is one, and has a name
pub is_result_of : (e : Ast) → not (is_result e) ≡ false → out-AstKind e.kind ≡ layer.Result (name_of e)
is_result_of e there = result_at (out-AstKind e.kind) (not-false (is_result e) there)
