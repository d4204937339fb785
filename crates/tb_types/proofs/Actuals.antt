-- The step of the loop over arguments: one more argument is checked.
use Rattle.std.proofs.Common.{◌≡◌, ℕ, suc, ◌+◌, ◌<◌, List, ◌∷◌, ◌++◌, length, get_or, drop, slice_get, ap, sym, ◌∙◌, add-one, append_assoc, drop-cons}
use Rattle.tb_syntax.specs.declared.ast.Ast.{Ast}
use Rattle.tb_syntax.specs.declared.script.Formal.{Formal}
use Rattle.tb_syntax.specs.declared.script.Script.{Script}
use Rattle.tb_types.specs.declared.violation.Violation.{Violation}
use Rattle.tb_types.specs.declared.calls.Manner.{Manner}
use Rattle.tb_types.specs.declared.positions.Position.{Position}
use Rattle.tb_types.specs.declared.scope.Known.{Known}
use Rattle.tb_types.specs.Calls.{actual_position, actual_expected_sort, actuals_faults}
use Rattle.tb_types.specs.ExpectedSorts.{Expectation, site_faults}

pub one_actual : (script : Script) (known : List Known) (manner : Manner) (formals : List Formal) (at : ℕ) (actuals : List Ast) (actual : Ast) (before after : List Violation) (position : Position) (expected_sort : Expectation)
    → at < length actuals → actual ≡ get_or actuals at actual → position ≡ actual_position manner (slice_get formals at) → expected_sort ≡ actual_expected_sort manner (slice_get formals at)
    → after ≡ before ++ site_faults script known position expected_sort actual
    → after ++ actuals_faults script known manner formals (at + 1) (drop (at + 1) actuals) ≡ before ++ actuals_faults script known manner formals at (drop at actuals)
one_actual script known manner formals at actuals actual before after position expected_sort within here p d e =
    let head : drop at actuals ≡ actual ∷ drop (suc at) actuals = drop-cons actuals at actual within ∙ ap (λ x. x ∷ drop (suc at) actuals) (sym here) in
    let behind = actuals_faults script known manner formals (at + 1) (drop (at + 1) actuals) in
    let asked = site_faults script known (actual_position manner (slice_get formals at)) (actual_expected_sort manner (slice_get formals at)) actual in
    let same : after ≡ before ++ asked = e ∙ ap (λ x. before ++ site_faults script known x expected_sort actual) p ∙ ap (λ x. before ++ site_faults script known (actual_position manner (slice_get formals at)) x actual) d in
    ap (λ x. x ++ behind) same ∙ append_assoc before asked behind
    ∙ ap (λ n. before ++ (asked ++ actuals_faults script known manner formals (at + 1) (drop n actuals))) (add-one at)
    ∙ ap (λ xs. before ++ actuals_faults script known manner formals at xs) (sym head)
