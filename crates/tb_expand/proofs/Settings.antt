-- The settings of a `let` and of a call are in range.
use Rattle.std.proofs.Common.{◌≡◌, ℕ, ◌+◌, ◌≤◌, Bool, true, false, not, cond, nat_lt, List, [], ◌∷◌, length, Some, refl, arith}
use Rattle.std.specs.List.{list_all}
use Rattle.std.specs.Prelude.{if◌then◌else◌}
use Rattle.std.proofs.lemmas.Bool.{and_from, lt-ltb}
use Rattle.tb_body.specs.declared.tree.Setting.{Setting}
use Rattle.tb_body.specs.InRange.{is_setting_in_range}
use Rattle.tb_syntax.specs.declared.ast.Ast.{Ast}
use Rattle.tb_syntax.specs.declared.proc.Var.{Var}
use Rattle.tb_syntax.specs.declared.script.Formal.{Formal}
use Rattle.tb_syntax.specs.declared.script.Script.{Script}
use Rattle.tb_types.specs.declared.calls.Manner.TheVariants.{Called}
use Rattle.tb_types.specs.declared.scope.Known.{Known}
use Rattle.tb_types.specs.Calls.{formal_position, value_expected_sort}
use Rattle.tb_types.specs.ExpectedSorts.{exact, site_faults}
use Rattle.tb_expand.specs.Helpers.Agreeing.{Agrees}
use Rattle.tb_expand.specs.Expansion.{initial, set_formals, value_formals}
use Rattle.tb_expand.specs.Exprs.{expr_of}
use Rattle.tb_expand.specs.Scopes.{Scope}
use Rattle.tb_expand.proofs.ExprRanges.{value_in_range}
use Rattle.tb_expand.proofs.FaultFree.{free_site}
use Rattle.tb_expand.proofs.Seeing.{ActualsFree}

abbrev AreInRange : ℕ → List Setting → Type 0
AreInRange slots settings = list_all (is_setting_in_range slots) settings ≡ true

pub initial_in_range : (slots slot : ℕ) (vars : List Var) → slot + length vars ≤ slots → AreInRange slots (initial slot vars)
initial_in_range slots slot [] within = refl
initial_in_range slots slot (var ∷ vars) within =
    and_from _ _ (and_from (nat_lt slot slots) true (lt-ltb slot slots (omega arith)) refl) (initial_in_range slots (slot + 1) vars (omega arith))

module _ (script : Script) (slots : ℕ) (scope : Scope) (known : List Known) (agrees : Agrees script slots scope known) where
  pub call_in_range : (slot : ℕ) (formals : List Formal) (actuals : List Ast) → ActualsFree script known formals actuals
      → slot + length (value_formals formals) ≤ slots → AreInRange slots (set_formals scope slot formals actuals)
  call_in_range slot [] actuals free within = refl
  call_in_range slot (formal ∷ formals) [] free within = refl
  call_in_range slot (formal ∷ formals) (actual ∷ actuals) free within =
      step formal.result free.0 within (λ next. call_in_range next formals actuals free.1) where
        step : (b : Bool) → site_faults script known (formal_position Called b) (if b then exact formal.sort else value_expected_sort Called formal.sort) actual ≡ []
            → slot + length (cond (not b) (formal ∷ value_formals formals) (value_formals formals)) ≤ slots
            → ((next : ℕ) → next + length (value_formals formals) ≤ slots → AreInRange slots (set_formals scope next formals actuals))
            → AreInRange slots
            (if b then set_formals scope slot formals actuals
            else record { slot = slot; start = Some (expr_of scope actual) } ∷ set_formals scope (slot + 1) formals actuals)
        step true site inside others = others slot inside
        step false site inside others =
            let site_free = free_site script known (formal_position Called false) (value_expected_sort Called formal.sort) actual site in
            and_from _ _
            (and_from (nat_lt slot slots) _ (lt-ltb slot slots (omega arith)) (value_in_range script slots scope known actual agrees site_free.expr site_free.positioned))
            (others (slot + 1) (omega arith))
