-- The scopes of an expansion agree with the variables that the checks know: at the start, in a `let`, and in a call.
use Rattle.std.proofs.Common.{◌≡◌, ℕ, suc, ◌+◌, ◌<◌, ◌≤◌, Bool, true, false, not, cond, List, [], ◌∷◌, ◌++◌, map, length, flat_map, Option, Some, is_some, slice_get, refl, ap, sym, ◌∙◌, subst, arith}
use Rattle.std.specs.Prelude.{if◌then◌else◌}
use Rattle.tb_terms.specs.declared.sort.Sort.{Sort}
use Rattle.tb_syntax.specs.declared.ast.Ast.{Ast}
use Rattle.tb_syntax.specs.declared.ast.AstKind.{AstKind, out-AstKind}
use Rattle.tb_syntax.specs.declared.ast.AstKind.TheOpen as layer
use Rattle.tb_syntax.specs.declared.proc.Var.{Var}
use Rattle.tb_syntax.specs.declared.script.Formal.{Formal}
use Rattle.tb_syntax.specs.declared.script.Script.{Script}
use Rattle.tb_types.specs.declared.violation.Violation.{Violation}
use Rattle.tb_types.specs.declared.violation.Rule.TheVariants.{NoTool}
use Rattle.tb_types.specs.declared.calls.Manner.TheVariants.{Called}
use Rattle.tb_types.specs.declared.scope.Known.{Known}
use Rattle.tb_types.specs.Violation.{noted_if}
use Rattle.tb_types.specs.Calls.{actual_expected_sort, actual_position, actuals_faults, formal_expected_sort, formal_position, value_expected_sort}
use Rattle.tb_types.specs.Definitions.{formal_faults, var_faults}
use Rattle.tb_types.specs.ExpectedSorts.{exact, result_name, site_faults}
use Rattle.tb_types.specs.Names.{is_unknown_sort}
use Rattle.tb_types.specs.Scopes.{known_formal, known_var}
use Rattle.tb_expand.specs.Acts.{name_in, name_of}
use Rattle.tb_expand.specs.Helpers.Agreeing.{Agrees, AgreesOn}
use Rattle.tb_expand.specs.Expansion.{formals_of_call, value_formals}
use Rattle.tb_expand.specs.Scopes.{Scope, declared, formals_seen, slot_of}
use Rattle.tb_expand.proofs.ExprRanges.{taken_in_range}
use Rattle.tb_expand.proofs.FaultFree.{free_site}
use Rattle.tb_expand.proofs.NoFaults.{append_none, noted_none}

-- The start of an expansion, and the body of a `let`.

sort_is : (script : Script) (s : Sort) (token : ℕ) → noted_if (is_unknown_sort script.tools s) NoTool token ≡ [] → is_unknown_sort script.tools s ≡ false
sort_is script s token = noted_none (is_unknown_sort script.tools s) NoTool token

pub formals_agree : (script : Script) (slots slot : ℕ) (formals : List Formal)
    → flat_map (formal_faults script.tools) formals ≡ [] → slot + length formals ≤ slots
    → Agrees script slots (formals_seen slot formals) (map known_formal formals)
formals_agree script slots slot [] free within = tt
formals_agree script slots slot (formal ∷ formals) free within =
    let parts = append_none (formal_faults script.tools formal) (flat_map (formal_faults script.tools) formals) free in
    let here : AgreesOn script slots (record { name = formal.name; slot = slot; sort = formal.sort }) (known_formal formal)
    = record { name = refl; sort = refl; slot = omega arith; is_sort = sort_is script formal.sort formal.sort_token parts.0 } in
    (here, formals_agree script slots (slot + 1) formals parts.1 (omega arith))

pub declared_agree : (script : Script) (slots slot : ℕ) (vars : List Var) (scope : Scope) (known : List Known)
    → flat_map (var_faults script.tools) vars ≡ [] → slot + length vars ≤ slots → Agrees script slots scope known
    → Agrees script slots (declared slot vars ++ scope) (map known_var vars ++ known)
declared_agree script slots slot [] scope known free within agrees = agrees
declared_agree script slots slot (var ∷ vars) scope known free within agrees =
    let parts = append_none (var_faults script.tools var) (flat_map (var_faults script.tools) vars) free in
    let here : AgreesOn script slots (record { name = var.name; slot = slot; sort = var.sort }) (known_var var)
    = record { name = refl; sort = refl; slot = omega arith; is_sort = sort_is script var.sort var.sort_token parts.0 } in
    (here, declared_agree script slots (slot + 1) vars scope known parts.1 (omega arith) agrees)

-- Actuals with their formals.

-- each argument of a call has no violations at the place of its parameter
abbrev pub ActualsFree : Script → List Known → List Formal → List Ast → Type 0
ActualsFree script known [] [] = Unit {0}
ActualsFree script known [] (actual ∷ actuals) = ⊥
ActualsFree script known (formal ∷ formals) [] = ⊥
ActualsFree script known (formal ∷ formals) (actual ∷ actuals) =
    (site_faults script known (formal_position Called formal.result) (formal_expected_sort Called formal) actual ≡ []) × ActualsFree script known formals actuals

abbrev asked : Script → List Known → Ast → Option Formal → List Violation
asked script known actual o = site_faults script known (actual_position Called o) (actual_expected_sort Called o) actual

from_position : (script : Script) (known : List Known) (all formals : List Formal) (position : ℕ) (actuals : List Ast)
    → ((k : ℕ) → slice_get all (position + k) ≡ slice_get formals k) → length actuals ≡ length formals
    → actuals_faults script known Called all position actuals ≡ [] → ActualsFree script known formals actuals
from_position script known all [] position [] same count free = tt
from_position script known all [] position (actual ∷ actuals) same count free = absurd (omega (arith, count))
from_position script known all (formal ∷ formals) position [] same count free = absurd (omega (arith, count))
from_position script known all (formal ∷ formals) position (actual ∷ actuals) same count free =
    let parts = append_none (asked script known actual (slice_get all position)) (actuals_faults script known Called all (position + 1) actuals) free in
    let start : position ≡ position + 0 = omega arith in
    let here : slice_get all position ≡ Some formal = ap (slice_get all) start ∙ same 0 in
    let behind : (k : ℕ) → slice_get all ((position + 1) + k) ≡ slice_get formals k
    = λ k. let moved : (position + 1) + k ≡ position + suc k = omega arith in ap (slice_get all) moved ∙ same (suc k) in
    (subst (λ o. asked script known actual o ≡ []) here parts.0, from_position script known all formals (position + 1) actuals behind (omega (arith, count)) parts.1)

pub actuals_free : (script : Script) (known : List Known) (formals : List Formal) (actuals : List Ast) → length actuals ≡ length formals
    → actuals_faults script known Called formals 0 actuals ≡ [] → ActualsFree script known formals actuals
actuals_free script known formals actuals count free = from_position script known formals formals 0 actuals (λ k. ap (slice_get formals) (zero_and k)) count free where
  zero_and : (k : ℕ) → 0 + k ≡ k
  zero_and k = omega arith

-- A result parameter represents a known variable.

is_result_of : (x : layer.AstKind-F AstKind Ast) → not (is_some (result_name x)) ≡ false → (name : List ℕ) × (x ≡ layer.Result name)
is_result_of (layer.Int number) e = absurd (cc)
is_result_of (layer.Str text) e = absurd (cc)
is_result_of (layer.Appl name parts) e = absurd (cc)
is_result_of (layer.Var name) e = absurd (cc)
is_result_of (layer.Result name) e = (name, refl)
is_result_of (layer.Hole s) e = absurd (cc)
is_result_of (layer.List parts) e = absurd (cc)

module _ (script : Script) (slots : ℕ) (scope : Scope) (known : List Known) (agrees : Agrees script slots scope known) where
  result_slot : (s : Sort) (actual : Ast) → site_faults script known (formal_position Called true) (exact s) actual ≡ [] → slot_of scope (name_of actual) < slots
  result_slot s actual e =
      let free = free_site script known (formal_position Called true) (exact s) actual e in
      let result = is_result_of (out-AstKind actual.kind) free.result in
      let named : result.0 ≡ name_of actual = ap name_in (sym result.1) in
      subst (λ (name : List ℕ). slot_of scope name < slots) named (taken_in_range script slots scope known actual result.0 agrees result.1 free.expr)

  -- the variables that the called process sees
  pub called_agree : (slot : ℕ) (formals : List Formal) (actuals : List Ast) → flat_map (formal_faults script.tools) formals ≡ []
      → ActualsFree script known formals actuals → slot + length (value_formals formals) ≤ slots
      → Agrees script slots (formals_of_call scope slot formals actuals) (map known_formal formals)
  called_agree slot [] [] none free within = tt
  called_agree slot [] (actual ∷ actuals) none free within = absurd free
  called_agree slot (formal ∷ formals) [] none free within = absurd free
  called_agree slot (formal ∷ formals) (actual ∷ actuals) none free within =
      step formal.result free.0 within (λ next. called_agree next formals actuals parts.1 free.1) where
        parts : (formal_faults script.tools formal ≡ []) × (flat_map (formal_faults script.tools) formals ≡ [])
        parts = append_none (formal_faults script.tools formal) (flat_map (formal_faults script.tools) formals) none

        here : (position : ℕ) → position < slots → AgreesOn script slots (record { name = formal.name; slot = position; sort = formal.sort }) (known_formal formal)
        here position inside = record { name = refl; sort = refl; slot = inside; is_sort = sort_is script formal.sort formal.sort_token parts.0 }

        step : (b : Bool) → site_faults script known (formal_position Called b) (if b then exact formal.sort else value_expected_sort Called formal.sort) actual ≡ []
            → slot + length (cond (not b) (formal ∷ value_formals formals) (value_formals formals)) ≤ slots
            → ((next : ℕ) → next + length (value_formals formals) ≤ slots → Agrees script slots (formals_of_call scope next formals actuals) (map known_formal formals))
            → Agrees script slots
            (if b
            then record { name = formal.name; slot = slot_of scope (name_of actual); sort = formal.sort } ∷ formals_of_call scope slot formals actuals
            else record { name = formal.name; slot = slot; sort = formal.sort } ∷ formals_of_call scope (slot + 1) formals actuals)
            (known_formal formal ∷ map known_formal formals)
        step true site inside others = (here (slot_of scope (name_of actual)) (result_slot formal.sort actual site), others slot inside)
        step false site inside others = (here slot (omega arith), others (slot + 1) (omega arith))
