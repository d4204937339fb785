-- A well-formed script has no violations, and none of its parts has any.
use Rattle.std.proofs.Common.{◌≡◌, ℕ, Bool, true, false, not, ◌==◌, List, [], ◌∷◌, ◌++◌, map, length, Option, Some, None, Contains, flat_map, refl, sym, inl}
use Rattle.std.proofs.lemmas.Bool.{eqb-true}
use Rattle.std.proofs.lemmas.List.Elements.{All-contains, All-from_recursion}
use Rattle.std.specs.Str.{bytes_eq}
use Rattle.tb_syntax.specs.declared.ast.Ast.{Ast}
use Rattle.tb_syntax.specs.declared.proc.Call.{Call}
use Rattle.tb_syntax.specs.declared.script.ProcDef.{ProcDef}
use Rattle.tb_syntax.specs.declared.script.Script.{Script}
use Rattle.tb_types.specs.declared.violation.Violation.{Violation}
use Rattle.tb_types.specs.declared.violation.Rule.TheVariants.{NoProcess, NoTool, NoFunction, Arity, NotResult, TypeClash}
use Rattle.tb_types.specs.declared.calls.Manner.{Manner}
use Rattle.tb_types.specs.declared.positions.Position.{Position}
use Rattle.tb_types.specs.declared.scope.Known.{Known}
use Rattle.tb_types.specs.Bodies.{proc_faults, process_faults, root_faults, script_faults}
use Rattle.tb_types.specs.Violation.{noted_if}
use Rattle.tb_types.specs.Calls.{actuals_faults, call_faults, found_call_faults, has_wrong_actuals}
use Rattle.tb_types.specs.Conditions.{IsIn, Proper}
use Rattle.tb_types.specs.Definitions.{formals_faults, none_seen, process_repeats, tools_faults}
use Rattle.tb_types.specs.ExpectedSorts.{Expectation, clashes, lacks_function, lacks_result, lacks_tool, site_faults}
use Rattle.tb_types.specs.Exprs.{expr_faults}
use Rattle.tb_types.specs.Names.{process_named}
use Rattle.tb_types.specs.Positions.{misplaced}
use Rattle.tb_types.specs.Scopes.{known_formal}
use Rattle.tb_expand.proofs.NoFaults.{append_none, flat_map_each, flat_map_found, noted_none}

-- a list of violations without members is empty
no_member : (faults : List Violation) → ((fault : Violation) → IsIn fault faults → ⊥) → faults ≡ []
no_member [] none = refl
no_member (fault ∷ faults) none = absurd (none fault (inl refl))

pub none_violated : (script : Script) → Proper script → script_faults script ≡ []
none_violated script proper = no_member (script_faults script) (λ fault. proper fault.rule fault.token)

-- a script by its parts
pub record IsFaultFree (script : Script) : Type 0 where
  pub tools : tools_faults script.tools ≡ []
  pub names : process_repeats none_seen script.procs ≡ []
  pub procs : flat_map (process_faults script) script.procs ≡ []
  pub roots : flat_map (root_faults script) script.roots ≡ []

pub fault_free : (script : Script) → Proper script → IsFaultFree script
fault_free script proper =
    let tools = tools_faults script.tools in
    let repeats = process_repeats none_seen script.procs in
    let procs = flat_map (process_faults script) script.procs in
    let roots = flat_map (root_faults script) script.roots in
    let first = append_none (tools ++ repeats ++ procs) roots (none_violated script proper) in
    let second = append_none (tools ++ repeats) procs first.0 in
    let third = append_none tools repeats second.0 in
    record { tools = third.0; names = third.1; procs = second.1; roots = first.1 }

-- a definition by its parts
pub record IsFreeDefinition (script : Script) (d : ProcDef) : Type 0 where
  pub formals : formals_faults script.tools d.formals ≡ []
  pub body : proc_faults script d.body (map known_formal d.formals) ≡ []

by_parts : (script : Script) (d : ProcDef) → process_faults script d ≡ [] → IsFreeDefinition script d
by_parts script d none =
    let parts = append_none (formals_faults script.tools d.formals) (proc_faults script d.body (map known_formal d.formals)) none in
    record { formals = parts.0; body = parts.1 }

pub free_definition : (script : Script) (d : ProcDef) → Proper script → Contains script.procs d → IsFreeDefinition script d
free_definition script d proper there =
    let each = flat_map_each (process_faults script) script.procs (fault_free script proper).procs in
    by_parts script d (All-contains (λ other. process_faults script other ≡ []) script.procs d (All-from_recursion (λ other. process_faults script other ≡ []) script.procs each) there)

pub free_named : (script : Script) (name : List ℕ) (d : ProcDef) → Proper script → process_named script.procs name ≡ Some d → IsFreeDefinition script d
free_named script name d proper found =
    by_parts script d (flat_map_found (process_faults script) (λ (other : ProcDef). bytes_eq other.name name) script.procs d found (fault_free script proper).procs)

-- an expression at its place
pub record IsFreeSite (script : Script) (known : List Known) (position : Position) (expected_sort : Expectation) (e : Ast) : Type 0 where
  pub tool : lacks_tool script expected_sort e ≡ false
  pub function : lacks_function expected_sort e ≡ false
  pub expr : expr_faults known e ≡ []
  pub positioned : misplaced position e ≡ []
  pub result : lacks_result expected_sort e ≡ false
  pub fits : clashes script known expected_sort e ≡ false

pub free_site : (script : Script) (known : List Known) (position : Position) (expected_sort : Expectation) (e : Ast) → site_faults script known position expected_sort e ≡ [] → IsFreeSite script known position expected_sort e
free_site script known position expected_sort e none =
    let tool = noted_if (lacks_tool script expected_sort e) NoTool e.token in
    let function = noted_if (lacks_function expected_sort e) NoFunction e.token in
    let result = noted_if (lacks_result expected_sort e) NotResult e.token in
    let clash = noted_if (clashes script known expected_sort e) TypeClash e.token in
    let first = append_none (tool ++ function ++ expr_faults known e ++ misplaced position e ++ result) clash none in
    let second = append_none (tool ++ function ++ expr_faults known e ++ misplaced position e) result first.0 in
    let third = append_none (tool ++ function ++ expr_faults known e) (misplaced position e) second.0 in
    let fourth = append_none (tool ++ function) (expr_faults known e) third.0 in
    let fifth = append_none tool function fourth.0 in
    record {
      tool = noted_none (lacks_tool script expected_sort e) NoTool e.token fifth.0;
      function = noted_none (lacks_function expected_sort e) NoFunction e.token fifth.1;
      expr = fourth.1;
      positioned = third.1;
      result = noted_none (lacks_result expected_sort e) NotResult e.token second.1;
      fits = noted_none (clashes script known expected_sort e) TypeClash e.token first.1;
    }

-- a call, a `create`, or a root: the process exists, and takes this many arguments
pub record IsFreeCall (script : Script) (known : List Known) (manner : Manner) (call : Call) : Type 0 where
  pub called : ProcDef
  pub is : process_named script.procs call.name ≡ Some called
  pub count : length call.actuals ≡ length called.formals
  pub actuals : actuals_faults script known manner called.formals 0 call.actuals ≡ []

as_many : (m n : ℕ) → not (m == n) ≡ false → m ≡ n
as_many m n e = eqb-true m n (not_not (m == n) e) where
  not_not : (b : Bool) → not b ≡ false → b ≡ true
  not_not true h = refl
  not_not false h = sym h

pub free_call : (script : Script) (known : List Known) (manner : Manner) (call : Call) → call_faults script known manner call ≡ [] → IsFreeCall script known manner call
free_call script known manner call e = found (process_named script.procs call.name) refl e where
  found : (o : Option ProcDef) → process_named script.procs call.name ≡ o → found_call_faults script known manner o call ≡ [] → IsFreeCall script known manner call
  found None is h =
      let some : true ≡ false = noted_none true NoProcess call.token (append_none (noted_if true NoProcess call.token) (actuals_faults script known manner [] 0 call.actuals) h).0 in
      absurd (cc)
  found (Some d) is h =
      let wrong = noted_if (has_wrong_actuals (Some d) call.actuals) Arity call.token in
      let parts = append_none wrong (actuals_faults script known manner d.formals 0 call.actuals) h in
      record { called = d; is = is; count = as_many _ _ (noted_none (has_wrong_actuals (Some d) call.actuals) Arity call.token parts.0); actuals = parts.1 }
