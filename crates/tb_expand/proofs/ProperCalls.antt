-- In a well-formed script, names differ and each call names a process. So an order of the call graph is an order of the processes.
use Rattle.std.proofs.Common.{◌≡◌, ℕ, ◌<◌, ◌⊎◌, inl, inr, Bool, true, false, cond, List, [], ◌∷◌, ◌++◌, map, length, take, slice_get, Some, None, Contains, bytes_eq, refl, ap, sym, ◌∙◌, subst}
use Rattle.std.proofs.lemmas.List.{length-map}
use Rattle.std.proofs.lemmas.List.Elements.{Contains-append_cases}
use Rattle.std.proofs.lemmas.Slice.Eq.{bytes_eq-Decides}
use Rattle.tb_terms.specs.declared.sort.Sort.TheVariants as sorts
use Rattle.tb_syntax.specs.declared.proc.Call.{Call}
use Rattle.tb_syntax.specs.declared.proc.Proc.{Proc}
use Rattle.tb_syntax.specs.declared.proc.Proc.TheOpen as layer
use Rattle.tb_syntax.specs.declared.script.ProcDef.{ProcDef}
use Rattle.tb_syntax.specs.declared.script.Script.{Script}
use Rattle.tb_types.specs.declared.violation.Violation.{Violation}
use Rattle.tb_types.specs.declared.violation.Rule.TheVariants.{Twice}
use Rattle.tb_types.specs.declared.calls.Manner.TheVariants.{Called}
use Rattle.tb_types.specs.declared.positions.Position.TheVariants.{Sent}
use Rattle.tb_types.specs.declared.scope.Known.{Known}
use Rattle.tb_types.specs.Bodies.{proc_faults, proc_step}
use Rattle.tb_types.specs.Violation.{noted_if}
use Rattle.tb_types.specs.Calls.{call_faults}
use Rattle.tb_types.specs.Conditions.{Proper}
use Rattle.tb_types.specs.Definitions.{none_seen, or_seen, repeats, vars_faults}
use Rattle.tb_types.specs.ExpectedSorts.{tested, site_faults}
use Rattle.tb_types.specs.NamePositions.{process_name}
use Rattle.tb_types.specs.Names.{process_named}
use Rattle.tb_types.specs.Scopes.{known_formal, known_var}
use Rattle.tb_expand.specs.Cycles.{called, called_step, Differ}
use Rattle.tb_expand.specs.Helpers.Graphs.{IsOrder}
use Rattle.tb_expand.specs.Helpers.CallGraphs.{graph_of, names_in, positions_of, AllDefined, NamesDiffer}
use Rattle.tb_expand.specs.Helpers.Descents.{Descends, StandsAmong}
use Rattle.tb_expand.proofs.CalledFolds.{IsKept, related}
use Rattle.tb_expand.proofs.FaultFree.{IsFreeCall, fault_free, free_call, free_definition}
use Rattle.tb_expand.proofs.GraphCycles.{leads_from}
use Rattle.tb_expand.proofs.NamedPositions.{position_there}
use Rattle.tb_expand.proofs.NoFaults.{append_none, noted_none}
use Rattle.tb_expand.proofs.Readings.{none_in, contains_at, contains_here, contains_there, contains_cases}

-- Names.

same_bytes : (name : List ℕ) → bytes_eq name name ≡ true
same_bytes name = (bytes_eq-Decides name name).1 refl

module _ {A : Type 0} (name_of : A → List ℕ) (token_of : A → ℕ) where
  -- none of these names stood before
  unseen : (seen : List ℕ → Bool) (xs : List A) → repeats name_of token_of seen xs ≡ [] → (name : List ℕ) → Contains (map name_of xs) name → seen name ≡ false
  unseen seen [] none name there = absurd (none_in name there)
  unseen seen (x ∷ xs) none name there = step (contains_cases (name_of x) (map name_of xs) name there) (λ i. unseen (or_seen (name_of x) seen) xs parts.1 name i) where
    parts : (noted_if (seen (name_of x)) Twice (token_of x) ≡ []) × (repeats name_of token_of (or_seen (name_of x) seen) xs ≡ [])
    parts = append_none (noted_if (seen (name_of x)) Twice (token_of x)) (repeats name_of token_of (or_seen (name_of x) seen) xs) none

    not_either : (b c : Bool) → cond b true c ≡ false → c ≡ false
    not_either true c h = absurd cc
    not_either false c h = h

    step : (name_of x ≡ name) ⊎ Contains (map name_of xs) name → (Contains (map name_of xs) name → or_seen (name_of x) seen name ≡ false) → seen name ≡ false
    step (inl e) ih = sym (ap seen e) ∙ noted_none (seen (name_of x)) Twice (token_of x) parts.0
    step (inr i) ih = not_either (bytes_eq (name_of x) name) (seen name) (ih i)

  all_differ : (seen : List ℕ → Bool) (xs : List A) → repeats name_of token_of seen xs ≡ [] → Differ (map name_of xs)
  all_differ seen [] none = tt
  all_differ seen (x ∷ xs) none = (once, all_differ (or_seen (name_of x) seen) xs parts.1) where
    parts : (noted_if (seen (name_of x)) Twice (token_of x) ≡ []) × (repeats name_of token_of (or_seen (name_of x) seen) xs ≡ [])
    parts = append_none (noted_if (seen (name_of x)) Twice (token_of x)) (repeats name_of token_of (or_seen (name_of x) seen) xs) none

    once : Contains (map name_of xs) (name_of x) → ⊥
    once there =
        let new : or_seen (name_of x) seen (name_of x) ≡ false = unseen (or_seen (name_of x) seen) xs parts.1 (name_of x) there in
        let stood : or_seen (name_of x) seen (name_of x) ≡ true = ap (λ (b : Bool). cond b true (seen (name_of x))) (same_bytes (name_of x)) in
        absurd (cc)

pub names_differ : (script : Script) → Proper script → NamesDiffer script
names_differ script proper = all_differ process_name (λ (d : ProcDef). d.token) none_seen script.procs (fault_free script proper).names

-- Calls.

-- a process that is found by its name has it
named : (procs : List ProcDef) (name : List ℕ) (d : ProcDef) → process_named procs name ≡ Some d → Contains (map process_name procs) name
named [] name d found = absurd cc
named (first ∷ procs) name d found = step (bytes_eq first.name name) refl found (λ h. named procs name d h) where
  step : (b : Bool) → bytes_eq first.name name ≡ b → cond b (Some first) (process_named procs name) ≡ Some d → (process_named procs name ≡ Some d → Contains (map process_name procs) name)
      → Contains (first.name ∷ map process_name procs) name
  step true e h ih = subst (Contains (first.name ∷ map process_name procs)) ((bytes_eq-Decides first.name name).0 e) (contains_here first.name (map process_name procs))
  step false e h ih = contains_there first.name (map process_name procs) name (ih h)

module _ (script : Script) where
  abbrev Found : Type 0
  Found = List Known → List Violation

  -- where nothing is violated, each of these names is that of a process
  abbrev AreDefined : Found → List (List ℕ) → Type 0
  AreDefined found names = (known : List Known) → found known ≡ [] → (name : List ℕ) → Contains names name → Contains (names_in script) name

  abbrev IsAny : List ℕ → Type 0
  IsAny name = Unit {0}

  both_defined : (x y : Found) (xs ys : List (List ℕ)) → AreDefined x xs → AreDefined y ys → AreDefined (λ known. x known ++ y known) (xs ++ ys)
  both_defined x y xs ys is_x is_y known none name there = step (append_none (x known) (y known) none) (Contains-append_cases xs ys name there) where
    step : (x known ≡ []) × (y known ≡ []) → Contains xs name ⊎ Contains ys name → Contains (names_in script) name
    step parts (inl i) = is_x known parts.0 name i
    step parts (inr i) = is_y known parts.1 name i

  call_defined : (call : Call) → AreDefined (λ known. call_faults script known Called call) (call.name ∷ [])
  call_defined call known none name there = step (contains_cases call.name [] name there) (free_call script known Called call none) where
    step : (call.name ≡ name) ⊎ Contains [] name → IsFreeCall script known Called call → Contains (names_in script) name
    step (inl e) free = named script.procs name free.called (ap (process_named script.procs) (sym e) ∙ free.is)
    step (inr i) free = absurd (none_in name i)

  kept : IsKept Found (List (List ℕ)) (proc_step script) called_step AreDefined IsAny
  kept (layer.Atom def) is known none name there = absurd (none_in name there)
  kept (layer.Call call) is known none name there = call_defined call known none name there
  kept (layer.Seq x y) is known none name there = both_defined x.0 y.0 x.1 y.1 x.2 y.2 known none name there
  kept (layer.Alt x y) is known none name there = both_defined x.0 y.0 x.1 y.1 x.2 y.2 known none name there
  kept (layer.Star x y) is known none name there = both_defined x.0 y.0 x.1 y.1 x.2 y.2 known none name there
  kept (layer.Par x y) is known none name there = both_defined x.0 y.0 x.1 y.1 x.2 y.2 known none name there
  kept (layer.Disrupt x y) is known none name there = both_defined x.0 y.0 x.1 y.1 x.2 y.2 known none name there
  kept (layer.If test x None) is known none name there =
      let tests = site_faults script known Sent (tested sorts.Bool) test in
      step (append_none tests (x.0 known) (append_none (tests ++ x.0 known) [] none).0).1 (Contains-append_cases x.1 [] name there) where
        step : x.0 known ≡ [] → Contains x.1 name ⊎ Contains [] name → Contains (names_in script) name
        step free (inl i) = x.2 known free name i
        step free (inr i) = absurd (none_in name i)
  kept (layer.If test x (Some y)) is known none name there =
      let tests = site_faults script known Sent (tested sorts.Bool) test in
      let parts = append_none (tests ++ x.0 known) (y.0 known) none in
      step (append_none tests (x.0 known) parts.0).1 parts.1 (Contains-append_cases x.1 y.1 name there) where
        step : x.0 known ≡ [] → y.0 known ≡ [] → Contains x.1 name ⊎ Contains y.1 name → Contains (names_in script) name
        step free others (inl i) = x.2 known free name i
        step free others (inr i) = y.2 known others name i
  kept (layer.Let vars x) is known none name there =
      x.2 (map known_var vars ++ known) (append_none (vars_faults script.tools vars) (x.0 (map known_var vars ++ known)) none).1 name there

  pub calls_defined : (p : Proc) → AreDefined (proc_faults script p) (called p)
  calls_defined p = related Found (List (List ℕ)) (proc_step script) called_step AreDefined IsAny kept p (λ name is. tt {0})

pub all_defined : (script : Script) → Proper script → AllDefined script
all_defined script proper d name there calls = calls_defined script d.body (map known_formal d.formals) (free_definition script d proper there).body name calls

-- Orders.

pub order_descends : (script : Script) (order : List ℕ) → AllDefined script → IsOrder (graph_of script) order → Descends script order
order_descends script order defined ordered = record { complete = complete; behind = behind } where
  complete : (position : ℕ) → position < length script.procs → Contains order position
  complete position h = ordered.complete position (subst (λ (n : ℕ). position < n) (sym (length-map script.procs (λ (d : ProcDef). positions_of script (called d.body)))) h)

  behind : (at position : ℕ) (d : ProcDef) (name : List ℕ) → slice_get order at ≡ Some position → slice_get script.procs position ≡ Some d → Contains (called d.body) name → StandsAmong script (take at order) name
  behind at position d name got there calls =
      let found = position_there (names_in script) name (defined d name (contains_at script.procs position d there) calls) in
      record { position = found.0; named = found.1; there = ordered.behind at position found.0 got (leads_from script position found.0 d name there calls found.1) }
