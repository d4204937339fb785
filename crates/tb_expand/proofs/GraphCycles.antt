-- Orders and cycles of the call graph, and their meaning for the script: no calls form a cycle, or these calls do.
use Rattle.std.proofs.Common.{◌≡◌, ℕ, zero, suc, ◌<◌, ◌⊎◌, inl, inr, List, [], ◌∷◌, length, get_or, take, slice_get, Option, Some, None, option_map, option_to_list, Contains, All, refl, ap, sym, ◌∙◌, subst, arith}
use Rattle.std.proofs.lemmas.Option.{same_Some, slice_get-map, slice_get_within, slice_get-get_or, get_or_from_slice_get}
use Rattle.std.proofs.lemmas.List.{length-map, length-take, get_or-take}
use Rattle.std.proofs.lemmas.List.Elements.{Contains-append_left, Contains-append_right, Contains-append_cases, Contains-get_or}
use Rattle.tb_syntax.specs.declared.script.ProcDef.{ProcDef}
use Rattle.tb_syntax.specs.declared.script.Script.{Script}
use Rattle.tb_types.specs.NamePositions.{position_of, process_name}
use Rattle.tb_expand.specs.Acts.{process_of}
use Rattle.tb_expand.specs.Cycles.{called, Calls, IsCallPath, Differ, IsCycle}
use Rattle.tb_expand.specs.Faults.{HasNoCycle}
use Rattle.tb_expand.specs.Helpers.Graphs.{next_positions, or_nowhere, IsClosed, IsOrder, IsGraphCycle, IsGraphPath, AllDiffer}
use Rattle.tb_expand.specs.Helpers.CallGraphs.{names_in, positions_of, graph_of, name_at, names_of, NamesDiffer, AllDefined}
use Rattle.tb_expand.proofs.Readings.{none_in, contains_at, contains_here, contains_there, contains_cases, at_contains}
use Rattle.tb_expand.proofs.NamedPositions.{found_there, position_there, position_is, position_in_both}

positions_called : Script → ProcDef → List ℕ
positions_called script d = positions_of script (called d.body)

-- a name stands behind a position
in_positions : (script : Script) (names : List (List ℕ)) (position : ℕ) → Contains (positions_of script names) position
    → (name : List ℕ) × Contains names name × (position_of (names_in script) name ≡ Some position)
in_positions script [] position c = absurd (none_in position c)
in_positions script (name ∷ names) position c =
    split (Contains-append_cases (option_to_list (position_of (names_in script) name)) (positions_of script names) position c) (λ i. in_positions script names position i) where
      here : (o : Option ℕ) → Contains (option_to_list o) position → o ≡ Some position
      here None c = absurd (none_in position c)
      here (Some p) c = only (contains_cases p [] position c) where
        only : (p ≡ position) ⊎ Contains [] position → Some p ≡ Some position
        only (inl e) = ap (λ (n : ℕ). Some n) e
        only (inr i) = absurd (none_in position i)

      split : Contains (option_to_list (position_of (names_in script) name)) position ⊎ Contains (positions_of script names) position
          → (Contains (positions_of script names) position → (other : List ℕ) × Contains names other × (position_of (names_in script) other ≡ Some position))
          → (other : List ℕ) × Contains (name ∷ names) other × (position_of (names_in script) other ≡ Some position)
      split (inl c) ih = (name, contains_here name names, here (position_of (names_in script) name) c)
      split (inr c) ih = let r = ih c in (r.0, contains_there name names r.0 r.1, r.2)

-- a name that has a position leads there
from_names : (script : Script) (names : List (List ℕ)) (name : List ℕ) (position : ℕ) → Contains names name → position_of (names_in script) name ≡ Some position
    → Contains (positions_of script names) position
from_names script [] name position c h = absurd (none_in name c)
from_names script (other ∷ names) name position c h = split (contains_cases other names name c) (λ i. from_names script names name position i h) where
  split : (other ≡ name) ⊎ Contains names name → (Contains names name → Contains (positions_of script names) position) → Contains (positions_of script (other ∷ names)) position
  split (inl e) ih =
      let there : position_of (names_in script) other ≡ Some position = ap (position_of (names_in script)) e ∙ h in
      let at_front : Contains (option_to_list (position_of (names_in script) other)) position
      = subst (λ (o : Option ℕ). Contains (option_to_list o) position) (sym there) (contains_here position []) in
      Contains-append_left (option_to_list (position_of (names_in script) other)) (positions_of script names) position at_front
  split (inr i) ih = Contains-append_right (option_to_list (position_of (names_in script) other)) (positions_of script names) position (ih i)

-- The successors of a position, from the definition at this position.
record Leads (script : Script) (position next : ℕ) : Type 0 where
  d : ProcDef
  there : slice_get script.procs position ≡ Some d
  name : List ℕ
  called_there : Contains (called d.body) name
  next_is : position_of (names_in script) name ≡ Some next

next_of : (script : Script) (position : ℕ) → next_positions (graph_of script) position ≡ or_nowhere (option_map (λ (d : ProcDef). positions_of script (called d.body)) (slice_get script.procs position))
next_of script position = ap or_nowhere (slice_get-map (λ (d : ProcDef). positions_of script (called d.body)) script.procs position)

leads_by : (script : Script) (position next : ℕ) → Contains (next_positions (graph_of script) position) next → Leads script position next
leads_by script position next c = by_def (slice_get script.procs position) refl (subst (λ (ps : List ℕ). Contains ps next) (next_of script position) c) where
  by_def : (o : Option ProcDef) → slice_get script.procs position ≡ o → Contains (or_nowhere (option_map (λ (d : ProcDef). positions_of script (called d.body)) o)) next → Leads script position next
  by_def None e c = absurd (none_in next c)
  by_def (Some d) e c = let r = in_positions script (called d.body) next c in record { d = d; there = e; name = r.0; called_there = r.1; next_is = r.2 }

pub leads_from : (script : Script) (position next : ℕ) (d : ProcDef) (name : List ℕ) → slice_get script.procs position ≡ Some d → Contains (called d.body) name
    → position_of (names_in script) name ≡ Some next → Contains (next_positions (graph_of script) position) next
leads_from script position next d name there c h =
    let is : next_positions (graph_of script) position ≡ positions_of script (called d.body)
    = next_of script position ∙ ap (λ (o : Option ProcDef). or_nowhere (option_map (λ (e : ProcDef). positions_of script (called e.body)) o)) there in
    subst (λ (ps : List ℕ). Contains ps next) (sym is) (from_names script (called d.body) name next c h)

-- the name of the definition at a position
named_there : (script : Script) (position : ℕ) (d : ProcDef) → slice_get script.procs position ≡ Some d → slice_get (names_in script) position ≡ Some d.name
named_there script position d h = slice_get-map process_name script.procs position ∙ ap (option_map process_name) h

name_is : (script : Script) (position : ℕ) (name : List ℕ) → slice_get (names_in script) position ≡ Some name → name_at script position ≡ name
name_is script position name h = get_or_from_slice_get (names_in script) position name [] h

as_many : (script : Script) → length (names_in script) ≡ length (graph_of script)
as_many script = length-map script.procs process_name ∙ sym (length-map script.procs (λ (d : ProcDef). positions_of script (called d.body)))

-- no call leads out of the graph
pub graph_is_closed : (script : Script) → IsClosed (graph_of script)
graph_is_closed script position next c =
    let l = leads_by script position next c in
    omega (arith, slice_get_within (names_in script) next l.name (found_there (names_in script) l.name next l.next_is), as_many script)

-- the positions of a cycle are those of processes
pub cycle_in_script : (script : Script) (positions : List ℕ) → IsGraphCycle (graph_of script) positions → All (λ position. position < length script.procs) positions
cycle_in_script script positions r k d h =
    omega (arith, r.inside (get_or positions k d) (Contains-get_or positions k d h), length-map script.procs (λ (e : ProcDef). positions_of script (called e.body)))

-- the process at a position calls the process at each successor
calls_there : (script : Script) (position next : ℕ) → Contains (next_positions (graph_of script) position) next → Calls script (name_at script position) (name_at script next)
calls_there script position next c =
    let l = leads_by script position next c in
    let next_name : name_at script next ≡ l.name = name_is script next l.name (found_there (names_in script) l.name next l.next_is) in
    (l.d, contains_at script.procs position l.d l.there, sym (name_is script position l.d.name (named_there script position l.d l.there)), subst (λ (n : List ℕ). Contains (called l.d.body) n) (sym next_name) l.called_there)

-- if names differ, the callee's position is a successor of the caller's
leads_there : (script : Script) → NamesDiffer script → (caller name : List ℕ) (position next : ℕ) → Calls script caller name
    → position_of (names_in script) caller ≡ Some position → position_of (names_in script) name ≡ Some next → Contains (next_positions (graph_of script) position) next
leads_there script differ caller name position next calls h k =
    let d = calls.0 in
    let at = at_contains script.procs d calls.1 in
    let own : position_of (names_in script) d.name ≡ Some at.0 = position_is (names_in script) differ d.name at.0 (named_there script at.0 d at.1) in
    let same : at.0 ≡ position = same_Some at.0 position (sym own ∙ ap (position_of (names_in script)) calls.2 ∙ h) in
    leads_from script position next d name (subst (λ (n : ℕ). slice_get script.procs n ≡ Some d) same at.1) calls.3 k

-- a caller is defined
caller_there : (script : Script) (caller name : List ℕ) → Calls script caller name → (position : ℕ) × (position_of (names_in script) caller ≡ Some position)
caller_there script caller name calls =
    let at = at_contains script.procs calls.0 calls.1 in
    position_there (names_in script) caller (subst (λ (n : List ℕ). Contains (names_in script) n) calls.2 (contains_at (names_in script) at.0 calls.0.name (named_there script at.0 calls.0 at.1)))

prefixed : {A : Type 0} (xs : List A) (at : ℕ) (x : A) → Contains (take at xs) x → (i : ℕ) × (i < at) × (slice_get xs i ≡ Some x)
prefixed xs at x c =
    let below : c.0 < at = omega (arith, c.1, length-take at xs) in
    let within : c.0 < length xs = omega (arith, c.1, length-take at xs) in
    (c.0, below, slice_get-get_or xs c.0 x within ∙ ap (λ y. Some y) (sym (get_or-take at xs c.0 x below) ∙ c.2))

-- each process of a cycle of calls calls a process of the cycle
calls_on : (script : Script) (Member : List ℕ → Type 0) (back caller : List ℕ) (names : List (List ℕ)) → IsCallPath script back caller names → Member back
    → ((name : List ℕ) → Contains names name → Member name) → (name : List ℕ) → Contains (caller ∷ names) name → (other : List ℕ) × Member other × Calls script name other
calls_on script Member back caller [] go m ms name c = only (contains_cases caller [] name c) where
  only : (caller ≡ name) ⊎ Contains [] name → (other : List ℕ) × Member other × Calls script name other
  only (inl e) = (back, m, subst (λ (n : List ℕ). Calls script n back) e go)
  only (inr i) = absurd (none_in name i)
calls_on script Member back caller (next ∷ names) go m ms name c =
    split (contains_cases caller (next ∷ names) name c) (λ i. calls_on script Member back next names go.1 m (λ n j. ms n (contains_there next names n j)) name i) where
      split : (caller ≡ name) ⊎ Contains (next ∷ names) name → (Contains (next ∷ names) name → (other : List ℕ) × Member other × Calls script name other)
          → (other : List ℕ) × Member other × Calls script name other
      split (inl e) ih = (next, ms next (contains_here next names), subst (λ (n : List ℕ). Calls script n next) e go.0)
      split (inr i) ih = ih i

module _ (script : Script) (differ : NamesDiffer script) where
  -- no process of a cycle is in an order: the processes that it calls would come before it
  module _ (order : List ℕ) (ordered : IsOrder (graph_of script) order) (names : List (List ℕ)) (cycle : IsCycle script names) where
    abbrev Member : List ℕ → Type 0
    Member name = Contains (cycle.first ∷ cycle.others) name

    calls_member : (name : List ℕ) → Member name → (other : List ℕ) × Member other × Calls script name other
    calls_member name c =
        calls_on script Member cycle.first cycle.first cycle.others cycle.call_path (contains_here cycle.first cycle.others) (λ n i. contains_there cycle.first cycle.others n i) name c

    none_below : (bound at : ℕ) → at < bound → (name : List ℕ) → Member name → (position : ℕ) → position_of (names_in script) name ≡ Some position → slice_get order at ≡ Some position → ⊥
    none_below zero at below name c position h there = omega arith
    none_below (suc bound) at below name c position h there =
        let on = calls_member name c in
        let after = calls_member on.0 on.1 in
        let next = caller_there script on.0 after.0 after.2 in
        let leads : Contains (next_positions (graph_of script) position) next.0 = leads_there script differ name on.0 position next.0 on.2 h next.1 in
        let before = prefixed order at next.0 (ordered.behind at position next.0 there leads) in
        none_below bound before.0 (omega (arith, before.1)) on.0 on.1 next.0 next.1 before.2

    no_cycle : ⊥
    no_cycle =
        let first_member : Member cycle.first = contains_here cycle.first cycle.others in
        let on = calls_member cycle.first first_member in
        let position = caller_there script cycle.first on.0 on.2 in
        let within : position.0 < length (graph_of script) = omega (arith, slice_get_within (names_in script) position.0 cycle.first (found_there (names_in script) cycle.first position.0 position.1), as_many script) in
        let at = at_contains order position.0 (ordered.complete position.0 within) in
        none_below (suc at.0) at.0 (omega arith) cycle.first first_member position.0 position.1 at.1

  pub order_has_no_cycle : (order : List ℕ) → IsOrder (graph_of script) order → HasNoCycle script
  order_has_no_cycle order ordered names cycle = no_cycle order ordered names cycle

  -- the names at positions of the graph differ as these do
  there_by_name : (position : ℕ) → position < length (graph_of script) → position_of (names_in script) (name_at script position) ≡ Some position
  there_by_name position h =
      position_is (names_in script) differ (name_at script position) position (slice_get-get_or (names_in script) position [] (omega (arith, as_many script)))

  named_in : (positions : List ℕ) (name : List ℕ) → Contains (names_of script positions) name → (position : ℕ) × Contains positions position × (name_at script position ≡ name)
  named_in [] name c = absurd (none_in name c)
  named_in (position ∷ positions) name c = split (contains_cases (name_at script position) (names_of script positions) name c) (λ i. named_in positions name i) where
    split : (name_at script position ≡ name) ⊎ Contains (names_of script positions) name → (Contains (names_of script positions) name → (p : ℕ) × Contains positions p × (name_at script p ≡ name))
        → (p : ℕ) × Contains (position ∷ positions) p × (name_at script p ≡ name)
    split (inl e) ih = (position, contains_here position positions, e)
    split (inr i) ih = let r = ih i in (r.0, contains_there position positions r.0 r.1, r.2)

  names_differ : (positions : List ℕ) → ((position : ℕ) → Contains positions position → position < length (graph_of script)) → AllDiffer positions → Differ (names_of script positions)
  names_differ [] inside d = tt
  names_differ (position ∷ positions) inside d = (λ c. apart (named_in positions (name_at script position) c), names_differ positions (λ p c. inside p (contains_there position positions p c)) d.1) where
    apart : (p : ℕ) × Contains positions p × (name_at script p ≡ name_at script position) → ⊥
    apart r =
        let by_other = there_by_name r.0 (inside r.0 (contains_there position positions r.0 r.1)) in
        let by_own = there_by_name position (inside position (contains_here position positions)) in
        let same : r.0 ≡ position = same_Some r.0 position (sym by_other ∙ ap (position_of (names_in script)) r.2 ∙ by_own) in
        d.0 (subst (λ (p : ℕ). Contains positions p) same r.1)

  goes_in_cycle : (back position : ℕ) (positions : List ℕ) → IsGraphPath (graph_of script) back position positions → IsCallPath script (name_at script back) (name_at script position) (names_of script positions)
  goes_in_cycle back position [] l = calls_there script position back l
  goes_in_cycle back position (next ∷ positions) l = (calls_there script position next l.0, goes_in_cycle back next positions l.1)

  process_there : (position : ℕ) → position < length (graph_of script) → process_of script (name_at script position) ≡ position
  process_there position h = position_in_both (names_in script) (name_at script position) position (there_by_name position h)

  pub graph_cycle_is_cycle : (positions : List ℕ) → IsGraphCycle (graph_of script) positions → IsCycle script (names_of script positions)
  graph_cycle_is_cycle positions r = record {
    first = name_at script r.first;
    others = names_of script r.others;
    is = ap (names_of script) r.is;
    call_path = goes_in_cycle r.first r.first r.others r.graph_path;
    differ = names_differ positions r.inside r.differ;
    is_first = λ name c. later name (named_in r.others name c);
  } where
    stands : (position : ℕ) → Contains (r.first ∷ r.others) position → Contains positions position
    stands position c = subst (λ (ps : List ℕ). Contains ps position) (sym r.is) c

    later : (name : List ℕ) → (position : ℕ) × Contains r.others position × (name_at script position ≡ name) → process_of script (name_at script r.first) < process_of script name
    later name p =
        let own = process_there r.first (r.inside r.first (stands r.first (contains_here r.first r.others))) in
        let other = process_there p.0 (r.inside p.0 (stands p.0 (contains_there r.first r.others p.0 p.1))) in
        omega (arith, own, other, ap (process_of script) p.2, r.is_first p.0 p.1)

  -- in an order, each process comes after the processes that it calls
  pub calls_go_down : AllDefined script → (order : List ℕ) → IsOrder (graph_of script) order → (at position : ℕ) (d : ProcDef) (name : List ℕ)
      → slice_get order at ≡ Some position → slice_get script.procs position ≡ Some d → Contains (called d.body) name → Contains (take at order) (process_of script name)
  calls_go_down defined order ordered at position d name there here c =
      let next = position_there (names_in script) name (defined d name (contains_at script.procs position d here) c) in
      subst (λ (p : ℕ). Contains (take at order) p) (sym (position_in_both (names_in script) name next.0 next.1))
      (ordered.behind at position next.0 there (leads_from script position next.0 d name here c next.1))
