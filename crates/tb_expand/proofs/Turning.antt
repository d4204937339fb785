-- A path that closes a cycle gives a cycle, after the path is cut and rotated.
use Rattle.std.proofs.Common.{◌≡◌, ℕ, ◌<◌, ◌≤◌, ◌⊎◌, inl, inr, Bool, true, false, cond, nat_lt, eqb, List, [], ◌∷◌, ◌++◌, length, get_or, take, drop, Contains, refl, ap, sym, ◌∙◌, subst, arith, take-append-drop, append_assoc, append-nil, length-take-le, length-drop, ◌-◌}
use Rattle.std.specs.List.{IsFirstBest}
use Rattle.std.proofs.lemmas.Bool.{eqb-true, eqb-false, ltb-false}
use Rattle.std.proofs.lemmas.Option.{slice_get_within}
use Rattle.std.proofs.lemmas.List.{get_or_at}
use Rattle.std.proofs.lemmas.List.Elements.{Contains-append_left, Contains-append_right, Contains-append_cases}
use Rattle.tb_expand.specs.declared.walk.Visit.TheVariants.{Open}
use Rattle.tb_expand.specs.declared.walk.Walk.{Walk}
use Rattle.tb_expand.specs.Helpers.Graphs.{Graph, AllDiffer, IsGraphPath, IsGraphCycle}
use Rattle.tb_expand.specs.Helpers.Walks.{IsWay, ClosesCycle}
use Rattle.tb_expand.specs.Helpers.TurnedCycles.{onward, IsTurned}
use Rattle.tb_expand.proofs.Readings.{none_in, contains_there, contains_cases}
use Rattle.tb_expand.proofs.Differing.{differ_behind, differ_turned, way_behind, leads_back, path_turned}

-- a way up to a position of it, and from it on
record IsCut (again : ℕ) (way : List ℕ) : Type 0 where
  before : List ℕ
  others : List ℕ
  whole : way ≡ before ++ again ∷ others
  part : onward again way ≡ again ∷ others

cut_at : (again : ℕ) (way : List ℕ) → Contains way again → IsCut again way
cut_at again [] c = absurd (none_in again c)
cut_at again (position ∷ way) c = step (eqb position again) refl (λ i. cut_at again way i) where
  step : (b : Bool) → eqb position again ≡ b → (Contains way again → IsCut again way) → IsCut again (position ∷ way)
  step true e ih = record {
    before = [];
    others = way;
    whole = ap (λ (p : ℕ). p ∷ way) (eqb-true position again e);
    part = ap (λ (b : Bool). cond b (position ∷ way) (onward again way)) e ∙ ap (λ (p : ℕ). p ∷ way) (eqb-true position again e);
  }
  step false e ih = further (ih (later (contains_cases position way again c))) where
    later : (position ≡ again) ⊎ Contains way again → Contains way again
    later (inl h) = absurd (eqb-false position again e h)
    later (inr i) = i

    further : IsCut again way → IsCut again (position ∷ way)
    further r = record {
      before = position ∷ r.before;
      others = r.others;
      whole = ap (λ (ps : List ℕ). position ∷ ps) r.whole;
      part = ap (λ (b : Bool). cond b (position ∷ way) (onward again way)) e ∙ r.part;
    }

-- the way leads back to the position at which it was cut
cut_leads : (graph : Graph) (again : ℕ) (way : List ℕ) (cut : IsCut again way) → IsWay graph (way ++ again ∷ []) → IsGraphPath graph again again cut.others
cut_leads graph again way cut l =
    let whole : way ++ (again ∷ []) ≡ cut.before ++ (again ∷ (cut.others ++ (again ∷ []))) = ap (λ (ps : List ℕ). ps ++ (again ∷ [])) cut.whole ∙ append_assoc cut.before (again ∷ cut.others) (again ∷ []) in
    leads_back graph again again cut.others (way_behind graph cut.before (again ∷ (cut.others ++ (again ∷ []))) (subst (IsWay graph) whole l))

-- What a cycle is, before the least position stands first.
record GoesInCycle (graph : Graph) (positions : List ℕ) : Type 0 where
  first : ℕ
  others : List ℕ
  is : positions ≡ first ∷ others
  graph_path : IsGraphPath graph first first others
  differ : AllDiffer positions

turned_path : (graph : Graph) (prefix : List ℕ) (position : ℕ) (others : List ℕ) → GoesInCycle graph (prefix ++ position ∷ others) → IsGraphPath graph position position (others ++ prefix)
turned_path graph [] position others r =
    let same : ◌≡◌ {A = List ℕ} (position ∷ others) (r.first ∷ r.others) = r.is in
    let same_first : r.first ≡ position = cc in
    let same_others : r.others ≡ others ++ [] = sym (append-nil others ∙ (cc)) in
    subst (λ (ps : List ℕ). IsGraphPath graph position position ps) same_others (subst (λ (p : ℕ). IsGraphPath graph p p r.others) same_first r.graph_path)
turned_path graph (first ∷ prefix) position others r =
    let same : ◌≡◌ {A = List ℕ} (first ∷ (prefix ++ (position ∷ others))) (r.first ∷ r.others) = r.is in
    let same_first : r.first ≡ first = cc in
    let same_others : r.others ≡ prefix ++ (position ∷ others) = cc in
    path_turned graph first prefix position others
    (subst (λ (ps : List ℕ). IsGraphPath graph first first ps) same_others (subst (λ (p : ℕ). IsGraphPath graph p p r.others) same_first r.graph_path))

-- no position is less than the best
least_first : (positions : List ℕ) (at : ℕ) → IsFirstBest nat_lt positions (length positions) at → (position : ℕ) → Contains positions position → get_or positions at position ≤ position
least_first positions at best position c =
    let least : get_or positions at position ≤ get_or positions c.0 position = ltb-false (get_or positions c.0 position) (get_or positions at position) (best.1 c.0 position c.1) in
    omega (arith, least, c.2)

module _ (graph : Graph) (walk : Walk) (again : ℕ) (r : ClosesCycle graph walk again) where
  cut : IsCut again walk.way
  cut = cut_at again walk.way r.on_way

  goes_in_cycle : GoesInCycle graph (onward again walk.way)
  unfolding cut
  goes_in_cycle = record {
    first = again;
    others = cut.others;
    is = cut.part;
    graph_path = cut_leads graph again walk.way cut r.leads;
    differ = subst AllDiffer (sym cut.part) (differ_behind cut.before (again ∷ cut.others) (subst AllDiffer cut.whole r.is_walk.differ));
  }

  all_inside : (position : ℕ) → Contains (onward again walk.way) position → position < length graph
  all_inside position c =
      let on_way : Contains walk.way position
      = subst (λ (ps : List ℕ). Contains ps position) (sym cut.whole) (Contains-append_right cut.before (again ∷ cut.others) position (subst (λ (ps : List ℕ). Contains ps position) cut.part c)) in
      let here = r.is_walk.is_open position on_way in
      omega (arith, slice_get_within walk.visits position (Open here.0) here.1, r.is_walk.sized)

  pub turned_is_cycle : (positions : List ℕ) → IsTurned (onward again walk.way) positions → IsGraphCycle graph positions
  turned_is_cycle positions t = by_parts (take t.0 call_cycle) (drop t.0 call_cycle) (take-append-drop t.0 call_cycle) (length-take-le t.0 call_cycle (omega (arith, t.1.0))) (length-drop t.0 call_cycle) t.2 where
    call_cycle : List ℕ
    call_cycle = onward again walk.way

    by_parts : (prefix back : List ℕ) → prefix ++ back ≡ onward again walk.way → length prefix ≡ t.0 → length back ≡ length (onward again walk.way) - t.0
        → positions ≡ back ++ prefix → IsGraphCycle graph positions
    by_parts prefix [] whole long rest is = absurd (omega (arith, t.1.0))
    by_parts prefix (position ∷ others) whole long rest is = record {
      first = position;
      others = others ++ prefix;
      is = is;
      graph_path = turned_path graph prefix position others (subst (GoesInCycle graph) (sym whole) goes_in_cycle);
      differ = subst AllDiffer (sym is) differ;
      inside = λ q c. all_inside q (in_cycle q c);
      is_first = λ q c. omega (arith, least q (in_others q c), λ (e : position ≡ q). differ.0 (subst (λ (p : ℕ). Contains (others ++ prefix) p) (sym e) c));
    } where
      differ : AllDiffer ((position ∷ others) ++ prefix)
      differ = differ_turned prefix (position ∷ others) (subst AllDiffer (sym whole) goes_in_cycle.differ)

      swapped : (q : ℕ) → Contains (position ∷ others) q ⊎ Contains prefix q → Contains (prefix ++ position ∷ others) q
      swapped q (inl c) = Contains-append_right prefix (position ∷ others) q c
      swapped q (inr c) = Contains-append_left prefix (position ∷ others) q c

      in_cycle : (q : ℕ) → Contains positions q → Contains (onward again walk.way) q
      in_cycle q c =
          subst (λ (ps : List ℕ). Contains ps q) whole (swapped q (Contains-append_cases (position ∷ others) prefix q (subst (λ (ps : List ℕ). Contains ps q) is c)))

      in_others : (q : ℕ) → Contains (others ++ prefix) q → Contains (onward again walk.way) q
      in_others q c = in_cycle q (subst (λ (ps : List ℕ). Contains ps q) (sym is) (contains_there position (others ++ prefix) q c))

      here : (q : ℕ) → get_or (onward again walk.way) t.0 q ≡ position
      here q = ap (λ (ps : List ℕ). get_or ps t.0 q) (sym whole) ∙ get_or_at prefix position others q t.0 long

      least : (q : ℕ) → Contains (onward again walk.way) q → position ≤ q
      least q c = subst (λ (p : ℕ). p ≤ q) (here q) (least_first (onward again walk.way) t.0 t.1 q c)

-- a position that stands on a way is reached
pub some_onward : (again : ℕ) (way : List ℕ) → Contains way again → 0 < length (onward again way)
some_onward again way c = let cut = cut_at again way c in subst (λ (ps : List ℕ). 0 < length ps) (sym cut.part) (omega arith)
