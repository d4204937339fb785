-- Each step of a walk keeps the invariant of walks, and leaves fewer steps.
use Rattle.std.proofs.Common.{◌≡◌, ℕ, zero, suc, ◌+◌, ◌<◌, ◌⊎◌, inl, inr, List, [], ◌∷◌, ◌++◌, length, take, set, slice_get, Option, Some, None, Contains, ap, sym, ◌∙◌, subst, arith, length-set, take_at}
use Rattle.std.proofs.lemmas.Bool.{cases_eq}
use Rattle.std.proofs.lemmas.Option.{same_Some, slice_get_within, slice_get-get_or}
use Rattle.std.proofs.lemmas.List.{length-replicate, take-append-le}
use Rattle.std.proofs.lemmas.List.Elements.{Contains-push, Contains-push_cases, Contains-append_left}
use Rattle.tb_expand.specs.declared.walk.Visit.{Visit}
use Rattle.tb_expand.specs.declared.walk.Visit.TheVariants.{New, Open, Done}
use Rattle.tb_expand.specs.declared.walk.Walk.{Walk}
use Rattle.tb_expand.specs.Helpers.Graphs.{Graph, next_positions, IsClosed, AllDiffer, IsOrder}
use Rattle.tb_expand.specs.Helpers.Walks.{IsWay, IsWalk, Continues, ClosesCycle, HasBegun, IsAtRest, start_of, opened, advanced, closed, left_at, left_in}
use Rattle.tb_expand.proofs.Readings.{none_in, contains_at, read_set, read_set_same, read_set_other, read_push, read_replicate, in_more, in_whole}
use Rattle.tb_expand.proofs.Differing.{differ_prefix, differ_push, way_prefix, way_push}

left_less_at : (graph : Graph) (visits : List Visit) (position : ℕ) (old new : Visit) → slice_get visits position ≡ Some old → length visits ≡ length graph
    → left_at (next_positions graph position) new < left_at (next_positions graph position) old → left_in graph (set visits position new) < left_in graph visits
left_less_at [] [] position old new h s l = cc
left_less_at [] (v ∷ visits) position old new h s l = absurd (omega arith)
left_less_at (positions ∷ graph) [] position old new h s l = cc
left_less_at (positions ∷ graph) (v ∷ visits) zero old new h s l =
    let less : left_at positions new < left_at positions v = subst (λ (x : Visit). left_at positions new < left_at positions x) (sym (same_Some v old h)) l in
    omega arith
left_less_at (positions ∷ graph) (v ∷ visits) (suc position) old new h s l = omega (arith, left_less_at graph visits position old new h (omega arith) l)

known_set : (visits : List Visit) (position : ℕ) (v : Visit) → position < length visits → (v ≡ New → ⊥)
    → (other : ℕ) → slice_get (set visits position v) other ≡ Some New → slice_get visits other ≡ Some New
known_set visits position v within n other h = step (read_set visits position other v New within h) where
  step : ((other ≡ position) × (v ≡ New)) ⊎ ((other ≡ position → ⊥) × (slice_get visits other ≡ Some New)) → slice_get visits other ≡ Some New
  step (inl p) = absurd (n p.1)
  step (inr p) = p.1

module _ (graph : Graph) (walk : Walk) (w : IsWalk graph walk) where
  not_on_way : (position : ℕ) → slice_get walk.visits position ≡ Some New → Contains walk.way position → ⊥
  not_on_way position new c = let o : slice_get walk.visits position ≡ Some (Open (w.is_open position c).0) = (w.is_open position c).1 in cc

  pub opened_is_walk : (position : ℕ) → slice_get walk.visits position ≡ Some New → IsWay graph (walk.way ++ position ∷ []) → IsWalk graph (opened walk position)
  opened_is_walk position new leads = record {
    sized = length-set walk.visits position (Open 0) ∙ w.sized;
    leads = leads;
    differ = differ_push walk.way position w.differ (not_on_way position new);
    is_open = λ q c. is_open q (Contains-push_cases walk.way position q c);
    on_way = λ q k h. on_way q k (read_set walk.visits position q (Open 0) (Open k) within h);
    looked_at = λ q k next h c. looked_at q k next c (read_set walk.visits position q (Open 0) (Open k) within h);
    done = λ q h. done q (read_set walk.visits position q (Open 0) Done within h);
    inside = w.inside;
    behind = w.behind;
  } where
    within : position < length walk.visits
    within = slice_get_within walk.visits position New new

    is_open : (q : ℕ) → Contains walk.way q ⊎ (position ≡ q) → (looked : ℕ) × (slice_get (set walk.visits position (Open 0)) q ≡ Some (Open looked))
    is_open q (inl c) =
        ((w.is_open q c).0, read_set_other walk.visits position q (Open 0) (λ e. not_on_way position new (subst (λ (p : ℕ). Contains walk.way p) e c)) ∙ (w.is_open q c).1)
    is_open q (inr e) = (0, ap (slice_get (set walk.visits position (Open 0))) (sym e) ∙ read_set_same walk.visits position (Open 0) within)

    on_way : (q k : ℕ) → ((q ≡ position) × (Open 0 ≡ Open k)) ⊎ ((q ≡ position → ⊥) × (slice_get walk.visits q ≡ Some (Open k))) → Contains (walk.way ++ position ∷ []) q
    on_way q k (inl p) = subst (λ (p : ℕ). Contains (walk.way ++ position ∷ []) p) (sym p.0) (Contains-push walk.way position)
    on_way q k (inr p) = Contains-append_left walk.way (position ∷ []) q (w.on_way q k p.1)

    looked_at : (q k next : ℕ) → Contains (take k (next_positions graph q)) next
        → ((q ≡ position) × (Open 0 ≡ Open k)) ⊎ ((q ≡ position → ⊥) × (slice_get walk.visits q ≡ Some (Open k))) → Contains walk.order next
    looked_at q k next c (inl p) =
        let none : k ≡ 0 = cc in
        absurd (none_in next (subst (λ (n : ℕ). Contains (take n (next_positions graph q)) next) none c))
    looked_at q k next c (inr p) = w.looked_at q k next p.1 c

    done : (q : ℕ) → ((q ≡ position) × (Open 0 ≡ Done)) ⊎ ((q ≡ position → ⊥) × (slice_get walk.visits q ≡ Some Done)) → Contains walk.order q
    done q (inl p) = let e : Open 0 ≡ Done = p.1 in cc
    done q (inr p) = w.done q p.1

  pub open_continues : (position : ℕ) → slice_get walk.visits position ≡ Some New → IsWay graph (walk.way ++ position ∷ []) → Continues graph walk (opened walk position)
  open_continues position new leads = record {
    is_walk = opened_is_walk position new leads;
    less = left_less_at graph walk.visits position New (Open 0) new w.sized (omega arith);
    known = known_set walk.visits position (Open 0) (slice_get_within walk.visits position New new) (λ e. cc);
  }

  advanced_is_walk : (position looked next : ℕ) → slice_get walk.visits position ≡ Some (Open looked) → slice_get (next_positions graph position) looked ≡ Some next
      → slice_get walk.visits next ≡ Some Done → IsWalk graph (advanced walk position (looked + 1))
  advanced_is_walk position looked next here leads is_done = record {
    sized = length-set walk.visits position (Open (looked + 1)) ∙ w.sized;
    leads = w.leads;
    differ = w.differ;
    is_open = λ q c. is_open q c (cases_eq q position);
    on_way = λ q k h. on_way q k (read_set walk.visits position q (Open (looked + 1)) (Open k) within h);
    looked_at = λ q k other h c. looked_at q k other c (read_set walk.visits position q (Open (looked + 1)) (Open k) within h);
    done = λ q h. done q (read_set walk.visits position q (Open (looked + 1)) Done within h);
    inside = w.inside;
    behind = w.behind;
  } where
    within : position < length walk.visits
    within = slice_get_within walk.visits position (Open looked) here

    is_open : (q : ℕ) → Contains walk.way q → (q ≡ position) ⊎ (q ≡ position → ⊥) → (k : ℕ) × (slice_get (set walk.visits position (Open (looked + 1))) q ≡ Some (Open k))
    is_open q c (inl e) = (looked + 1, ap (slice_get (set walk.visits position (Open (looked + 1)))) e ∙ read_set_same walk.visits position (Open (looked + 1)) within)
    is_open q c (inr n) = ((w.is_open q c).0, read_set_other walk.visits position q (Open (looked + 1)) n ∙ (w.is_open q c).1)

    on_way : (q k : ℕ) → ((q ≡ position) × (Open (looked + 1) ≡ Open k)) ⊎ ((q ≡ position → ⊥) × (slice_get walk.visits q ≡ Some (Open k))) → Contains walk.way q
    on_way q k (inl p) = subst (λ (p : ℕ). Contains walk.way p) (sym p.0) (w.on_way position looked here)
    on_way q k (inr p) = w.on_way q k p.1

    last_done : (other : ℕ) → Contains (take looked (next_positions graph position)) other ⊎ (next ≡ other) → Contains walk.order other
    last_done other (inl c) = w.looked_at position looked other here c
    last_done other (inr e) = subst (λ (p : ℕ). Contains walk.order p) e (w.done next is_done)

    looked_at : (q k other : ℕ) → Contains (take k (next_positions graph q)) other
        → ((q ≡ position) × (Open (looked + 1) ≡ Open k)) ⊎ ((q ≡ position → ⊥) × (slice_get walk.visits q ≡ Some (Open k))) → Contains walk.order other
    looked_at q k other c (inl p) =
        let same : k ≡ looked + 1 = cc in
        let at_count : Contains (take (looked + 1) (next_positions graph q)) other = subst (λ (n : ℕ). Contains (take n (next_positions graph q)) other) same c in
        let at_position : Contains (take (looked + 1) (next_positions graph position)) other = subst (λ (n : ℕ). Contains (take (looked + 1) (next_positions graph n)) other) p.0 at_count in
        last_done other (in_more (next_positions graph position) looked next other leads at_position)
    looked_at q k other c (inr p) = w.looked_at q k other p.1 c

    done : (q : ℕ) → ((q ≡ position) × (Open (looked + 1) ≡ Done)) ⊎ ((q ≡ position → ⊥) × (slice_get walk.visits q ≡ Some Done)) → Contains walk.order q
    done q (inl p) = let e : Open (looked + 1) ≡ Done = p.1 in cc
    done q (inr p) = w.done q p.1

  pub advance_continues : (position looked next : ℕ) → slice_get walk.visits position ≡ Some (Open looked) → slice_get (next_positions graph position) looked ≡ Some next
      → slice_get walk.visits next ≡ Some Done → Continues graph walk (advanced walk position (looked + 1))
  advance_continues position looked next here leads is_done = record {
    is_walk = advanced_is_walk position looked next here leads is_done;
    less = left_less_at graph walk.visits position (Open looked) (Open (looked + 1)) here w.sized (omega (arith, slice_get_within (next_positions graph position) looked next leads));
    known = known_set walk.visits position (Open (looked + 1)) (slice_get_within walk.visits position (Open looked) here) (λ e. cc);
  }

  closed_is_walk : (position looked : ℕ) (prefix : List ℕ) → slice_get walk.visits position ≡ Some (Open looked) → slice_get (next_positions graph position) looked ≡ None
      → walk.way ≡ prefix ++ position ∷ [] → IsWalk graph (closed walk position prefix)
  closed_is_walk position looked prefix here end way = record {
    sized = length-set walk.visits position Done ∙ w.sized;
    leads = way_prefix graph prefix position (subst (IsWay graph) way w.leads);
    differ = differ.0;
    is_open = is_open;
    on_way = λ q k h. on_way q k (read_set walk.visits position q Done (Open k) within h);
    looked_at = λ q k next h c. looked_at q k next c (read_set walk.visits position q Done (Open k) within h);
    done = λ q h. done q (read_set walk.visits position q Done Done within h);
    inside = λ q c. inside q (Contains-push_cases walk.order position q c);
    behind = λ at q next h c. behind at q next c (read_push walk.order position at q h);
  } where
    within : position < length walk.visits
    within = slice_get_within walk.visits position (Open looked) here

    differ : AllDiffer prefix × (Contains prefix position → ⊥)
    differ = differ_prefix prefix position (subst AllDiffer way w.differ)

    stays : (q : ℕ) → Contains prefix q → Contains walk.way q
    stays q c = subst (λ (positions : List ℕ). Contains positions q) (sym way) (Contains-append_left prefix (position ∷ []) q c)

    is_open : (q : ℕ) → Contains prefix q → (k : ℕ) × (slice_get (set walk.visits position Done) q ≡ Some (Open k))
    is_open q c = (
      (w.is_open q (stays q c)).0,
      read_set_other walk.visits position q Done (λ e. differ.1 (subst (λ (p : ℕ). Contains prefix p) e c)) ∙ (w.is_open q (stays q c)).1,
    )

    left_on_way : (q : ℕ) → (q ≡ position → ⊥) → Contains prefix q ⊎ (position ≡ q) → Contains prefix q
    left_on_way q n (inl c) = c
    left_on_way q n (inr e) = absurd (n (sym e))

    on_way : (q k : ℕ) → ((q ≡ position) × (Done ≡ Open k)) ⊎ ((q ≡ position → ⊥) × (slice_get walk.visits q ≡ Some (Open k))) → Contains prefix q
    on_way q k (inl p) = let e : Done ≡ Open k = p.1 in cc
    on_way q k (inr p) = left_on_way q p.0 (Contains-push_cases prefix position q (subst (λ (positions : List ℕ). Contains positions q) way (w.on_way q k p.1)))

    looked_at : (q k next : ℕ) → Contains (take k (next_positions graph q)) next
        → ((q ≡ position) × (Done ≡ Open k)) ⊎ ((q ≡ position → ⊥) × (slice_get walk.visits q ≡ Some (Open k))) → Contains (walk.order ++ position ∷ []) next
    looked_at q k next c (inl p) = let e : Done ≡ Open k = p.1 in cc
    looked_at q k next c (inr p) = Contains-append_left walk.order (position ∷ []) next (w.looked_at q k next p.1 c)

    done : (q : ℕ) → ((q ≡ position) × (Done ≡ Done)) ⊎ ((q ≡ position → ⊥) × (slice_get walk.visits q ≡ Some Done)) → Contains (walk.order ++ position ∷ []) q
    done q (inl p) = subst (λ (p : ℕ). Contains (walk.order ++ position ∷ []) p) (sym p.0) (Contains-push walk.order position)
    done q (inr p) = Contains-append_left walk.order (position ∷ []) q (w.done q p.1)

    inside : (q : ℕ) → Contains walk.order q ⊎ (position ≡ q) → q < length graph
    inside q (inl c) = w.inside q c
    inside q (inr e) = omega (arith, within, w.sized)

    all_done : (next : ℕ) → Contains (next_positions graph position) next → Contains walk.order next
    all_done next c = w.looked_at position looked next here (in_whole (next_positions graph position) looked next end c)

    behind : (at q next : ℕ) → Contains (next_positions graph q) next → (slice_get walk.order at ≡ Some q) ⊎ ((at ≡ length walk.order) × (position ≡ q)) → Contains (take at (walk.order ++ position ∷ [])) next
    behind at q next c (inl h) =
        let before : at < length walk.order = slice_get_within walk.order at q h in
        subst (λ (positions : List ℕ). Contains positions next) (sym (take-append-le at walk.order (position ∷ []) (omega arith))) (w.behind at q next h c)
    behind at q next c (inr p) =
        let led : Contains (next_positions graph position) next = subst (λ (n : ℕ). Contains (next_positions graph n) next) (sym p.1) c in
        subst (λ (positions : List ℕ). Contains positions next) (sym (take_at walk.order (position ∷ []) at (sym p.0))) (all_done next led)

  pub close_continues : (position looked : ℕ) (prefix : List ℕ) → slice_get walk.visits position ≡ Some (Open looked) → slice_get (next_positions graph position) looked ≡ None
      → walk.way ≡ prefix ++ position ∷ [] → Continues graph walk (closed walk position prefix)
  close_continues position looked prefix here end way = record {
    is_walk = closed_is_walk position looked prefix here end way;
    less = left_less_at graph walk.visits position (Open looked) Done here w.sized (omega arith);
    known = known_set walk.visits position Done (slice_get_within walk.visits position (Open looked) here) (λ e. cc);
  }

  -- the last position is open
  pub last_is_open : (prefix : List ℕ) (position : ℕ) → walk.way ≡ prefix ++ position ∷ [] → (looked : ℕ) × (slice_get walk.visits position ≡ Some (Open looked))
  last_is_open prefix position way = w.is_open position (subst (λ (positions : List ℕ). Contains positions position) (sym way) (Contains-push prefix position))

  -- what was looked at there, known by another name
  pub last_looked : (prefix : List ℕ) (position seen : ℕ) → walk.way ≡ prefix ++ position ∷ [] → ((looked : ℕ) → slice_get walk.visits position ≡ Some (Open looked) → seen ≡ looked)
      → slice_get walk.visits position ≡ Some (Open seen)
  last_looked prefix position seen way h =
      let o = last_is_open prefix position way in
      o.1 ∙ ap (λ (looked : ℕ). Some (Open looked)) (sym (h o.0 o.1))

  pub last_within : (prefix : List ℕ) (position : ℕ) → walk.way ≡ prefix ++ position ∷ [] → position < length walk.visits
  last_within prefix position way = slice_get_within walk.visits position (Open (last_is_open prefix position way).0) (last_is_open prefix position way).1

  -- a position to which one leads is one of the graph's
  pub next_within : IsClosed graph → (position looked next : ℕ) → slice_get (next_positions graph position) looked ≡ Some next → next < length walk.visits
  next_within in_graph position looked next h = omega (arith, in_graph position next (contains_at (next_positions graph position) looked next h), w.sized)

  -- where an open position leads to another
  pub open_closes_cycle : (position looked next visited : ℕ) (prefix : List ℕ) → slice_get (next_positions graph position) looked ≡ Some next → slice_get walk.visits next ≡ Some (Open visited)
      → walk.way ≡ prefix ++ position ∷ [] → ClosesCycle graph walk next
  open_closes_cycle position looked next visited prefix leads stands way = record {
    is_walk = w;
    on_way = w.on_way next visited stands;
    leads =
        subst (λ (positions : List ℕ). IsWay graph (positions ++ next ∷ [])) (sym way)
        (way_push graph prefix position next (subst (IsWay graph) way w.leads) (contains_at (next_positions graph position) looked next leads));
  }

  -- the way may be led on to a position to which its last leads
  pub leads_on : (position looked next : ℕ) (prefix : List ℕ) → slice_get (next_positions graph position) looked ≡ Some next → walk.way ≡ prefix ++ position ∷ [] → IsWay graph (walk.way ++ next ∷ [])
  leads_on position looked next prefix leads way =
      subst (λ (positions : List ℕ). IsWay graph (positions ++ next ∷ [])) (sym way)
      (way_push graph prefix position next (subst (IsWay graph) way w.leads) (contains_at (next_positions graph position) looked next leads))

pub start_is_walk : (graph : Graph) → IsWalk graph (start_of (length graph))
start_is_walk graph = record {
  sized = length-replicate (length graph) New;
  leads = tt;
  differ = tt;
  is_open = λ q c. absurd (none_in q c);
  on_way = λ q k h. let e : New ≡ Open k = read_replicate (length graph) New q (Open k) h in cc;
  looked_at = λ q k next h c. let e : New ≡ Open k = read_replicate (length graph) New q (Open k) h in cc;
  done = λ q h. let e : New ≡ Done = read_replicate (length graph) New q Done h in cc;
  inside = λ q c. absurd (none_in q c);
  behind = λ at q next h c. cc;
}

-- the first position of a way
pub begun_new : (graph : Graph) (walk : Walk) (rest : IsAtRest graph walk) (root : ℕ) → slice_get walk.visits root ≡ Some New → HasBegun graph walk (opened walk root) root
begun_new graph walk rest root new = record {
  is_walk = on.is_walk;
  known = on.known;
  visited = λ h. let e : ◌≡◌ {A = Option Visit} (Some (Open 0)) (Some New) = sym (read_set_same walk.visits root (Open 0) (slice_get_within walk.visits root New new)) ∙ h in cc;
} where
  on : Continues graph walk (opened walk root)
  on = open_continues graph walk rest.is_walk root new (subst (λ (way : List ℕ). IsWay graph (way ++ root ∷ [])) (sym rest.empty) tt)

-- a walk that came to rest, and after which no position is new
pub rest_is_order : (graph : Graph) (walk : Walk) → IsAtRest graph walk → ((position : ℕ) → position < length graph → slice_get walk.visits position ≡ Some New → ⊥) → IsOrder graph walk.order
rest_is_order graph walk rest visited = record {
  inside = w.inside;
  complete = λ position h. complete position h (slice_get-get_or walk.visits position New (omega (arith, w.sized)));
  behind = w.behind;
} where
  w : IsWalk graph walk
  w = rest.is_walk

  by_visit : (position : ℕ) → position < length graph → (v : Visit) → slice_get walk.visits position ≡ Some v → Contains walk.order position
  by_visit position h New e = absurd (visited position h e)
  by_visit position h (Open k) e = absurd (none_in position (subst (λ (positions : List ℕ). Contains positions position) rest.empty (w.on_way position k e)))
  by_visit position h Done e = w.done position e

  complete : (position : ℕ) → position < length graph → {v : Visit} → slice_get walk.visits position ≡ Some v → Contains walk.order position
  complete position h {v} e = by_visit position h v e
