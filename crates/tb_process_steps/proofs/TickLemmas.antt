-- The process that a running term represents after one more tick.
use Rattle.std.proofs.Common.{◌≡◌, ℕ, suc, ◌+◌, ◌-◌, ◌≤◌, Bool, true, nat_lt, nat_le, List, length, Option, Some, None, option_map, refl, ap, sym, subst, ◌∙◌, arith}
use Rattle.std.proofs.lemmas.Bool.{and_from, and_parts, leb-true, le-leb}
use Rattle.tb_process_steps.specs.Helpers.Selections.{is_left_on}
use Rattle.tb_process_steps.specs.Helpers.Plans.{process_at}
use Rattle.tb_process_steps.specs.Processes as process
use Rattle.tb_process_steps.specs.Processes.{Process, aged}
use Rattle.tb_process_steps.specs.Helpers.Rewritings.{walking_of}
use Rattle.tb_process_steps.specs.Helpers.Runnings.{waited, entered_term, term_of, term_step, is_entry, is_on, on_step}
use Rattle.tb_process_steps.specs.Walks.{Walking, ticked}
use Rattle.tb_process_steps.specs.declared.node.Node.{Node}
use Rattle.tb_process_steps.specs.declared.plan.Plan.{Plan}
use Rattle.tb_process_steps.specs.declared.rewriter.Rewriter.{Rewriter}
use Rattle.tb_process_steps.specs.declared.running.Entry.{Entry}
use Rattle.tb_process_steps.specs.declared.running.Running.{Running, Running-F, map-Running, fold-roll-Running, ind-Running, roll-Running}
use Rattle.tb_process_steps.specs.declared.running.Running.TheOpen as layer

-- an entered part is one tick older
pub entered-aged : (nodes : List Node) (ticks : ℕ) (entry : Entry) → entry.entered ≤ ticks → entered_term nodes (ticks + 1) entry ≡ aged (entered_term nodes ticks entry)
unfolding entered_term
entered-aged nodes ticks entry h =
    let e : ticks + 1 - entry.entered ≡ suc (ticks - entry.entered) = omega arith in
    ap (λ (n : ℕ). waited n (process_at nodes entry.node)) e

module _ (nodes : List Node) (ticks later : ℕ) (le : ticks ≤ later) where
  -- the parts that are in the plan remain in the plan

  abbrev StaysOn : Running → Type 0
  StaysOn r = is_on nodes ticks r ≡ true → is_on nodes later r ≡ true

  abbrev Staying : Type 0
  Staying = (r : Running) × StaysOn r

  entry-later : (entry : Entry) → is_entry nodes ticks entry ≡ true → is_entry nodes later entry ≡ true
  entry-later entry h =
      let parts = and_parts (nat_lt entry.node (length nodes)) (nat_le entry.entered ticks) h in
      let before = leb-true entry.entered ticks parts.1 in
      and_from (nat_lt entry.node (length nodes)) (nat_le entry.entered later) parts.0 (le-leb entry.entered later (omega arith))

  layer-later : (y : Running-F Staying) →
      on_step nodes ticks (map-Running Running Bool (is_on nodes ticks) (map-Running Staying Running (λ s. s.0) y)) ≡ true →
      on_step nodes later (map-Running Running Bool (is_on nodes later) (map-Running Staying Running (λ s. s.0) y)) ≡ true
  layer-later (layer.Whole entry) h = entry-later entry h
  layer-later (layer.Seq x n) h =
      let parts = and_parts (is_on nodes ticks x.0) (nat_lt n (length nodes)) h in
      and_from (is_on nodes later x.0) (nat_lt n (length nodes)) (x.1 parts.0) parts.1
  layer-later (layer.Par x y) h =
      let parts = and_parts (is_on nodes ticks x.0) (is_on nodes ticks y.0) h in
      and_from (is_on nodes later x.0) (is_on nodes later y.0) (x.1 parts.0) (y.1 parts.1)
  layer-later (layer.Disrupt x entry) h =
      let parts = and_parts (is_on nodes ticks x.0) (is_entry nodes ticks entry) h in
      and_from (is_on nodes later x.0) (is_entry nodes later entry) (x.1 parts.0) (entry-later entry parts.1)

  pub on-later : (r : Running) → is_on nodes ticks r ≡ true → is_on nodes later r ≡ true
  on-later = ind-Running StaysOn step where
    step : (x : Running-F Running) (y : Running-F Staying) → map-Running Staying Running (λ s. s.0) y ≡ x → StaysOn (roll-Running x)
    step x y e h =
        fold-roll-Running Bool (on_step nodes later) x
        ∙ subst (λ (w : Running-F Running). on_step nodes ticks (map-Running Running Bool (is_on nodes ticks) w) ≡ true → on_step nodes later (map-Running Running Bool (is_on nodes later) w) ≡ true) e (layer-later y)
        (sym (fold-roll-Running Bool (on_step nodes ticks) x) ∙ h)

  pub left-later : (left : Option Running) → is_left_on nodes ticks left ≡ true → is_left_on nodes later left ≡ true
  left-later None h = refl
  left-later (Some r) h = on-later r h

module _ (nodes : List Node) (ticks : ℕ) where
  -- a term represents a term that is one tick older, although its own data is unchanged

  abbrev Ages : Running → Type 0
  Ages r = is_on nodes ticks r ≡ true → term_of nodes (ticks + 1) r ≡ aged (term_of nodes ticks r)

  abbrev Ageing : Type 0
  Ageing = (r : Running) × Ages r

  layer-aged : (y : Running-F Ageing) →
      on_step nodes ticks (map-Running Running Bool (is_on nodes ticks) (map-Running Ageing Running (λ s. s.0) y)) ≡ true →
      term_step nodes (ticks + 1) (map-Running Running Process (term_of nodes (ticks + 1)) (map-Running Ageing Running (λ s. s.0) y))
      ≡ aged (term_step nodes ticks (map-Running Running Process (term_of nodes ticks) (map-Running Ageing Running (λ s. s.0) y)))
  layer-aged (layer.Whole entry) h =
      let parts = and_parts (nat_lt entry.node (length nodes)) (nat_le entry.entered ticks) h in
      entered-aged nodes ticks entry (leb-true entry.entered ticks parts.1)
  layer-aged (layer.Seq x n) h =
      let parts = and_parts (is_on nodes ticks x.0) (nat_lt n (length nodes)) h in
      ap (λ (p : Process). process.Seq p (process_at nodes n)) (x.1 parts.0)
  layer-aged (layer.Par x y) h =
      let parts = and_parts (is_on nodes ticks x.0) (is_on nodes ticks y.0) h in
      ap (λ (p : Process). process.Par p (term_of nodes (ticks + 1) y.0)) (x.1 parts.0) ∙ ap (process.Par (aged (term_of nodes ticks x.0))) (y.1 parts.1)
  layer-aged (layer.Disrupt x entry) h =
      let parts = and_parts (is_on nodes ticks x.0) (is_entry nodes ticks entry) h in
      let there = and_parts (nat_lt entry.node (length nodes)) (nat_le entry.entered ticks) parts.1 in
      ap (λ (p : Process). process.Disrupt p (entered_term nodes (ticks + 1) entry)) (x.1 parts.0) ∙ ap (process.Disrupt (aged (term_of nodes ticks x.0))) (entered-aged nodes ticks entry (leb-true entry.entered ticks there.1))

  pub term-aged : (r : Running) → is_on nodes ticks r ≡ true → term_of nodes (ticks + 1) r ≡ aged (term_of nodes ticks r)
  term-aged = ind-Running Ages step where
    step : (x : Running-F Running) (y : Running-F Ageing) → map-Running Ageing Running (λ s. s.0) y ≡ x → Ages (roll-Running x)
    step x y e h =
        fold-roll-Running Process (term_step nodes (ticks + 1)) x
        ∙ subst (λ (w : Running-F Running). on_step nodes ticks (map-Running Running Bool (is_on nodes ticks) w) ≡ true → term_step nodes (ticks + 1) (map-Running Running Process (term_of nodes (ticks + 1)) w) ≡ aged (term_step nodes ticks (map-Running Running Process (term_of nodes ticks) w))) e (layer-aged y)
        (sym (fold-roll-Running Bool (on_step nodes ticks) x) ∙ h)
        ∙ ap aged (sym (fold-roll-Running Process (term_step nodes ticks) x))

  pub left-aged : (left : Option Running) → is_left_on nodes ticks left ≡ true → option_map (term_of nodes (ticks + 1)) left ≡ option_map aged (option_map (term_of nodes ticks) left)
  left-aged None h = refl
  left-aged (Some r) h = ap Some (term-aged r h)

-- after a rewriter counts a tick, it represents the aged process
pub walking-ticked : (plan : Plan) (rewriter : Rewriter) (fresh : Bool) → is_left_on plan.nodes rewriter.ticks rewriter.term ≡ true →
    walking_of plan (record rewriter { ticks = rewriter.ticks + 1; fresh = fresh }) ≡ ticked (walking_of plan rewriter)
walking-ticked plan rewriter fresh h =
    ap (λ (term : Option Process). let walking : Walking = record { term = term; store = rewriter.store; ticks = rewriter.ticks + 1 } in walking) (left-aged plan.nodes rewriter.ticks rewriter.term h)
