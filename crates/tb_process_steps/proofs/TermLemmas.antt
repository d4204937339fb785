-- The process that a running term represents, by its parts, and the positions of these parts in the plan.
use Rattle.std.proofs.Common.{◌≡◌, ℕ, ◌<◌, ◌≤◌, Bool, true, ◌&&◌, nat_lt, nat_le, List, ◌++◌, length, ap, sym, ◌∙◌}
use Rattle.std.proofs.lemmas.Bool.{and_from, and_parts, ltb-true, lt-ltb, leb-true, le-leb}
use Rattle.tb_func.specs.declared.slot.Slot.{Slot}
use Rattle.tb_body.specs.declared.atom.Atom.{Atom}
use Rattle.tb_process_steps.specs.Processes as process
use Rattle.tb_process_steps.specs.Processes.{Process}
use Rattle.tb_process_steps.specs.Helpers.Plans.{process_at}
use Rattle.tb_process_steps.specs.Helpers.Runnings.{term_of, term_step, is_on, on_step, is_entry, entered_term}
use Rattle.tb_process_steps.specs.Helpers.OfferViews.{OfferView, offer_views}
use Rattle.tb_process_steps.specs.declared.node.Node.{Node}
use Rattle.tb_process_steps.specs.declared.running.Entry.{Entry}
use Rattle.tb_process_steps.specs.declared.running.Running.{Running, Running-F, map-Running, out-Running, fold_out-Running}
use Rattle.tb_process_steps.specs.declared.running.Running.TheOpen as layer
use Rattle.tb_process_steps.specs.declared.running.Running.TheVariants.{Whole, Seq, Par, Disrupt, outs-Whole, outs-Seq, outs-Par, outs-Disrupt}
use Rattle.tb_process_steps.specs.Helpers.Selections.{selected, selected_with, or_past}
use Rattle.tb_process_steps.proofs.OfferViewLemmas.{offer_views-Seq, offer_views-Par, offer_views-Disrupt}
use Rattle.tb_process_steps.proofs.SelectedLemmas.{selected-Seq, selected-Par, selected-Disrupt, then, beside, along, held}

module _ (nodes : List Node) (ticks : ℕ) where
  opened : (r : Running) (w : Running-F Running) → out-Running r ≡ w → term_of nodes ticks r ≡ term_step nodes ticks (map-Running Running Process (term_of nodes ticks) w)
  opened r w e = fold_out-Running Process (term_step nodes ticks) r ∙ ap (λ (v : Running-F Running). term_step nodes ticks (map-Running Running Process (term_of nodes ticks) v)) e

  pub term-Whole : (entry : Entry) → term_of nodes ticks (Whole entry) ≡ entered_term nodes ticks entry
  term-Whole entry = opened (Whole entry) (layer.Whole entry) (outs-Whole entry)

  pub term-Seq : (x : Running) (y : ℕ) → term_of nodes ticks (Seq x y) ≡ process.Seq (term_of nodes ticks x) (process_at nodes y)
  term-Seq x y = opened (Seq x y) (layer.Seq x y) (outs-Seq x y)

  pub term-Par : (x y : Running) → term_of nodes ticks (Par x y) ≡ process.Par (term_of nodes ticks x) (term_of nodes ticks y)
  term-Par x y = opened (Par x y) (layer.Par x y) (outs-Par x y)

  pub term-Disrupt : (x : Running) (entry : Entry) → term_of nodes ticks (Disrupt x entry) ≡ process.Disrupt (term_of nodes ticks x) (entered_term nodes ticks entry)
  term-Disrupt x entry = opened (Disrupt x entry) (layer.Disrupt x entry) (outs-Disrupt x entry)

  opened_on : (r : Running) (w : Running-F Running) → out-Running r ≡ w → is_on nodes ticks r ≡ on_step nodes ticks (map-Running Running Bool (is_on nodes ticks) w)
  opened_on r w e = fold_out-Running Bool (on_step nodes ticks) r ∙ ap (λ (v : Running-F Running). on_step nodes ticks (map-Running Running Bool (is_on nodes ticks) v)) e

  pub on-Whole : (entry : Entry) → is_on nodes ticks (Whole entry) ≡ (nat_lt entry.node (length nodes) && nat_le entry.entered ticks)
  on-Whole entry = opened_on (Whole entry) (layer.Whole entry) (outs-Whole entry)

  pub on-Seq : (x : Running) (y : ℕ) → is_on nodes ticks (Seq x y) ≡ (is_on nodes ticks x && nat_lt y (length nodes))
  on-Seq x y = opened_on (Seq x y) (layer.Seq x y) (outs-Seq x y)

  pub on-Par : (x y : Running) → is_on nodes ticks (Par x y) ≡ (is_on nodes ticks x && is_on nodes ticks y)
  on-Par x y = opened_on (Par x y) (layer.Par x y) (outs-Par x y)

  pub on-Disrupt : (x : Running) (entry : Entry) → is_on nodes ticks (Disrupt x entry) ≡ (is_on nodes ticks x && is_entry nodes ticks entry)
  on-Disrupt x entry = opened_on (Disrupt x entry) (layer.Disrupt x entry) (outs-Disrupt x entry)

  pub whole_on : (r : Running) (entry : Entry) → r ≡ Whole entry → is_on nodes ticks r ≡ true → (entry.node < length nodes) × (entry.entered ≤ ticks)
  whole_on r entry e h =
      let both = sym (on-Whole entry) ∙ ap (is_on nodes ticks) (sym e) ∙ h in
      let parts = and_parts (nat_lt entry.node (length nodes)) (nat_le entry.entered ticks) both in
      (ltb-true entry.node (length nodes) parts.0, leb-true entry.entered ticks parts.1)

  pub on_whole : (r : Running) (entry : Entry) → r ≡ Whole entry → entry.node < length nodes → entry.entered ≤ ticks → is_on nodes ticks r ≡ true
  on_whole r entry e h k =
      ap (is_on nodes ticks) e ∙ on-Whole entry
      ∙ and_from (nat_lt entry.node (length nodes)) (nat_le entry.entered ticks) (lt-ltb entry.node (length nodes) h) (le-leb entry.entered ticks k)

  pub seq_on : (r x : Running) (y : ℕ) → r ≡ Seq x y → is_on nodes ticks r ≡ true → (is_on nodes ticks x ≡ true) × (y < length nodes)
  seq_on r x y e h =
      let both = sym (on-Seq x y) ∙ ap (is_on nodes ticks) (sym e) ∙ h in
      let parts = and_parts (is_on nodes ticks x) (nat_lt y (length nodes)) both in
      (parts.0, ltb-true y (length nodes) parts.1)

  pub par_on : (r x y : Running) → r ≡ Par x y → is_on nodes ticks r ≡ true → (is_on nodes ticks x ≡ true) × (is_on nodes ticks y ≡ true)
  par_on r x y e h =
      let both = sym (on-Par x y) ∙ ap (is_on nodes ticks) (sym e) ∙ h in
      and_parts (is_on nodes ticks x) (is_on nodes ticks y) both

  pub disrupt_on : (r x : Running) (entry : Entry) → r ≡ Disrupt x entry → is_on nodes ticks r ≡ true → (is_on nodes ticks x ≡ true) × (is_entry nodes ticks entry ≡ true)
  disrupt_on r x entry e h =
      let both = sym (on-Disrupt x entry) ∙ ap (is_on nodes ticks) (sym e) ∙ h in
      and_parts (is_on nodes ticks x) (is_entry nodes ticks entry) both

  pub entry_on : (entry : Entry) → is_entry nodes ticks entry ≡ true → (entry.node < length nodes) × (entry.entered ≤ ticks)
  entry_on entry h =
      let parts = and_parts (nat_lt entry.node (length nodes)) (nat_le entry.entered ticks) h in
      (ltb-true entry.node (length nodes) parts.0, leb-true entry.entered ticks parts.1)

  module _ (atoms : List Atom) (now : ℕ) (store : List Slot) where
    abbrev of_term : Running → List OfferView
    of_term r = offer_views atoms now (term_of nodes ticks r) store

    pub offer_views_of_seq : (r x : Running) (y : ℕ) → r ≡ Seq x y → of_term r ≡ of_term x
    offer_views_of_seq r x y e =
        ap (λ (p : Process). offer_views atoms now p store) (ap (term_of nodes ticks) e ∙ term-Seq x y)
        ∙ offer_views-Seq atoms now (term_of nodes ticks x) (process_at nodes y) store

    pub offer_views_of_par : (r x y : Running) → r ≡ Par x y → of_term r ≡ of_term x ++ of_term y
    offer_views_of_par r x y e =
        ap (λ (p : Process). offer_views atoms now p store) (ap (term_of nodes ticks) e ∙ term-Par x y)
        ∙ offer_views-Par atoms now (term_of nodes ticks x) (term_of nodes ticks y) store

    pub offer_views_of_disrupt : (r x : Running) (entry : Entry) → r ≡ Disrupt x entry → of_term r ≡ of_term x ++ offer_views atoms now (entered_term nodes ticks entry) store
    offer_views_of_disrupt r x entry e =
        ap (λ (p : Process). offer_views atoms now p store) (ap (term_of nodes ticks) e ∙ term-Disrupt x entry)
        ∙ offer_views-Disrupt atoms now (term_of nodes ticks x) (entered_term nodes ticks entry) store

  pub hits_of_disrupt : (r x : Running) (entry : Entry) (store : List Slot) (k : ℕ) → r ≡ Disrupt x entry → selected (term_of nodes ticks r) store k ≡ or_past (selected_with (held (entered_term nodes ticks entry)) (selected (term_of nodes ticks x) store k)) (λ rest. selected (entered_term nodes ticks entry) store rest)
  hits_of_disrupt r x entry store k e =
      ap (λ (p : Process). selected p store k) (ap (term_of nodes ticks) e ∙ term-Disrupt x entry)
      ∙ selected-Disrupt (term_of nodes ticks x) (entered_term nodes ticks entry) store k

  pub hits_of_seq : (r x : Running) (y : ℕ) (store : List Slot) (k : ℕ) → r ≡ Seq x y → selected (term_of nodes ticks r) store k ≡ selected_with (then (process_at nodes y)) (selected (term_of nodes ticks x) store k)
  hits_of_seq r x y store k e =
      ap (λ (p : Process). selected p store k) (ap (term_of nodes ticks) e ∙ term-Seq x y)
      ∙ selected-Seq (term_of nodes ticks x) (process_at nodes y) store k

  pub hits_of_par : (r x y : Running) (store : List Slot) (k : ℕ) → r ≡ Par x y → selected (term_of nodes ticks r) store k ≡ or_past (selected_with (beside (term_of nodes ticks y)) (selected (term_of nodes ticks x) store k)) (λ rest. selected_with (along (term_of nodes ticks x)) (selected (term_of nodes ticks y) store rest))
  hits_of_par r x y store k e =
      ap (λ (p : Process). selected p store k) (ap (term_of nodes ticks) e ∙ term-Par x y)
      ∙ selected-Par (term_of nodes ticks x) (term_of nodes ticks y) store k
