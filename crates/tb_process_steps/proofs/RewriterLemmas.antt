-- The candidates that a rewriter has found are its offers. The state of a rewriter after it takes one.
use Rattle.std.proofs.Common.{◌≡◌, ℕ, zero, suc, ◌<◌, Bool, true, false, if◌then◌else◌, IsTrue, Option, Some, None, List, [], ◌∷◌, map, length, slice_get, option_map, option_and_then, is_some, refl, ap, sym, subst, ◌∙◌, arith}
use Rattle.std.specs.Option.{ForSome}
use Rattle.std.proofs.lemmas.Option.{slice_get-map}
use Rattle.tb_func.specs.declared.slot.Slot.{Slot}
use Rattle.tb_body.specs.declared.atom.Atom.{Atom}
use Rattle.tb_body.specs.declared.tree.Tree.{Tree}
use Rattle.tb_process_steps.specs.Helpers.Candidates.{offer_of}
use Rattle.tb_process_steps.specs.Helpers.Selections.{Past, On, selected, selected_at, selected_of, is_fired_on}
use Rattle.tb_process_steps.specs.Offers.{Offered}
use Rattle.tb_process_steps.specs.Processes.{Process, fresh}
use Rattle.tb_process_steps.specs.Helpers.Plans.{tree_at}
use Rattle.tb_process_steps.specs.Helpers.Rewritings.{walking_of, seen_of, Kept, kept, kept_found, IsOnPlan, IsLeft}
use Rattle.tb_process_steps.specs.Helpers.Runnings.{term_of}
use Rattle.tb_process_steps.specs.Helpers.OfferViews.{OfferView, offer_view, offer_views, shown, or_own}
use Rattle.tb_process_steps.specs.Walks.{Walking, offers_of, seen}
use Rattle.tb_process_steps.specs.declared.fired.Fired.{Fired}
use Rattle.tb_process_steps.specs.declared.fired.Fired.TheVariants.{Taken}
use Rattle.tb_process_steps.specs.declared.fired.Left.{Left}
use Rattle.tb_process_steps.specs.declared.found.Found.{Found}
use Rattle.tb_process_steps.specs.declared.node.Node.{Node}
use Rattle.tb_process_steps.specs.declared.offer.Offer.{Offer}
use Rattle.tb_process_steps.specs.declared.plan.Plan.{Plan}
use Rattle.tb_process_steps.specs.declared.rewriter.Rewriter.{Rewriter}
use Rattle.tb_process_steps.specs.declared.running.Running.{Running}
use Rattle.tb_process_steps.specs.declared.running.Running.TheVariants.{Whole}
use Rattle.tb_process_steps.proofs.EntryLemmas.{entered_root}
use Rattle.tb_process_steps.proofs.TermLemmas.{term-Whole}

-- a starting process

pub starts : (nodes : List Node) (root : ℕ) (whole : Tree) (store : List Slot) → tree_at nodes root ≡ whole → ◌≡◌ {A = Walking} (record { term = Some (term_of nodes 0 (Whole (record { node = root; entered = 0 }))); store = store; ticks = 0 }) (record { term = Some (fresh whole); store = store; ticks = 0 })
starts nodes root whole store e =
    ap (λ (p : Process). record { term = Some p; store = store; ticks = 0 }) (term-Whole nodes 0 (record { node = root; entered = 0 }) ∙ entered_root nodes root whole e)

-- a look

pub offer_views_some : (atoms : List Atom) (now : ℕ) (plan : Plan) (rewriter : Rewriter) (term : Running) → rewriter.term ≡ Some term → map (offer_view atoms now) (offers_of (walking_of plan rewriter)) ≡ offer_views atoms now (term_of plan.nodes rewriter.ticks term) rewriter.store
unfolding offers_of offer_views
offer_views_some atoms now plan rewriter term e = rw e

pub offer_views_none : (atoms : List Atom) (now : ℕ) (plan : Plan) (rewriter : Rewriter) → rewriter.term ≡ None → map (offer_view atoms now) (offers_of (walking_of plan rewriter)) ≡ []
unfolding offers_of
offer_views_none atoms now plan rewriter e = rw e

map_twice : {A B C : Type 0} (f : A → B) (g : B → C) (xs : List A) → map g (map f xs) ≡ map (λ x. g (f x)) xs
map_twice f g [] = refl
map_twice f g (x ∷ xs) = ap (λ rest. g (f x) ∷ rest) (map_twice f g xs)

-- two lists that are seen alike are seen alike by less
seen_less : {A B C D : Type 0} (f : A → C) (h : B → C) (g : C → D) (xs : List A) (ys : List B) → map f xs ≡ map h ys → map (λ x. g (f x)) xs ≡ map (λ y. g (h y)) ys
seen_less f h g xs ys e = sym (map_twice f g xs) ∙ ap (map g) e ∙ map_twice h g ys

abbrev kept_sight : OfferView → Kept
kept_sight sight = record { atom = sight.atom; age = sight.age; store = sight.store }

abbrev offer_in_view : OfferView → Offer
offer_in_view sight = record { atom = sight.atom; age = sight.age; ready = sight.ready }

pub found_kept : (atoms : List Atom) (now : ℕ) (base : List Slot) (candidates : List Found) (os : List Offered) → map (shown base) candidates ≡ map (offer_view atoms now) os → map (kept_found base) candidates ≡ map kept os
found_kept atoms now base candidates os e = seen_less (shown base) (offer_view atoms now) kept_sight candidates os e

pub found_seen : (atoms : List Atom) (now : ℕ) (base : List Slot) (candidates : List Found) (os : List Offered) → map (shown base) candidates ≡ map (offer_view atoms now) os → map offer_of candidates ≡ map (seen atoms now) os
found_seen atoms now base candidates os e = seen_less (shown base) (offer_view atoms now) offer_in_view candidates os e

-- the visible offers

pub is_fresh : (fresh : Bool) (candidates : List Found) → IsTrue (is_some (if fresh then Some (map offer_of candidates) else None)) → fresh ≡ true
is_fresh true candidates h = refl
is_fresh false candidates h = cc

pub seen_is : (fresh : Bool) (candidates : List Found) (seen : List Offer) → (if fresh then Some (map offer_of candidates) else None) ≡ Some seen → (fresh ≡ true) × (map offer_of candidates ≡ seen)
seen_is true candidates seen e = (refl, cc)
seen_is false candidates seen e = cc

pub length-map : {A B : Type 0} (f : A → B) (xs : List A) → length (map f xs) ≡ length xs
length-map f [] = refl
length-map f (x ∷ xs) = ap suc (length-map f xs)

-- the number of visible offers is the number of offers
pub seen_all : (plan : Plan) (rewriter : Rewriter) → IsOnPlan plan rewriter → ForSome (seen_of rewriter) (λ seen. length seen ≡ length (offers_of (walking_of plan rewriter)))
seen_all plan rewriter on seen e =
    let os = offers_of (walking_of plan rewriter) in
    let is = seen_is rewriter.fresh rewriter.found seen e in
    let one = length-map offer_of rewriter.found in
    let two = length-map (kept_found rewriter.store) rewriter.found in
    let three = length-map kept os in
    let four = ap length (on.found is.0) in
    let five = ap length is.1 in
    omega arith

-- the candidate at an index

pub kept_at : (base : List Slot) (candidates : List Found) (os : List Offered) (k : ℕ) → map (kept_found base) candidates ≡ map kept os → option_map (kept_found base) (slice_get candidates k) ≡ option_map kept (slice_get os k)
kept_at base candidates os k e = sym (slice_get-map (kept_found base) candidates k) ∙ ap (λ (l : List Kept). slice_get l k) e ∙ slice_get-map kept os k

pub by_kept : {B : Type 0} (g : Kept → Option B) (offered : Option Offered) (found : Kept) → ◌≡◌ {A = Option Kept} (Some found) (option_map kept offered) → option_and_then (λ o. g (kept o)) offered ≡ g found
by_kept g None found e = cc
by_kept g (Some offered) found e =
    let same : found ≡ kept offered = cc in
    ap g (sym same)

pub by_found : {B : Type 0} (g : Kept → Option B) (plan : Plan) (rewriter : Rewriter) (k : ℕ) (found : Found) → IsOnPlan plan rewriter → IsTrue (is_some (seen_of rewriter)) → slice_get rewriter.found k ≡ Some found → option_and_then (λ offered. g (kept offered)) (slice_get (offers_of (walking_of plan rewriter)) k) ≡ g (kept_found rewriter.store found)
by_found g plan rewriter k found on fresh h =
    let os = offers_of (walking_of plan rewriter) in
    let same = kept_at rewriter.store rewriter.found os k (on.found (is_fresh rewriter.fresh rewriter.found fresh)) in
    by_kept g (slice_get os k) (kept_found rewriter.store found) (sym (ap (option_map (kept_found rewriter.store)) h) ∙ same)

-- taking an offer

pub hit_inside : (k : ℕ) (os : List Offered) (rest : ℕ) → k < length os → selected_at k os ≡ Past rest → ⊥
hit_inside k [] rest h e = omega arith
hit_inside zero (o ∷ os) rest h e = cc
hit_inside (suc k) (o ∷ os) rest h e = hit_inside k os rest (omega arith) e

pub hit_is : (k : ℕ) (os : List Offered) (o : Offered) → slice_get os k ≡ Some o → selected_at k os ≡ On o.residual o.store
hit_is k [] o e = cc
hit_is zero (first ∷ os) o e =
    let same : first ≡ o = cc in
    ap (λ (x : Offered). On x.residual x.store) same
hit_is (suc k) (first ∷ os) o e = hit_is k os o e

module _ (plan : Plan) (rewriter : Rewriter) (k : ℕ) (fired : Fired) (left : Left) (is : fired ≡ Taken left.term left.own) (selected : selected_of plan.nodes rewriter.ticks rewriter.store fired ≡ selected_at k (offers_of (walking_of plan rewriter))) where
  hit_left : selected_at k (offers_of (walking_of plan rewriter)) ≡ On (option_map (term_of plan.nodes rewriter.ticks) left.term) (or_own left.own rewriter.store)
  hit_left = sym selected ∙ ap (selected_of plan.nodes rewriter.ticks rewriter.store) is

  pub taken_left : IsTrue (is_fired_on plan.nodes rewriter.ticks fired) → ForSome (slice_get (offers_of (walking_of plan rewriter)) k) (IsLeft plan rewriter left)
  taken_left parts offered here =
      let both : On (option_map (term_of plan.nodes rewriter.ticks) left.term) (or_own left.own rewriter.store) ≡ On offered.residual offered.store = sym hit_left ∙ hit_is k (offers_of (walking_of plan rewriter)) offered here in
      record {
        term = cc;
        store = cc;
        parts = subst (λ (f : Fired). IsTrue (is_fired_on plan.nodes rewriter.ticks f)) is parts;
      }

pub hits_some : (plan : Plan) (rewriter : Rewriter) (term : Running) (k : ℕ) → rewriter.term ≡ Some term → selected_at k (offers_of (walking_of plan rewriter)) ≡ selected (term_of plan.nodes rewriter.ticks term) rewriter.store k
unfolding offers_of selected
hits_some plan rewriter term k e = rw e

pub hits_none : (plan : Plan) (rewriter : Rewriter) (k : ℕ) → rewriter.term ≡ None → selected_at k (offers_of (walking_of plan rewriter)) ≡ Past k
unfolding offers_of
hits_none plan rewriter k e = rw e

pub inside : {X : Type 0} (k : ℕ) (xs : List X) → k < length xs → slice_get xs k ≡ None → ⊥
inside k [] h e = omega arith
inside zero (x ∷ xs) h e = cc
inside (suc k) (x ∷ xs) h e = inside k xs (omega arith) e

pub is_found : (rewriter : Rewriter) (k : ℕ) → IsTrue (is_some (seen_of rewriter)) → ForSome (seen_of rewriter) (λ seen. k < length seen) → slice_get rewriter.found k ≡ None → ⊥
is_found rewriter k fresh within e =
    let is = is_fresh rewriter.fresh rewriter.found fresh in
    let seen : seen_of rewriter ≡ Some (map offer_of rewriter.found) = ap (λ (b : Bool). if b then Some (map offer_of rewriter.found) else None) is in
    let less = within (map offer_of rewriter.found) seen in
    let one = length-map offer_of rewriter.found in
    inside k rewriter.found (omega arith) e
