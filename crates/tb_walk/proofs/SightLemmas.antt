-- What is seen of a part's atoms are its offers, and what is left of the part where one of them happens.
use Rattle.std.proofs.Common.{◌≡◌, ℕ, zero, suc, ◌+◌, ◌-◌, ◌<◌, ◌≤◌, Bool, true, false, nat_lt, List, [], ◌∷◌, ◌++◌, map, length, slice_get, Option, Some, None, if◌then◌else◌, refl, ap, sym, subst, ◌∙◌, arith, ◌⊎◌, inl, inr}
use Rattle.std.proofs.lemmas.List.{map-append}
use Rattle.tb_terms.specs.declared.expr.Expr.{Expr}
use Rattle.tb_func.specs.declared.slot.Slot.{Slot}
use Rattle.tb_body.specs.declared.atom.Atom.{Atom}
use Rattle.tb_process_steps.specs.Helpers.Selections.{Selected, On, selected_at, selected_with, or_past}
use Rattle.tb_process_steps.specs.Offers.{Offered, offers, before, on_the_left, on_the_right, in_wait, until as in_wait_of, offers_if, offers_after, followed, left_of, right_of}
use Rattle.tb_process_steps.specs.Processes.{Process, At, Seq, Alt, Star, Par, Disrupt, If, When, Let}
use Rattle.tb_process_steps.specs.Reached.{IsNew}
use Rattle.tb_process_steps.specs.Helpers.Runnings.{waited}
use Rattle.tb_process_steps.specs.Settings.{tested, with_settings}
use Rattle.tb_process_steps.specs.Helpers.OfferViews.{OfferView, offer_view, offer_views}
use Rattle.tb_process_steps.proofs.EntryLemmas.{waited-At, waited-Seq, waited-Alt, waited-Par, waited-Disrupt, waited-When, waited-If, waited-Let, star-offers}
use Rattle.tb_process_steps.proofs.SelectedLemmas.{at-append, at-map, with_left, then as followed_by, beside, along}
use Rattle.tb_process_steps.proofs.OfferViewLemmas.{offer_views-Seq, offer_views-Alt, offer_views-Par, offer_views-Disrupt}
use Rattle.tb_code.specs.Entries.{followed as and_behind}
use Rattle.tb_code.specs.Positions.{size, part, of_two}
use Rattle.tb_code.specs.declared.behind.Behind.{Behind}
use Rattle.tb_code.specs.declared.behind.Behind.TheVariants as behind
use Rattle.tb_walk.specs.Lefts as lefts
use Rattle.tb_walk.specs.Helpers.Reads.{branch, Passes, one, other, leaves, transfers, then_side, else_side, when, set, Follows, sequence, turn, Reads, ended, waits, passes, follows, both, stands_until as until, or_entered}
use Rattle.tb_walk.specs.Helpers.Partings.{and_waits, row_by, GoesOn}
use Rattle.tb_walk.specs.Helpers.Sights.{Sighting, Looking, sightings, sightings_if, sightings_after, sighting_at}
use Rattle.tb_walk.specs.declared.branch.Branch.{Branch}
use Rattle.tb_walk.proofs.Contexts.{entered-next, beside-left, beside-right}
use Rattle.tb_walk.proofs.ReadLemmas.{ends_together, EndsTogether, length-mapped}
use Rattle.tb_walk.proofs.Steps.{at-skip}
use Rattle.tb_walk.proofs.TakeLemmas.{on_first_side, on_second_side, goes_atom, goes_first, goes_parted, goes_same}

-- ages are 0 in each part

new-two : (s i : ℕ) (x y : Process) → IsNew x → IsNew y → IsNew (of_two s i x y)
new-two s i x y h k = by_cases (nat_lt i s) refl
  where
    by_cases : (b : Bool) → nat_lt i s ≡ b → IsNew (of_two s i x y)
    by_cases true e = rw e h
    by_cases false e = rw e k

pub new-part : (w : Process) (at : ℕ) → IsNew w → IsNew (part w at)
new-part w zero h = h
new-part (At atom age) (suc at) h = h
new-part (Seq x y) (suc at) h = new-two (size x) at (part x at) (part y (at - size x)) (new-part x at h.0) (new-part y (at - size x) h.1)
new-part (Alt x y) (suc at) h = new-two (size x) at (part x at) (part y (at - size x)) (new-part x at h.0) (new-part y (at - size x) h.1)
new-part (Star x y) (suc at) h = new-two (size x) at (part x at) (part y (at - size x)) (new-part x at h.0) (new-part y (at - size x) h.1)
new-part (Par x y) (suc at) h = new-two (size x) at (part x at) (part y (at - size x)) (new-part x at h.0) (new-part y (at - size x) h.1)
new-part (Disrupt x y) (suc at) h = new-two (size x) at (part x at) (part y (at - suc (size x))) (new-part x at h.0) (new-part y (at - suc (size x)) h.1)
new-part (If test x y) (suc at) h = new-two (size x) at (part x at) (part y (at - size x)) (new-part x at h.0) (new-part y (at - size x) h.1)
new-part (When test x) (suc at) h = new-part x at h
new-part (Let settings x) (suc at) h = new-part x at h

aged-At : (n atom age : ℕ) → age ≤ 0 → waited n (At atom age) ≡ At atom n
aged-At n atom age h =
    let z : age ≡ 0 = omega arith in
    ap (λ (a : ℕ). waited n (At atom a)) z ∙ waited-At n atom

-- what is seen are the offers, but for what is left then

abbrev pub seen_of : Sighting → OfferView
seen_of sighting = sighting.seen

module _ (by : Looking) where
  abbrev views : List Offered → List OfferView
  views os = map (offer_view by.atoms by.now) os

  views-before : (y : Process) (os : List Offered) → views (map (before y) os) ≡ views os
  views-before y [] = refl
  views-before y (o ∷ os) = ap (λ (rest : List OfferView). offer_view by.atoms by.now o ∷ rest) (views-before y os)

  pub seen-two : (xs ys : List Sighting) (os ps : List OfferView) → map seen_of xs ≡ os → map seen_of ys ≡ ps → map seen_of (xs ++ ys) ≡ os ++ ps
  seen-two xs ys os ps e f = map-append seen_of xs ys ∙ ap (λ (l : List OfferView). l ++ map seen_of ys) e ∙ ap (λ (l : List OfferView). os ++ l) f

  seen-if : (says : Option Bool) (xs ys : List Sighting) (os ps : List Offered) → map seen_of xs ≡ views os → map seen_of ys ≡ views ps → map seen_of (sightings_if says xs ys) ≡ views (offers_if says os ps)
  seen-if (Some true) xs ys os ps e f = e
  seen-if (Some false) xs ys os ps e f = f
  seen-if None xs ys os ps e f = refl

  seen-after : (after : Option (List Slot)) (f : List Slot → List Sighting) (g : List Slot → List Offered) → ((store : List Slot) → map seen_of (f store) ≡ views (g store)) → map seen_of (sightings_after after f) ≡ views (offers_after after g)
  seen-after None f g e = refl
  seen-after (Some store) f g e = e store

  pub seen-sightings : (so_far : Behind) (at : ℕ) (w : Process) (store : List Slot) → IsNew w → map seen_of (sightings by so_far at w store) ≡ offer_views by.atoms by.now (waited by.age w) store
  unfolding offer_views
  seen-sightings so_far at (At atom age) store new = sym (ap (λ (p : Process). views (offers p store)) (aged-At by.age atom age new))
  seen-sightings so_far at (Seq x y) store new =
      seen-sightings (and_behind (behind.Entered (suc at + size x)) so_far) (suc at) x store new.0
      ∙ sym (offer_views-Seq by.atoms by.now (waited by.age x) y store)
      ∙ sym (ap (λ (p : Process). offer_views by.atoms by.now p store) (waited-Seq by.age x y))
  seen-sightings so_far at (Alt x y) store new =
      seen-two (sightings by so_far (suc at) x store) (sightings by so_far (suc at + size x) y store) _ _ (seen-sightings so_far (suc at) x store new.0) (seen-sightings so_far (suc at + size x) y store new.1)
      ∙ sym (offer_views-Alt by.atoms by.now (waited by.age x) (waited by.age y) store)
      ∙ sym (ap (λ (p : Process). offer_views by.atoms by.now p store) (waited-Alt by.age x y))
  seen-sightings so_far at (Star x y) store new =
      let first = offers (waited by.age x) store in
      let second = offers (waited by.age y) store in
      seen-two (sightings by (and_behind (behind.Entered at) so_far) (suc at) x store) (sightings by so_far (suc at + size x) y store) _ _ (seen-sightings (and_behind (behind.Entered at) so_far) (suc at) x store new.0) (seen-sightings so_far (suc at + size x) y store new.1)
      ∙ ap (λ (l : List OfferView). l ++ views second) (sym (views-before (Star x y) first))
      ∙ sym (map-append (offer_view by.atoms by.now) (map (before (Star x y)) first) second)
      ∙ sym (ap views (star-offers by.age x y store))
  seen-sightings so_far at (Par x y) store new =
      seen-two (sightings by behind.Parted (suc at) x store) (sightings by behind.Parted (suc at + size x) y store) _ _ (seen-sightings behind.Parted (suc at) x store new.0) (seen-sightings behind.Parted (suc at + size x) y store new.1)
      ∙ sym (offer_views-Par by.atoms by.now (waited by.age x) (waited by.age y) store)
      ∙ sym (ap (λ (p : Process). offer_views by.atoms by.now p store) (waited-Par by.age x y))
  seen-sightings so_far at (Disrupt x y) store new =
      seen-two (sightings by behind.Parted (suc at) x store) (sightings by so_far (suc (suc at + size x)) y store) _ _ (seen-sightings behind.Parted (suc at) x store new.0) (seen-sightings so_far (suc (suc at + size x)) y store new.1)
      ∙ sym (offer_views-Disrupt by.atoms by.now (waited by.age x) (waited by.age y) store)
      ∙ sym (ap (λ (p : Process). offer_views by.atoms by.now p store) (waited-Disrupt by.age x y))
  seen-sightings so_far at (If test x y) store new =
      seen-if (tested store test) (sightings by so_far (suc at) x store) (sightings by so_far (suc at + size x) y store) (offers (waited by.age x) store) (offers (waited by.age y) store)
      (seen-sightings so_far (suc at) x store new.0) (seen-sightings so_far (suc at + size x) y store new.1)
      ∙ sym (ap (λ (p : Process). offer_views by.atoms by.now p store) (waited-If by.age test x y))
  seen-sightings so_far at (When test x) store new =
      seen-if (tested store test) (sightings by so_far (suc at) x store) [] (offers (waited by.age x) store) [] (seen-sightings so_far (suc at) x store new) refl
      ∙ sym (ap (λ (p : Process). offer_views by.atoms by.now p store) (waited-When by.age test x))
  seen-sightings so_far at (Let settings x) store new =
      seen-after (with_settings store settings) (sightings by so_far (suc at) x) (offers (waited by.age x)) (λ own. seen-sightings so_far (suc at) x own new)
      ∙ sym (ap (λ (p : Process). offer_views by.atoms by.now p store) (waited-Let by.age settings x))

  pub length-sightings : (so_far : Behind) (at : ℕ) (w : Process) (store : List Slot) → IsNew w → length (sightings by so_far at w store) ≡ length (offers (waited by.age w) store)
  unfolding offer_views
  length-sightings so_far at w store new =
      sym (length-mapped seen_of (sightings by so_far at w store))
      ∙ ap length (seen-sightings so_far at w store new)
      ∙ length-mapped (offer_view by.atoms by.now) (offers (waited by.age w) store)

-- one of several that were seen

pub split_get : (xs ys : List Sighting) (j : ℕ) (s : Sighting) → slice_get (xs ++ ys) j ≡ Some s → (slice_get xs j ≡ Some s) ⊎ ((i : ℕ) × ((j ≡ length xs + i) × (slice_get ys i ≡ Some s)))
split_get [] ys j s e = inr (j, (omega arith, e))
split_get (x ∷ xs) ys zero s e = inl e
split_get (x ∷ xs) ys (suc j) s e = later (split_get xs ys j s e)
  where
    later : (slice_get xs j ≡ Some s) ⊎ ((i : ℕ) × ((j ≡ length xs + i) × (slice_get ys i ≡ Some s))) → (slice_get (x ∷ xs) (suc j) ≡ Some s) ⊎ ((i : ℕ) × ((suc j ≡ suc (length xs) + i) × (slice_get ys i ≡ Some s)))
    later (inl h) = inl h
    later (inr h) = inr (h.0, (let k = h.1.0 in omega arith, h.1.1))

nothing_there : {A : Type 0} (j : ℕ) (s : Sighting) → slice_get [] j ≡ Some s → A
nothing_there j s e = (let t : ◌≡◌ {A = Option Sighting} None (Some s) = e in cc)

abbrev IsOfSide : List Sighting → List Sighting → List Offered → List Offered → List Offered → ℕ → Sighting → Type 0
IsOfSide xs ys os ps all j s = ((slice_get xs j ≡ Some s) × (all ≡ os)) ⊎ ((slice_get ys j ≡ Some s) × (all ≡ ps))

get_if : (says : Option Bool) (xs ys : List Sighting) (os ps : List Offered) (j : ℕ) (s : Sighting) → slice_get (sightings_if says xs ys) j ≡ Some s → IsOfSide xs ys os ps (offers_if says os ps) j s
get_if (Some true) xs ys os ps j s e = inl (e, refl)
get_if (Some false) xs ys os ps j s e = inr (e, refl)
get_if None xs ys os ps j s e = nothing_there j s e

get_after : (after : Option (List Slot)) (f : List Slot → List Sighting) (g : List Slot → List Offered) (j : ℕ) (s : Sighting) → slice_get (sightings_after after f) j ≡ Some s → (own : List Slot) × ((slice_get (f own) j ≡ Some s) × (offers_after after g ≡ g own))
get_after None f g j s e = nothing_there j s e
get_after (Some own) f g j s e = (own, (e, refl))

-- where it stands

module _ (by : Looking) where
  abbrev pub IsOf : ℕ → ℕ → Sighting → Type 0
  IsOf low high s = ((low ≤ s.position) × (s.position < high)) × (s.branch ≡ by.branch)

  of_wider : (low high lower higher : ℕ) (s : Sighting) → lower ≤ low → high ≤ higher → IsOf low high s → IsOf lower higher s
  of_wider low high lower higher s h k r = (let a = r.0.0 in let b = r.0.1 in ((omega arith, omega arith), r.1))

  of_either : (low middle high : ℕ) (xs ys : List Sighting) (j : ℕ) (s : Sighting) → suc low ≤ middle → middle ≤ high → ((i : ℕ) → slice_get xs i ≡ Some s → IsOf (suc low) middle s) → ((i : ℕ) → slice_get ys i ≡ Some s → IsOf middle high s) →
      (slice_get xs j ≡ Some s) ⊎ ((i : ℕ) × ((j ≡ length xs + i) × (slice_get ys i ≡ Some s))) → IsOf low high s
  of_either low middle high xs ys j s a b f g (inl h) = of_wider (suc low) middle low high s (omega arith) (omega arith) (f j h)
  of_either low middle high xs ys j s a b f g (inr h) = of_wider middle high low high s (omega arith) (omega arith) (g h.0 h.1.1)

  of_if : (low middle high : ℕ) (xs ys : List Sighting) (j : ℕ) (s : Sighting) → suc low ≤ middle → middle ≤ high → ((i : ℕ) → slice_get xs i ≡ Some s → IsOf (suc low) middle s) → ((i : ℕ) → slice_get ys i ≡ Some s → IsOf middle high s) →
      IsOfSide xs ys [] [] [] j s → IsOf low high s
  of_if low middle high xs ys j s a b f g (inl h) = of_wider (suc low) middle low high s (omega arith) (omega arith) (f j h.0)
  of_if low middle high xs ys j s a b f g (inr h) = of_wider middle high low high s (omega arith) (omega arith) (g j h.0)

  sides : (says : Option Bool) (xs ys : List Sighting) (j : ℕ) (s : Sighting) → slice_get (sightings_if says xs ys) j ≡ Some s → IsOfSide xs ys [] [] [] j s
  sides (Some true) xs ys j s e = inl (e, refl)
  sides (Some false) xs ys j s e = inr (e, refl)
  sides None xs ys j s e = nothing_there j s e

  pub is_of : (so_far : Behind) (at : ℕ) (w : Process) (store : List Slot) (j : ℕ) (s : Sighting) → slice_get (sightings by so_far at w store) j ≡ Some s → IsOf at (at + size w) s
  is_of so_far at (At atom age) store zero s e =
      let same : sighting_at by so_far at atom store ≡ s = (let t : ◌≡◌ {A = Option Sighting} (Some (sighting_at by so_far at atom store)) (Some s) = e in cc) in
      subst (IsOf at (at + 1)) same ((omega arith, omega arith), refl)
  is_of so_far at (At atom age) store (suc j) s e = nothing_there j s e
  is_of so_far at (Seq x y) store j s e = of_wider (suc at) (suc at + size x) at (at + size (Seq x y)) s (omega arith) (omega arith) (is_of (and_behind (behind.Entered (suc at + size x)) so_far) (suc at) x store j s e)
  is_of so_far at (Alt x y) store j s e =
      of_either at (suc at + size x) (at + size (Alt x y)) (sightings by so_far (suc at) x store) (sightings by so_far (suc at + size x) y store) j s (omega arith) (omega arith)
      (λ i h. is_of so_far (suc at) x store i s h) (λ i h. of_wider (suc at + size x) (suc at + size x + size y) (suc at + size x) (at + size (Alt x y)) s (omega arith) (omega arith) (is_of so_far (suc at + size x) y store i s h))
      (split_get (sightings by so_far (suc at) x store) (sightings by so_far (suc at + size x) y store) j s e)
  is_of so_far at (Star x y) store j s e =
      of_either at (suc at + size x) (at + size (Star x y)) (sightings by (and_behind (behind.Entered at) so_far) (suc at) x store) (sightings by so_far (suc at + size x) y store) j s (omega arith) (omega arith)
      (λ i h. is_of (and_behind (behind.Entered at) so_far) (suc at) x store i s h) (λ i h. of_wider (suc at + size x) (suc at + size x + size y) (suc at + size x) (at + size (Star x y)) s (omega arith) (omega arith) (is_of so_far (suc at + size x) y store i s h))
      (split_get (sightings by (and_behind (behind.Entered at) so_far) (suc at) x store) (sightings by so_far (suc at + size x) y store) j s e)
  is_of so_far at (Par x y) store j s e =
      of_either at (suc at + size x) (at + size (Par x y)) (sightings by behind.Parted (suc at) x store) (sightings by behind.Parted (suc at + size x) y store) j s (omega arith) (omega arith)
      (λ i h. is_of behind.Parted (suc at) x store i s h) (λ i h. of_wider (suc at + size x) (suc at + size x + size y) (suc at + size x) (at + size (Par x y)) s (omega arith) (omega arith) (is_of behind.Parted (suc at + size x) y store i s h))
      (split_get (sightings by behind.Parted (suc at) x store) (sightings by behind.Parted (suc at + size x) y store) j s e)
  is_of so_far at (Disrupt x y) store j s e =
      of_either at (suc at + size x) (at + size (Disrupt x y)) (sightings by behind.Parted (suc at) x store) (sightings by so_far (suc (suc at + size x)) y store) j s (omega arith) (omega arith)
      (λ i h. is_of behind.Parted (suc at) x store i s h) (λ i h. of_wider (suc (suc at + size x)) (suc (suc at + size x) + size y) (suc at + size x) (at + size (Disrupt x y)) s (omega arith) (omega arith) (is_of so_far (suc (suc at + size x)) y store i s h))
      (split_get (sightings by behind.Parted (suc at) x store) (sightings by so_far (suc (suc at + size x)) y store) j s e)
  is_of so_far at (If test x y) store j s e =
      of_if at (suc at + size x) (at + size (If test x y)) (sightings by so_far (suc at) x store) (sightings by so_far (suc at + size x) y store) j s (omega arith) (omega arith)
      (λ i h. is_of so_far (suc at) x store i s h) (λ i h. of_wider (suc at + size x) (suc at + size x + size y) (suc at + size x) (at + size (If test x y)) s (omega arith) (omega arith) (is_of so_far (suc at + size x) y store i s h))
      (sides (tested store test) (sightings by so_far (suc at) x store) (sightings by so_far (suc at + size x) y store) j s e)
  is_of so_far at (When test x) store j s e =
      of_if at (suc at + size x) (at + size (When test x)) (sightings by so_far (suc at) x store) [] j s (omega arith) (omega arith)
      (λ i h. is_of so_far (suc at) x store i s h) (λ i h. nothing_there i s h)
      (sides (tested store test) (sightings by so_far (suc at) x store) [] j s e)
  is_of so_far at (Let settings x) store j s e =
      let g = get_after (with_settings store settings) (sightings by so_far (suc at) x) (λ own. []) j s e in
      of_wider (suc at) (suc at + size x) at (at + size (Let settings x)) s (omega arith) (omega arith) (is_of so_far (suc at) x g.0 j s g.1.0)

-- what comes of a part where what was seen of it happens

abbrev Leads : Looking → Behind → ℕ → Process → List Slot → Sighting → Type 0
Leads by so_far at w store s = (i : ℕ) → slice_get (sightings by so_far at w store) i ≡ Some s → GoesOn at w s.position so_far s.behind

module _ (by : Looking) (at : ℕ) (x y : Process) (store : List Slot) (j : ℕ) (s : Sighting) where
  abbrev ends : ℕ
  ends = suc at + size x

  abbrev IsIn : Behind → Behind → Type 0
  IsIn a b = (slice_get (sightings by a (suc at) x store) j ≡ Some s) ⊎ ((i : ℕ) × ((j ≡ length (sightings by a (suc at) x store) + i) × (slice_get (sightings by b ends y store) i ≡ Some s)))

  first_side : (a : Behind) (xs ys : List Branch) → slice_get (sightings by a (suc at) x store) j ≡ Some s → (if nat_lt s.position ends then xs else ys) ≡ xs
  first_side a xs ys h = on_first_side s.position ends xs ys (is_of by a (suc at) x store j s h).0.1

  second_side : (b : Behind) (i : ℕ) (xs ys : List Branch) → slice_get (sightings by b ends y store) i ≡ Some s → (if nat_lt s.position ends then xs else ys) ≡ ys
  second_side b i xs ys h = on_second_side s.position ends xs ys (is_of by b ends y store i s h).0.0

  leads_alt : (so_far : Behind) → Leads by so_far (suc at) x store s → Leads by so_far ends y store s → IsIn so_far so_far → GoesOn at (Alt x y) s.position so_far s.behind
  leads_alt so_far f g (inl h) =
      goes_same at (suc at) (Alt x y) x s.position so_far s.behind (λ ticks entered. first_side so_far (row_by ticks entered (suc at) x s.position) (row_by ticks entered ends y s.position) h) (f j h)
  leads_alt so_far f g (inr h) =
      goes_same at ends (Alt x y) y s.position so_far s.behind (λ ticks entered. second_side so_far h.0 (row_by ticks entered (suc at) x s.position) (row_by ticks entered ends y s.position) h.1.1) (g h.0 h.1.1)

  leads_star : (so_far : Behind) → Leads by (and_behind (behind.Entered at) so_far) (suc at) x store s → Leads by so_far ends y store s → IsIn (and_behind (behind.Entered at) so_far) so_far → GoesOn at (Star x y) s.position so_far s.behind
  leads_star so_far f g (inl h) =
      goes_first at (suc at) (Star x y) x s.position at so_far s.behind
      (λ ticks entered. first_side (and_behind (behind.Entered at) so_far) (or_entered (row_by ticks entered (suc at) x s.position) (branch at ticks ∷ [])) (row_by ticks entered ends y s.position) h) (f j h)
  leads_star so_far f g (inr h) =
      goes_same at ends (Star x y) y s.position so_far s.behind
      (λ ticks entered. second_side so_far h.0 (or_entered (row_by ticks entered (suc at) x s.position) (branch at ticks ∷ [])) (row_by ticks entered ends y s.position) h.1.1) (g h.0 h.1.1)

  leads_par : (so_far : Behind) → Leads by behind.Parted (suc at) x store s → Leads by behind.Parted ends y store s → IsIn behind.Parted behind.Parted → GoesOn at (Par x y) s.position so_far s.behind
  leads_par so_far f g (inl h) = goes_parted at (Par x y) s.position so_far s.behind (f j h)
  leads_par so_far f g (inr h) = goes_parted at (Par x y) s.position so_far s.behind (g h.0 h.1.1)

  leads_until : (so_far : Behind) → Leads by behind.Parted (suc at) x store s → Leads by so_far (suc ends) y store s →
      (slice_get (sightings by behind.Parted (suc at) x store) j ≡ Some s) ⊎ ((i : ℕ) × ((j ≡ length (sightings by behind.Parted (suc at) x store) + i) × (slice_get (sightings by so_far (suc ends) y store) i ≡ Some s))) →
      GoesOn at (Disrupt x y) s.position so_far s.behind
  leads_until so_far f g (inl h) = goes_parted at (Disrupt x y) s.position so_far s.behind (f j h)
  leads_until so_far f g (inr h) =
      let low = (is_of by so_far (suc ends) y store h.0 s h.1.1).0.0 in
      goes_same at (suc ends) (Disrupt x y) y s.position so_far s.behind
      (λ ticks entered. on_second_side s.position ends (and_waits (row_by ticks entered (suc at) x s.position) (branch ends entered)) (row_by ticks entered (suc ends) y s.position) (omega arith)) (g h.0 h.1.1)

  leads_if : (test : Expr) (so_far : Behind) → Leads by so_far (suc at) x store s → Leads by so_far ends y store s → IsOfSide (sightings by so_far (suc at) x store) (sightings by so_far ends y store) [] [] [] j s → GoesOn at (If test x y) s.position so_far s.behind
  leads_if test so_far f g (inl h) =
      goes_same at (suc at) (If test x y) x s.position so_far s.behind (λ ticks entered. first_side so_far (row_by ticks entered (suc at) x s.position) (row_by ticks entered ends y s.position) h.0) (f j h.0)
  leads_if test so_far f g (inr h) =
      goes_same at ends (If test x y) y s.position so_far s.behind (λ ticks entered. second_side so_far j (row_by ticks entered (suc at) x s.position) (row_by ticks entered ends y s.position) h.0) (g j h.0)

leads_when : (by : Looking) (at : ℕ) (test : Expr) (x : Process) (store : List Slot) (j : ℕ) (s : Sighting) (so_far : Behind) → Leads by so_far (suc at) x store s → IsOfSide (sightings by so_far (suc at) x store) [] [] [] [] j s → GoesOn at (When test x) s.position so_far s.behind
leads_when by at test x store j s so_far f (inl h) = goes_same at (suc at) (When test x) x s.position so_far s.behind (λ ticks entered. refl) (f j h.0)
leads_when by at test x store j s so_far f (inr h) = nothing_there j s h.0

module _ (by : Looking) where
  pub leads : (so_far : Behind) (at : ℕ) (w : Process) (store : List Slot) (j : ℕ) (s : Sighting) → slice_get (sightings by so_far at w store) j ≡ Some s → GoesOn at w s.position so_far s.behind
  leads so_far at (At atom age) store zero s e =
      let same : sighting_at by so_far at atom store ≡ s = (let t : ◌≡◌ {A = Option Sighting} (Some (sighting_at by so_far at atom store)) (Some s) = e in cc) in
      subst (λ (t : Sighting). GoesOn at (At atom age) t.position so_far t.behind) same (goes_atom at atom age so_far)
  leads so_far at (At atom age) store (suc j) s e = nothing_there j s e
  leads so_far at (Seq x y) store j s e =
      goes_first at (suc at) (Seq x y) x s.position (suc at + size x) so_far s.behind (λ ticks entered. refl) (leads (and_behind (behind.Entered (suc at + size x)) so_far) (suc at) x store j s e)
  leads so_far at (Alt x y) store j s e =
      leads_alt by at x y store j s so_far (λ i h. leads so_far (suc at) x store i s h) (λ i h. leads so_far (suc at + size x) y store i s h)
      (split_get (sightings by so_far (suc at) x store) (sightings by so_far (suc at + size x) y store) j s e)
  leads so_far at (Star x y) store j s e =
      leads_star by at x y store j s so_far (λ i h. leads (and_behind (behind.Entered at) so_far) (suc at) x store i s h) (λ i h. leads so_far (suc at + size x) y store i s h)
      (split_get (sightings by (and_behind (behind.Entered at) so_far) (suc at) x store) (sightings by so_far (suc at + size x) y store) j s e)
  leads so_far at (Par x y) store j s e =
      leads_par by at x y store j s so_far (λ i h. leads behind.Parted (suc at) x store i s h) (λ i h. leads behind.Parted (suc at + size x) y store i s h)
      (split_get (sightings by behind.Parted (suc at) x store) (sightings by behind.Parted (suc at + size x) y store) j s e)
  leads so_far at (Disrupt x y) store j s e =
      leads_until by at x y store j s so_far (λ i h. leads behind.Parted (suc at) x store i s h) (λ i h. leads so_far (suc (suc at + size x)) y store i s h)
      (split_get (sightings by behind.Parted (suc at) x store) (sightings by so_far (suc (suc at + size x)) y store) j s e)
  leads so_far at (If test x y) store j s e =
      leads_if by at x y store j s test so_far (λ i h. leads so_far (suc at) x store i s h) (λ i h. leads so_far (suc at + size x) y store i s h)
      (sides by (tested store test) (sightings by so_far (suc at) x store) (sightings by so_far (suc at + size x) y store) j s e)
  leads so_far at (When test x) store j s e =
      leads_when by at test x store j s so_far (λ i h. leads so_far (suc at) x store i s h) (sides by (tested store test) (sightings by so_far (suc at) x store) [] j s e)
  leads so_far at (Let settings x) store j s e =
      let g = get_after (with_settings store settings) (sightings by so_far (suc at) x) (λ own. []) j s e in
      goes_same at (suc at) (Let settings x) x s.position so_far s.behind (λ ticks entered. refl) (leads so_far (suc at) x g.0 j s g.1.0)

-- what is left where it happens

pub record Leaving (ticks at : ℕ) (w : Process) (row : List Branch) (j : ℕ) (os : List Offered) (own : List Slot) : Type 0 where
  pub left : Option Process
  pub selects : selected_at j os ≡ On left own
  pub reads : Reads ticks at w row left

leaving_as : (ticks at : ℕ) (w : Process) (row new : List Branch) (j : ℕ) (os all : List Offered) (own : List Slot) → new ≡ row → all ≡ os → Leaving ticks at w row j os own → Leaving ticks at w new j all own
leaving_as ticks at w row new j os all own e f l = rw (e, f) l

module _ (ticks at : ℕ) where
  -- a part that is all that is left
  leaving_part : (w x : Process) (at-x : ℕ) (row : List Branch) (j k : ℕ) (os all : List Offered) (own : List Slot) → Passes at w at-x x → (l : Leaving ticks at-x x row j os own) → selected_at k all ≡ On l.left own → Leaving ticks at w row k all own
  leaving_part w x at-x row j k os all own p l h = by_end l.left l.reads (ends_together ticks l.reads) h
    where
      by_end : (left : Option Process) → Reads ticks at-x x row left → EndsTogether ticks row left → selected_at k all ≡ On left own → Leaving ticks at w row k all own
      by_end left r (inl e) h = record { left = None; selects = h ∙ ap (λ (o : Option Process). On o own) e.1; reads = rw e.0 ended }
      by_end left r (inr e) h =
          let u = e.1.1.1.0 in
          let inside = subst (λ (o : Option Process). Reads ticks at-x x row o) e.1.1.1.1 r in
          record { left = Some u; selects = h ∙ ap (λ (o : Option Process). On o own) e.1.1.1.1; reads = passes at-x x p inside }

  -- a first part, behind which something follows
  leaving_first : (w x z : Process) (at-z : ℕ) (row : List Branch) (j k : ℕ) (os all : List Offered) (own : List Slot) → Follows at w x at-z z → (l : Leaving ticks (suc at) x row j os own) → selected_at k all ≡ On (Some (followed l.left z)) own → Leaving ticks at w (or_entered row (branch at-z ticks ∷ [])) k all own
  leaving_first w x z at-z row j k os all own p l h = by_end l.left l.reads (ends_together ticks l.reads) h
    where
      by_end : (left : Option Process) → Reads ticks (suc at) x row left → EndsTogether ticks row left → selected_at k all ≡ On (Some (followed left z)) own → Leaving ticks at w (or_entered row (branch at-z ticks ∷ [])) k all own
      by_end left r (inl e) h =
          let same : or_entered row (branch at-z ticks ∷ []) ≡ branch at-z ticks ∷ [] = ap (λ (l : List Branch). or_entered l (branch at-z ticks ∷ [])) e.0 in
          record {
            left = Some z;
            selects = h ∙ ap (λ (o : Option Process). On (Some (followed o z)) own) e.1;
            reads = subst (λ (l : List Branch). Reads ticks at w l (Some z)) (sym same) (entered-next w ticks p);
          }
      by_end left r (inr e) h =
          let u = e.1.1.1.0 in
          let inside = subst (λ (o : Option Process). Reads ticks (suc at) x row o) e.1.1.1.1 r in
          let stays : or_entered row (branch at-z ticks ∷ []) ≡ row = rw e.1.1.0 refl in
          record {
            left = Some (Seq u z);
            selects = h ∙ ap (λ (o : Option Process). On (Some (followed o z)) own) e.1.1.1.1;
            reads = subst (λ (l : List Branch). Reads ticks at w l (Some (Seq u z))) (sym stays) (follows x at-z z p inside);
          }

  -- a side of a merge, or of a disrupt
  module _ (x y : Process) (entered : ℕ) (le : entered ≤ ticks) where
    leaving_left : (row : List Branch) (j k : ℕ) (os all : List Offered) (own : List Slot) → (l : Leaving ticks (suc at) x row j os own) → selected_at k all ≡ On (Some (left_of l.left (waited (ticks - entered) y))) own → Leaving ticks at (Par x y) (row ++ branch (suc at + size x) entered ∷ []) k all own
    leaving_left row j k os all own l h =
        record {
          left = lefts.beside l.left (Some (waited (ticks - entered) y));
          selects = h ∙ ap (λ (o : Option Process). On o own) (beside-left l.left (waited (ticks - entered) y));
          reads = both l.reads (waits entered le);
        }

    leaving_right : (row : List Branch) (j k : ℕ) (os all : List Offered) (own : List Slot) → (l : Leaving ticks (suc at + size x) y row j os own) → selected_at k all ≡ On (Some (right_of (waited (ticks - entered) x) l.left)) own → Leaving ticks at (Par x y) (branch (suc at) entered ∷ row) k all own
    leaving_right row j k os all own l h =
        record {
          left = lefts.beside (Some (waited (ticks - entered) x)) l.left;
          selects = h ∙ ap (λ (o : Option Process). On o own) (beside-right (waited (ticks - entered) x) l.left);
          reads = both (waits entered le) l.reads;
        }

    -- the left side of a disrupt, and its right side in wait
    until_row : (row : List Branch) (l : Option Process) → Reads ticks (suc at) x row l → EndsTogether ticks row l → Reads ticks at (Disrupt x y) (and_waits row (branch (suc at + size x) entered)) (in_wait_of (waited (ticks - entered) y) l)
    until_row row l reads (inl k) = rw (k.0, k.1) ended
    until_row row l reads (inr k) =
        let some : Reads ticks (suc at) x (k.0 ∷ k.1.0) (Some k.1.1.1.0) = subst (λ (o : Option Process). Reads ticks (suc at) x (k.0 ∷ k.1.0) o) k.1.1.1.1 (subst (λ (m : List Branch). Reads ticks (suc at) x m l) k.1.1.0 reads) in
        rw (k.1.1.0, k.1.1.1.1) (until entered le some)

    leaving_held : (row : List Branch) (j k : ℕ) (os all : List Offered) (own : List Slot) → (l : Leaving ticks (suc at) x row j os own) → selected_at k all ≡ On (in_wait_of (waited (ticks - entered) y) l.left) own → Leaving ticks at (Disrupt x y) (and_waits row (branch (suc at + size x) entered)) k all own
    leaving_held row j k os all own l h =
        record {
          left = in_wait_of (waited (ticks - entered) y) l.left;
          selects = h;
          reads = until_row row l.left l.reads (ends_together ticks l.reads);
        }

-- one of the first offers, and one of those behind them

at-first : (f : Option Process → Option Process) (j : ℕ) (os ps : List Offered) (left : Option Process) (own : List Slot) → selected_at j os ≡ On left own → selected_at j (map (with_left f) os ++ ps) ≡ On (f left) own
at-first f j os ps left own h =
    at-append j (map (with_left f) os) ps
    ∙ ap (λ (g : Selected). or_past g (λ rest. selected_at rest ps)) (at-map f j os ∙ ap (selected_with f) h)

plain-first : (j : ℕ) (os ps : List Offered) (left : Option Process) (own : List Slot) → selected_at j os ≡ On left own → selected_at j (os ++ ps) ≡ On left own
plain-first j os ps left own h = at-append j os ps ∙ ap (λ (g : Selected). or_past g (λ rest. selected_at rest ps)) h

behind-all : (j i n : ℕ) (os ps : List Offered) (left : Option Process) (own : List Slot) → j ≡ n + i → n ≡ length os → selected_at i ps ≡ On left own → selected_at j (os ++ ps) ≡ On left own
behind-all j i n os ps left own e f h = (let k : j ≡ length os + i = omega arith in ap (λ (m : ℕ). selected_at m (os ++ ps)) k ∙ at-skip i os ps ∙ h)

module _ (atoms : List Atom) (now index ticks entered : ℕ) (le : entered ≤ ticks) where
  abbrev by : Looking
  by = record { atoms = atoms; branch = index; age = ticks - entered; now = now }

  abbrev aged : Process → Process
  aged w = waited (ticks - entered) w

  abbrev by_row : ℕ → Process → Sighting → List Branch
  by_row at w s = row_by ticks entered at w s.position

  abbrev Leaves : ℕ → Process → List Slot → ℕ → Sighting → Type 0
  Leaves at w store j s = Leaving ticks at w (by_row at w s) j (offers (aged w) store) s.seen.store

  abbrev Each : Behind → ℕ → Process → List Slot → Sighting → Type 0
  Each so_far at w store s = (i : ℕ) → slice_get (sightings by so_far at w store) i ≡ Some s → Leaves at w store i s

  abbrev Split : Behind → Behind → ℕ → Process → Process → List Slot → ℕ → Sighting → Type 0
  Split a b at x y store j s =
      (slice_get (sightings by a (suc at) x store) j ≡ Some s)
      ⊎ ((i : ℕ) × ((j ≡ length (sightings by a (suc at) x store) + i) × (slice_get (sightings by b (suc at + size x) y store) i ≡ Some s)))

  leaving_alt : (a b : Behind) (at : ℕ) (x y : Process) (store : List Slot) (j : ℕ) (s : Sighting) → IsNew x → Each a (suc at) x store s → Each b (suc at + size x) y store s → Split a b at x y store j s → Leaves at (Alt x y) store j s
  leaving_alt a b at x y store j s new f g (inl h) =
      let l = f j h in
      let all = offers (aged (Alt x y)) store in
      leaving_as ticks at (Alt x y) (by_row (suc at) x s) (by_row at (Alt x y) s) j all all s.seen.store
      (on_first_side s.position (suc at + size x) (by_row (suc at) x s) (by_row (suc at + size x) y s) (is_of by a (suc at) x store j s h).0.1) refl
      (leaving_part ticks at (Alt x y) x (suc at) (by_row (suc at) x s) j j (offers (aged x) store) all s.seen.store one l
      (ap (λ (p : Process). selected_at j (offers p store)) (waited-Alt (ticks - entered) x y) ∙ plain-first j (offers (aged x) store) (offers (aged y) store) l.left s.seen.store l.selects))
  leaving_alt a b at x y store j s new f g (inr h) =
      let l = g h.0 h.1.1 in
      let all = offers (aged (Alt x y)) store in
      leaving_as ticks at (Alt x y) (by_row (suc at + size x) y s) (by_row at (Alt x y) s) j all all s.seen.store
      (on_second_side s.position (suc at + size x) (by_row (suc at) x s) (by_row (suc at + size x) y s) (is_of by b (suc at + size x) y store h.0 s h.1.1).0.0) refl
      (leaving_part ticks at (Alt x y) y (suc at + size x) (by_row (suc at + size x) y s) h.0 j (offers (aged y) store) all s.seen.store other l
      (ap (λ (p : Process). selected_at j (offers p store)) (waited-Alt (ticks - entered) x y)
      ∙ behind-all j h.0 (length (sightings by a (suc at) x store)) (offers (aged x) store) (offers (aged y) store) l.left s.seen.store h.1.0 (length-sightings by a (suc at) x store new) l.selects))

  leaving_star : (a b : Behind) (at : ℕ) (x y : Process) (store : List Slot) (j : ℕ) (s : Sighting) → IsNew x → Each a (suc at) x store s → Each b (suc at + size x) y store s → Split a b at x y store j s → Leaves at (Star x y) store j s
  leaving_star a b at x y store j s new f g (inl h) =
      let l = f j h in
      let all = offers (aged (Star x y)) store in
      leaving_as ticks at (Star x y) (or_entered (by_row (suc at) x s) (branch at ticks ∷ [])) (by_row at (Star x y) s) j all all s.seen.store
      (on_first_side s.position (suc at + size x) (or_entered (by_row (suc at) x s) (branch at ticks ∷ [])) (by_row (suc at + size x) y s) (is_of by a (suc at) x store j s h).0.1) refl
      (leaving_first ticks at (Star x y) x (Star x y) at (by_row (suc at) x s) j j (offers (aged x) store) all s.seen.store turn l
      (ap (selected_at j) (star-offers (ticks - entered) x y store) ∙ at-first (followed_by (Star x y)) j (offers (aged x) store) (offers (aged y) store) l.left s.seen.store l.selects))
  leaving_star a b at x y store j s new f g (inr h) =
      let l = g h.0 h.1.1 in
      let all = offers (aged (Star x y)) store in
      let first = map (before (Star x y)) (offers (aged x) store) in
      leaving_as ticks at (Star x y) (by_row (suc at + size x) y s) (by_row at (Star x y) s) j all all s.seen.store
      (on_second_side s.position (suc at + size x) (or_entered (by_row (suc at) x s) (branch at ticks ∷ [])) (by_row (suc at + size x) y s) (is_of by b (suc at + size x) y store h.0 s h.1.1).0.0) refl
      (leaving_part ticks at (Star x y) y (suc at + size x) (by_row (suc at + size x) y s) h.0 j (offers (aged y) store) all s.seen.store leaves l
      (ap (selected_at j) (star-offers (ticks - entered) x y store)
      ∙ behind-all j h.0 (length (sightings by a (suc at) x store)) first (offers (aged y) store) l.left s.seen.store h.1.0
      (length-sightings by a (suc at) x store new ∙ sym (length-mapped (before (Star x y)) (offers (aged x) store))) l.selects))

  leaving_par : (a b : Behind) (at : ℕ) (x y : Process) (store : List Slot) (j : ℕ) (s : Sighting) → IsNew x → Each a (suc at) x store s → Each b (suc at + size x) y store s → Split a b at x y store j s → Leaves at (Par x y) store j s
  leaving_par a b at x y store j s new f g (inl h) =
      let l = f j h in
      let all = offers (aged (Par x y)) store in
      let row = by_row (suc at) x s ++ branch (suc at + size x) entered ∷ [] in
      leaving_as ticks at (Par x y) row (by_row at (Par x y) s) j all all s.seen.store
      (on_first_side s.position (suc at + size x) row (branch (suc at) entered ∷ by_row (suc at + size x) y s) (is_of by a (suc at) x store j s h).0.1) refl
      (leaving_left ticks at x y entered le (by_row (suc at) x s) j j (offers (aged x) store) all s.seen.store l
      (ap (λ (p : Process). selected_at j (offers p store)) (waited-Par (ticks - entered) x y)
      ∙ at-first (beside (aged y)) j (offers (aged x) store) (map (on_the_right (aged x)) (offers (aged y) store)) l.left s.seen.store l.selects))
  leaving_par a b at x y store j s new f g (inr h) =
      let l = g h.0 h.1.1 in
      let all = offers (aged (Par x y)) store in
      let row = branch (suc at) entered ∷ by_row (suc at + size x) y s in
      let first = map (on_the_left (aged y)) (offers (aged x) store) in
      leaving_as ticks at (Par x y) row (by_row at (Par x y) s) j all all s.seen.store
      (on_second_side s.position (suc at + size x) (by_row (suc at) x s ++ branch (suc at + size x) entered ∷ []) row (is_of by b (suc at + size x) y store h.0 s h.1.1).0.0) refl
      (leaving_right ticks at x y entered le (by_row (suc at + size x) y s) h.0 j (offers (aged y) store) all s.seen.store l
      (ap (λ (p : Process). selected_at j (offers p store)) (waited-Par (ticks - entered) x y)
      ∙ behind-all j h.0 (length (sightings by a (suc at) x store)) first (map (on_the_right (aged x)) (offers (aged y) store)) (along (aged x) l.left) s.seen.store h.1.0
      (length-sightings by a (suc at) x store new ∙ sym (length-mapped (on_the_left (aged y)) (offers (aged x) store)))
      (at-map (along (aged x)) h.0 (offers (aged y) store) ∙ ap (selected_with (along (aged x))) l.selects)))

  leaving_until : (a b : Behind) (at : ℕ) (x y : Process) (store : List Slot) (j : ℕ) (s : Sighting) → IsNew x → Each a (suc at) x store s → Each b (suc (suc at + size x)) y store s →
      (slice_get (sightings by a (suc at) x store) j ≡ Some s) ⊎ ((i : ℕ) × ((j ≡ length (sightings by a (suc at) x store) + i) × (slice_get (sightings by b (suc (suc at + size x)) y store) i ≡ Some s))) → Leaves at (Disrupt x y) store j s
  leaving_until a b at x y store j s new f g (inl h) =
      let l = f j h in
      let all = offers (aged (Disrupt x y)) store in
      let row = and_waits (by_row (suc at) x s) (branch (suc at + size x) entered) in
      leaving_as ticks at (Disrupt x y) row (by_row at (Disrupt x y) s) j all all s.seen.store
      (on_first_side s.position (suc at + size x) row (by_row (suc (suc at + size x)) y s) (is_of by a (suc at) x store j s h).0.1) refl
      (leaving_held ticks at x y entered le (by_row (suc at) x s) j j (offers (aged x) store) all s.seen.store l
      (ap (λ (p : Process). selected_at j (offers p store)) (waited-Disrupt (ticks - entered) x y)
      ∙ at-first (in_wait_of (aged y)) j (offers (aged x) store) (offers (aged y) store) l.left s.seen.store l.selects))
  leaving_until a b at x y store j s new f g (inr h) =
      let l = g h.0 h.1.1 in
      let all = offers (aged (Disrupt x y)) store in
      let row = by_row (suc (suc at + size x)) y s in
      let first = map (in_wait (aged y)) (offers (aged x) store) in
      let low = (is_of by b (suc (suc at + size x)) y store h.0 s h.1.1).0.0 in
      leaving_as ticks at (Disrupt x y) row (by_row at (Disrupt x y) s) j all all s.seen.store
      (on_second_side s.position (suc at + size x) (and_waits (by_row (suc at) x s) (branch (suc at + size x) entered)) row (omega arith)) refl
      (leaving_part ticks at (Disrupt x y) y (suc (suc at + size x)) row h.0 j (offers (aged y) store) all s.seen.store transfers l
      (ap (λ (p : Process). selected_at j (offers p store)) (waited-Disrupt (ticks - entered) x y)
      ∙ behind-all j h.0 (length (sightings by a (suc at) x store)) first (offers (aged y) store) l.left s.seen.store h.1.0
      (length-sightings by a (suc at) x store new ∙ sym (length-mapped (in_wait (aged y)) (offers (aged x) store))) l.selects))

  leaving_if : (a b : Behind) (at : ℕ) (test : Expr) (x y : Process) (store : List Slot) (j : ℕ) (s : Sighting) → Each a (suc at) x store s → Each b (suc at + size x) y store s →
      IsOfSide (sightings by a (suc at) x store) (sightings by b (suc at + size x) y store) (offers (aged x) store) (offers (aged y) store) (offers_if (tested store test) (offers (aged x) store) (offers (aged y) store)) j s → Leaves at (If test x y) store j s
  leaving_if a b at test x y store j s f g (inl h) =
      let l = f j h.0 in
      let all = offers (aged (If test x y)) store in
      leaving_as ticks at (If test x y) (by_row (suc at) x s) (by_row at (If test x y) s) j all all s.seen.store
      (on_first_side s.position (suc at + size x) (by_row (suc at) x s) (by_row (suc at + size x) y s) (is_of by a (suc at) x store j s h.0).0.1) refl
      (leaving_part ticks at (If test x y) x (suc at) (by_row (suc at) x s) j j (offers (aged x) store) all s.seen.store then_side l
      (ap (λ (p : Process). selected_at j (offers p store)) (waited-If (ticks - entered) test x y) ∙ ap (selected_at j) h.1 ∙ l.selects))
  leaving_if a b at test x y store j s f g (inr h) =
      let l = g j h.0 in
      let all = offers (aged (If test x y)) store in
      leaving_as ticks at (If test x y) (by_row (suc at + size x) y s) (by_row at (If test x y) s) j all all s.seen.store
      (on_second_side s.position (suc at + size x) (by_row (suc at) x s) (by_row (suc at + size x) y s) (is_of by b (suc at + size x) y store j s h.0).0.0) refl
      (leaving_part ticks at (If test x y) y (suc at + size x) (by_row (suc at + size x) y s) j j (offers (aged y) store) all s.seen.store else_side l
      (ap (λ (p : Process). selected_at j (offers p store)) (waited-If (ticks - entered) test x y) ∙ ap (selected_at j) h.1 ∙ l.selects))

  leaving_when : (a : Behind) (at : ℕ) (test : Expr) (x : Process) (store : List Slot) (j : ℕ) (s : Sighting) → Each a (suc at) x store s →
      IsOfSide (sightings by a (suc at) x store) [] (offers (aged x) store) [] (offers_if (tested store test) (offers (aged x) store) []) j s → Leaves at (When test x) store j s
  leaving_when a at test x store j s f (inl h) =
      let l = f j h.0 in
      leaving_part ticks at (When test x) x (suc at) (by_row (suc at) x s) j j (offers (aged x) store) (offers (aged (When test x)) store) s.seen.store when l
      (ap (λ (p : Process). selected_at j (offers p store)) (waited-When (ticks - entered) test x) ∙ ap (selected_at j) h.1 ∙ l.selects)
  leaving_when a at test x store j s f (inr h) = nothing_there j s h.0

  pub leaving : (so_far : Behind) (at : ℕ) (w : Process) (store : List Slot) (j : ℕ) (s : Sighting) → IsNew w → slice_get (sightings by so_far at w store) j ≡ Some s → Leaves at w store j s
  leaving so_far at (At atom age) store zero s new e =
      let same : sighting_at by so_far at atom store ≡ s = (let t : ◌≡◌ {A = Option Sighting} (Some (sighting_at by so_far at atom store)) (Some s) = e in cc) in
      record {
        left = None;
        selects = ap (λ (p : Process). selected_at 0 (offers p store)) (aged-At (ticks - entered) atom age new) ∙ ap (λ (t : Sighting). On None t.seen.store) same;
        reads = ended;
      }
  leaving so_far at (At atom age) store (suc j) s new e = nothing_there j s e
  leaving so_far at (Seq x y) store j s new e =
      let l = leaving (and_behind (behind.Entered (suc at + size x)) so_far) (suc at) x store j s new.0 e in
      leaving_first ticks at (Seq x y) x y (suc at + size x) (by_row (suc at) x s) j j (offers (aged x) store) (offers (aged (Seq x y)) store) s.seen.store sequence l
      (ap (λ (p : Process). selected_at j (offers p store)) (waited-Seq (ticks - entered) x y) ∙ at-map (followed_by y) j (offers (aged x) store) ∙ ap (selected_with (followed_by y)) l.selects)
  leaving so_far at (Alt x y) store j s new e =
      leaving_alt so_far so_far at x y store j s new.0 (λ i h. leaving so_far (suc at) x store i s new.0 h) (λ i h. leaving so_far (suc at + size x) y store i s new.1 h) (split_get (sightings by so_far (suc at) x store) (sightings by so_far (suc at + size x) y store) j s e)
  leaving so_far at (Star x y) store j s new e =
      leaving_star (and_behind (behind.Entered at) so_far) so_far at x y store j s new.0 (λ i h. leaving (and_behind (behind.Entered at) so_far) (suc at) x store i s new.0 h) (λ i h. leaving so_far (suc at + size x) y store i s new.1 h) (split_get (sightings by (and_behind (behind.Entered at) so_far) (suc at) x store) (sightings by so_far (suc at + size x) y store) j s e)
  leaving so_far at (Par x y) store j s new e =
      leaving_par behind.Parted behind.Parted at x y store j s new.0 (λ i h. leaving behind.Parted (suc at) x store i s new.0 h) (λ i h. leaving behind.Parted (suc at + size x) y store i s new.1 h) (split_get (sightings by behind.Parted (suc at) x store) (sightings by behind.Parted (suc at + size x) y store) j s e)
  leaving so_far at (Disrupt x y) store j s new e =
      leaving_until behind.Parted so_far at x y store j s new.0 (λ i h. leaving behind.Parted (suc at) x store i s new.0 h) (λ i h. leaving so_far (suc (suc at + size x)) y store i s new.1 h)
      (split_get (sightings by behind.Parted (suc at) x store) (sightings by so_far (suc (suc at + size x)) y store) j s e)
  leaving so_far at (If test x y) store j s new e =
      leaving_if so_far so_far at test x y store j s (λ i h. leaving so_far (suc at) x store i s new.0 h) (λ i h. leaving so_far (suc at + size x) y store i s new.1 h)
      (get_if (tested store test) (sightings by so_far (suc at) x store) (sightings by so_far (suc at + size x) y store) (offers (aged x) store) (offers (aged y) store) j s e)
  leaving so_far at (When test x) store j s new e =
      leaving_when so_far at test x store j s (λ i h. leaving so_far (suc at) x store i s new h) (get_if (tested store test) (sightings by so_far (suc at) x store) [] (offers (aged x) store) [] j s e)
  leaving so_far at (Let settings x) store j s new e =
      let g = get_after (with_settings store settings) (sightings by so_far (suc at) x) (offers (aged x)) j s e in
      let l = leaving so_far (suc at) x g.0 j s new g.1.0 in
      leaving_part ticks at (Let settings x) x (suc at) (by_row (suc at) x s) j j (offers (aged x) g.0) (offers (aged (Let settings x)) store) s.seen.store set l
      (ap (λ (p : Process). selected_at j (offers p store)) (waited-Let (ticks - entered) settings x) ∙ ap (selected_at j) g.1.1 ∙ l.selects)
