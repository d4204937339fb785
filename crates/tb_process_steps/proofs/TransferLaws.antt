-- The terms that a disrupt reaches while only its left side makes steps, and after its right side has made one.
use Rattle.std.proofs.Common.{◌≡◌, ℕ, zero, suc, ◌+◌, ◌<◌, ◌≤◌, ◌⊎◌, inl, inr, List, [], ◌∷◌, ◌++◌, map, length, slice_get, Option, Some, None, IfSome, Contains, refl, ap, sym, subst, ◌∙◌, arith, rules}
use Rattle.std.proofs.lemmas.List.{length-map}
use Rattle.std.proofs.lemmas.Option.{same_Some, slice_get_within}
use Rattle.std.proofs.lemmas.List.Elements.{All-nil, All-cons, All-append, All-weaker, All-map, All-contains, All-contains_itself, Contains-append_left, Contains-append_right}
use Rattle.std.specs.List.{All}
use Rattle.tb_func.specs.declared.slot.Slot.{Slot}
use Rattle.tb_process_steps.specs.Processes.{Process, At, Seq, Alt, Star, Par, Disrupt, If, When, Let, aged}
use Rattle.tb_process_steps.specs.Settings.{tested, with_settings}
use Rattle.tb_process_steps.specs.Offers.{Offered, followed, left_of, right_of, until, before, on_the_left, on_the_right, in_wait, offers}
use Rattle.tb_process_steps.specs.Transfers.{Comes, here, goes_on, grows_older, OnlyLeft, begins, steps, waits, RightWent, went, goes_further, grows, atoms_of, AreApart}
use Rattle.tb_process_steps.specs.Helpers.Runnings.{waited}
use Rattle.tb_process_steps.proofs.Ages.{left-is}
use Rattle.tb_process_steps.proofs.Offering.{contains-at, if-all, after-all}

-- the right side has waited as long as the whole disrupt

held : (y : Process) (o : Option Process) (left : Process) → until y o ≡ Some left → (x : Process) × (o ≡ Some x) × (left ≡ Disrupt x y)
held y None left e = absurd (let t : ◌≡◌ {A = Option Process} None (Some left) = e in cc)
held y (Some x) left e = (x, refl, sym (same_Some (Disrupt x y) left e))

-- the rest of the offer is a disrupt whose left side is reached from x
abbrev LeavesHeld : Process → ℕ → Process → Offered → Type 0
LeavesHeld x ticks y offered = (left : Process) → offered.residual ≡ Some left → (r : Process) × Comes x ticks r × (left ≡ Disrupt r y)

steps-held : (x r y : Process) (ticks : ℕ) (store : List Slot) → Comes x ticks r → All (LeavesHeld x ticks y) (map (in_wait y) (offers r store))
steps-held x r y ticks store k =
    All-map (LeavesHeld x ticks y) (in_wait y) (offers r store)
    (All-weaker (Contains (offers r store)) (λ o. LeavesHeld x ticks y (in_wait y o)) one (offers r store) (All-contains_itself (offers r store))) where
      one : (o : Offered) → Contains (offers r store) o → LeavesHeld x ticks y (in_wait y o)
      one o c left e =
          let h = held y o.residual left e in
          (h.0, goes_on store o k c h.1, h.2)

-- the side of a disrupt to which an offer belongs

split_offer : (xs ys : List Offered) (k : ℕ) (o : Offered) → slice_get (xs ++ ys) k ≡ Some o → (slice_get xs k ≡ Some o) ⊎ ((i : ℕ) × ((k ≡ length xs + i) × (slice_get ys i ≡ Some o)))
split_offer [] ys k o e = inr (k, (omega arith, e))
split_offer (x ∷ xs) ys zero o e = inl e
split_offer (x ∷ xs) ys (suc k) o e = later (split_offer xs ys k o e)
  where
    later : (slice_get xs k ≡ Some o) ⊎ ((i : ℕ) × ((k ≡ length xs + i) × (slice_get ys i ≡ Some o))) → (slice_get (x ∷ xs) (suc k) ≡ Some o) ⊎ ((i : ℕ) × ((suc k ≡ suc (length xs) + i) × (slice_get ys i ≡ Some o)))
    later (inl h) = inl h
    later (inr h) = inr (h.0, (let m = h.1.0 in omega arith, h.1.1))

of_left : (r s : Process) (store : List Slot) (k : ℕ) (o : Offered) → slice_get (offers (Disrupt r s) store) k ≡ Some o → k < length (offers r store) → Contains (map (in_wait s) (offers r store)) o
of_left r s store k o e h = side (split_offer (map (in_wait s) (offers r store)) (offers s store) k o e)
  where
    many : length (map (in_wait s) (offers r store)) ≡ length (offers r store)
    many = length-map (offers r store) (in_wait s)

    side : (slice_get (map (in_wait s) (offers r store)) k ≡ Some o) ⊎ ((i : ℕ) × ((k ≡ length (map (in_wait s) (offers r store)) + i) × (slice_get (offers s store) i ≡ Some o))) → Contains (map (in_wait s) (offers r store)) o
    side (inl g) = contains-at (map (in_wait s) (offers r store)) k o g
    side (inr g) = absurd (let m = g.1.0 in omega (arith, many))

of_right : (r s : Process) (store : List Slot) (k : ℕ) (o : Offered) → slice_get (offers (Disrupt r s) store) k ≡ Some o → length (offers r store) ≤ k → Contains (offers s store) o
of_right r s store k o e h = side (split_offer (map (in_wait s) (offers r store)) (offers s store) k o e)
  where
    many : length (map (in_wait s) (offers r store)) ≡ length (offers r store)
    many = length-map (offers r store) (in_wait s)

    side : (slice_get (map (in_wait s) (offers r store)) k ≡ Some o) ⊎ ((i : ℕ) × ((k ≡ length (map (in_wait s) (offers r store)) + i) × (slice_get (offers s store) i ≡ Some o))) → Contains (offers s store) o
    side (inl g) = absurd (let m = slice_get_within (map (in_wait s) (offers r store)) k o g in omega (arith, many))
    side (inr g) = contains-at (offers s store) g.0 o g.1.1

only_left : {x y : Process} {ticks : ℕ} {term : Process} → OnlyLeft x y ticks term → (r : Process) × Comes x ticks r × (term ≡ Disrupt r (waited ticks y))
only_left {x = x} begins = (x, here, refl)
only_left {x = x} {y = y} (steps {ticks = ticks} {k = k} {r = r} {s = s} {left = left} store offered only e less c) =
    let h = only_left only in
    let same : Disrupt r s ≡ Disrupt h.0 (waited ticks y) = h.2 in
    let first : h.0 ≡ r = cc in
    let second : s ≡ waited ticks y = cc in
    let comes : Comes x ticks r = subst (Comes x ticks) first h.1 in
    let found = All-contains (LeavesHeld x ticks s) (map (in_wait s) (offers r store)) offered (steps-held x r s ticks store comes) (of_left r s store k offered e less) left c in
    (found.0, found.1, found.2 ∙ ap (Disrupt found.0) second)
only_left {y = y} (waits {ticks = ticks} {term = term} k) =
    let h = only_left k in
    let e : suc ticks ≡ ticks + 1 = omega arith in
    (aged h.0, grows_older h.1, ap aged h.2 ∙ ap (λ (n : ℕ). Disrupt (aged h.0) (waited n y)) e)

pub right_waits : (x y term : Process) (ticks : ℕ) → OnlyLeft x y ticks term → (r : Process) × Comes x ticks r × (term ≡ Disrupt r (waited ticks y)) × ((store : List Slot) → offers term store ≡ map (in_wait (waited ticks y)) (offers r store) ++ offers (waited ticks y) store)
right_waits x y term ticks k = (let h = only_left k in (h.0, h.1, h.2, λ store. ap (λ (p : Process). offers p store) h.2))

-- the atoms of a reached term are atoms of the term

module _ (own_atoms : List ℕ) where
  abbrev IsWithin : Process → Type 0
  IsWithin (At atom age) = Contains own_atoms atom
  IsWithin (Seq x y) = IsWithin x × IsWithin y
  IsWithin (Alt x y) = IsWithin x × IsWithin y
  IsWithin (Star x y) = IsWithin x × IsWithin y
  IsWithin (Par x y) = IsWithin x × IsWithin y
  IsWithin (Disrupt x y) = IsWithin x × IsWithin y
  IsWithin (If test x y) = IsWithin x × IsWithin y
  IsWithin (When test x) = IsWithin x
  IsWithin (Let settings x) = IsWithin x

  within-aged : (term : Process) → IsWithin term → IsWithin (aged term)
  within-aged (At atom age) h = h
  within-aged (Seq x y) h = (within-aged x h.0, h.1)
  within-aged (Alt x y) h = (within-aged x h.0, within-aged y h.1)
  within-aged (Star x y) h = ((within-aged x h.0, h), within-aged y h.1)
  within-aged (Par x y) h = (within-aged x h.0, within-aged y h.1)
  within-aged (Disrupt x y) h = (within-aged x h.0, within-aged y h.1)
  within-aged (If test x y) h = (within-aged x h.0, within-aged y h.1)
  within-aged (When test x) h = within-aged x h
  within-aged (Let settings x) h = within-aged x h

  within-waited : (ticks : ℕ) (term : Process) → IsWithin term → IsWithin (waited ticks term)
  within-waited zero term h = h
  within-waited (suc ticks) term h = within-aged (waited ticks term) (within-waited ticks term h)

  record OfferWithin (offered : Offered) : Type 0 where
    atom : Contains own_atoms offered.atom
    left : IfSome offered.residual IsWithin

  followed-within : (r : Option Process) (y : Process) → IfSome r IsWithin → IsWithin y → IsWithin (followed r y)
  followed-within None y h k = k
  followed-within (Some x) y h k = (h, k)

  left_of-within : (r : Option Process) (y : Process) → IfSome r IsWithin → IsWithin y → IsWithin (left_of r y)
  left_of-within None y h k = k
  left_of-within (Some x) y h k = (h, k)

  right_of-within : (x : Process) (r : Option Process) → IsWithin x → IfSome r IsWithin → IsWithin (right_of x r)
  right_of-within x None h k = h
  right_of-within x (Some y) h k = (h, k)

  until-within : (y : Process) (r : Option Process) → IsWithin y → IfSome r IsWithin → IfSome (until y r) IsWithin
  until-within y None h k = tt
  until-within y (Some x) h k = (k, h)

  mapped : (f : Offered → Offered) (os : List Offered) → ((o : Offered) → OfferWithin o → OfferWithin (f o)) → All OfferWithin os → All OfferWithin (map f os)
  mapped f os each h = All-map OfferWithin f os (All-weaker OfferWithin (λ o. OfferWithin (f o)) each os h)

  before-within : (z : Process) (os : List Offered) → IsWithin z → All OfferWithin os → All OfferWithin (map (before z) os)
  before-within z os k h = mapped (before z) os (λ o g. record { atom = g.atom; left = followed-within o.residual z g.left k }) h

  offers-within : (term : Process) (store : List Slot) → IsWithin term → All OfferWithin (offers term store)
  offers-within (At atom age) store h = All-cons OfferWithin _ [] (record { atom = h; left = tt }) (All-nil OfferWithin)
  offers-within (Seq x y) store h = before-within y (offers x store) h.1 (offers-within x store h.0)
  offers-within (Alt x y) store h = All-append OfferWithin (offers x store) (offers y store) (offers-within x store h.0) (offers-within y store h.1)
  offers-within (Star x y) store h =
      All-append OfferWithin (map (before (Star x y)) (offers x store)) (offers y store) (before-within (Star x y) (offers x store) h (offers-within x store h.0)) (offers-within y store h.1)
  offers-within (Par x y) store h =
      All-append OfferWithin (map (on_the_left y) (offers x store)) (map (on_the_right x) (offers y store))
      (mapped (on_the_left y) (offers x store) (λ o g. record { atom = g.atom; left = left_of-within o.residual y g.left h.1 }) (offers-within x store h.0))
      (mapped (on_the_right x) (offers y store) (λ o g. record { atom = g.atom; left = right_of-within x o.residual h.0 g.left }) (offers-within y store h.1))
  offers-within (Disrupt x y) store h =
      All-append OfferWithin (map (in_wait y) (offers x store)) (offers y store)
      (mapped (in_wait y) (offers x store) (λ o g. record { atom = g.atom; left = until-within y o.residual h.1 g.left }) (offers-within x store h.0))
      (offers-within y store h.1)
  offers-within (If test x y) store h = if-all OfferWithin (tested store test) (offers x store) (offers y store) (offers-within x store h.0) (offers-within y store h.1)
  offers-within (When test x) store h = if-all OfferWithin (tested store test) (offers x store) [] (offers-within x store h) (All-nil OfferWithin)
  offers-within (Let settings x) store h = after-all OfferWithin (with_settings store settings) (offers x) (let-within (with_settings store settings) (λ s. offers-within x s h)) where
    let-within : (o : Option (List Slot)) → ((s : List Slot) → All OfferWithin (offers x s)) → IfSome o (λ s. All OfferWithin (offers x s))
    let-within None k = tt
    let-within (Some s) k = k s

  offer-within : (term : Process) (store : List Slot) (offered : Offered) → IsWithin term → Contains (offers term store) offered → OfferWithin offered
  offer-within term store offered h c = All-contains OfferWithin (offers term store) offered (offers-within term store h) c

  comes-within : (term : Process) {ticks : ℕ} {later : Process} → Comes term ticks later → IsWithin term → IsWithin later
  comes-within term here h = h
  comes-within term (goes_on {later = later} {left = left} store offered k c e) h = left-is IsWithin offered.residual left (offer-within later store offered (comes-within term k h) c).left e
  comes-within term (grows_older {later = later} k) h = within-aged later (comes-within term k h)

within-more : (own_atoms more_atoms : List ℕ) (term : Process) → ((a : ℕ) → Contains own_atoms a → Contains more_atoms a) → IsWithin own_atoms term → IsWithin more_atoms term
within-more own_atoms more_atoms (At atom age) f h = f atom h
within-more own_atoms more_atoms (Seq x y) f h = (within-more own_atoms more_atoms x f h.0, within-more own_atoms more_atoms y f h.1)
within-more own_atoms more_atoms (Alt x y) f h = (within-more own_atoms more_atoms x f h.0, within-more own_atoms more_atoms y f h.1)
within-more own_atoms more_atoms (Star x y) f h = (within-more own_atoms more_atoms x f h.0, within-more own_atoms more_atoms y f h.1)
within-more own_atoms more_atoms (Par x y) f h = (within-more own_atoms more_atoms x f h.0, within-more own_atoms more_atoms y f h.1)
within-more own_atoms more_atoms (Disrupt x y) f h = (within-more own_atoms more_atoms x f h.0, within-more own_atoms more_atoms y f h.1)
within-more own_atoms more_atoms (If test x y) f h = (within-more own_atoms more_atoms x f h.0, within-more own_atoms more_atoms y f h.1)
within-more own_atoms more_atoms (When test x) f h = within-more own_atoms more_atoms x f h
within-more own_atoms more_atoms (Let settings x) f h = within-more own_atoms more_atoms x f h

both-own : (x y : Process) → IsWithin (atoms_of x) x → IsWithin (atoms_of y) y → IsWithin (atoms_of x ++ atoms_of y) x × IsWithin (atoms_of x ++ atoms_of y) y
both-own x y h k = (
  within-more (atoms_of x) (atoms_of x ++ atoms_of y) x (Contains-append_left (atoms_of x) (atoms_of y)) h,
  within-more (atoms_of y) (atoms_of x ++ atoms_of y) y (Contains-append_right (atoms_of x) (atoms_of y)) k,
)

own : (term : Process) → IsWithin (atoms_of term) term
own (At atom age) = search rules
own (Seq x y) = both-own x y (own x) (own y)
own (Alt x y) = both-own x y (own x) (own y)
own (Star x y) = both-own x y (own x) (own y)
own (Par x y) = both-own x y (own x) (own y)
own (Disrupt x y) = both-own x y (own x) (own y)
own (If test x y) = both-own x y (own x) (own y)
own (When test x) = own x
own (Let settings x) = own x

-- after a step of the right side, the disrupt reaches what the right side alone reaches

waits-alone : (y : Process) (ticks : ℕ) → Comes y ticks (waited ticks y)
waits-alone y zero = here
waits-alone y (suc ticks) = subst (λ (n : ℕ). Comes y n (waited (suc ticks) y)) (omega arith) (grows_older (waits-alone y ticks))

right_side : {x y r s : Process} {ticks : ℕ} → OnlyLeft x y ticks (Disrupt r s) → Comes y ticks s
right_side {y = y} {r = r} {s = s} {ticks = ticks} k =
    let h = only_left k in
    let same : Disrupt r s ≡ Disrupt h.0 (waited ticks y) = h.2 in
    let is : waited ticks y ≡ s = cc in
    subst (Comes y ticks) is (waits-alone y ticks)

alone : {x y : Process} {ticks : ℕ} {term : Process} → RightWent x y ticks term → Comes y ticks term
alone (went {k = k} {r = r} {s = s} store offered only e more c) = goes_on store offered (right_side only) (of_right r s store k offered e more) c
alone (goes_further store offered h c e) = goes_on store offered (alone h) c e
alone (grows h) = grows_older (alone h)

pub is_alone : (x y term : Process) (ticks : ℕ) → RightWent x y ticks term → Comes y ticks term
is_alone x y term ticks h = alone h

right-own : {x y : Process} {ticks : ℕ} {term : Process} → RightWent x y ticks term → IsWithin (atoms_of y) term
right-own {y = y} h = comes-within (atoms_of y) y (alone h) (own y)

pub right_alone : (x y term : Process) (ticks : ℕ) (store : List Slot) (offered : Offered) → RightWent x y ticks term → Contains (offers term store) offered → Contains (atoms_of y) offered.atom
right_alone x y term ticks store offered k c = (offer-within (atoms_of y) term store offered (right-own k) c).atom

pub left_gone : (x y term : Process) (ticks : ℕ) (store : List Slot) (offered : Offered) → AreApart x y → RightWent x y ticks term → Contains (offers term store) offered → Contains (atoms_of x) offered.atom → ⊥
left_gone x y term ticks store offered apart k c there = apart offered.atom there (right_alone x y term ticks store offered k c)
