-- In each term that a body reaches, no age is greater than the ticks, and the ages on the right of a sequence and within a star are 0.
use Rattle.std.proofs.Common.{◌≡◌, ℕ, ◌+◌, ◌≤◌, List, [], map, Option, Some, None, IfSome, sym, subst, arith}
use Rattle.std.proofs.lemmas.List.Elements.{All-nil, All-cons, All-append, All-weaker, All-map, All-contains}
use Rattle.std.specs.List.{All}
use Rattle.tb_func.specs.declared.slot.Slot.{Slot}
use Rattle.tb_body.specs.declared.tree.Tree.{Tree, Tree-F, map-Tree, fold-roll-Tree, ind-Tree, roll-Tree}
use Rattle.tb_body.specs.declared.tree.Tree.TheOpen as layer
use Rattle.tb_process_steps.specs.Processes.{Process, At, Seq, Alt, Star, Par, Disrupt, If, When, Let, fresh, fresh_step, aged}
use Rattle.tb_process_steps.specs.Settings.{tested, with_settings}
use Rattle.tb_process_steps.specs.Offers.{until, in_wait, Offered, followed, left_of, right_of, before, on_the_left, on_the_right, offers}
use Rattle.tb_process_steps.specs.Reached.{Reaches, entered, went_on, grew_older, IsAgedUpTo, IsNew}
use Rattle.tb_process_steps.proofs.Offering.{if-all, after-all}

-- a body that is just entered is new

abbrev Shown : Type 0
Shown = (t : Tree) × IsNew (fresh t)

layer-new : (y : Tree-F Shown) → IsNew (fresh_step (map-Tree Tree Process fresh (map-Tree Shown Tree (λ s. s.0) y)))
layer-new (layer.At atom) = omega arith
layer-new (layer.Seq x y) = (x.1, y.1)
layer-new (layer.Alt x y) = (x.1, y.1)
layer-new (layer.Star x y) = (x.1, y.1)
layer-new (layer.Par x y) = (x.1, y.1)
layer-new (layer.Disrupt x y) = (x.1, y.1)
layer-new (layer.If test x None) = x.1
layer-new (layer.If test x (Some y)) = (x.1, y.1)
layer-new (layer.Let settings x) = x.1

pub fresh-new : (tree : Tree) → IsNew (fresh tree)
fresh-new = ind-Tree (λ t. IsNew (fresh t)) step where
  step : (x : Tree-F Tree) (y : Tree-F Shown) → map-Tree Shown Tree (λ s. s.0) y ≡ x → IsNew (fresh (roll-Tree x))
  step x y e = subst IsNew (sym (fold-roll-Tree Process fresh_step x)) (subst (λ (w : Tree-F Tree). IsNew (fresh_step (map-Tree Tree Process fresh w))) e (layer-new y))

-- ages up to a number

pub up_to-more : (few many : ℕ) (term : Process) → few ≤ many → IsAgedUpTo few term → IsAgedUpTo many term
up_to-more few many (At atom age) le h = omega arith
up_to-more few many (Seq x y) le h = (up_to-more few many x le h.0, up_to-more few many y le h.1)
up_to-more few many (Alt x y) le h = (up_to-more few many x le h.0, up_to-more few many y le h.1)
up_to-more few many (Star x y) le h = (up_to-more few many x le h.0, up_to-more few many y le h.1)
up_to-more few many (Par x y) le h = (up_to-more few many x le h.0, up_to-more few many y le h.1)
up_to-more few many (Disrupt x y) le h = (up_to-more few many x le h.0, up_to-more few many y le h.1)
up_to-more few many (If test x y) le h = (up_to-more few many x le h.0, up_to-more few many y le h.1)
up_to-more few many (When test x) le h = up_to-more few many x le h
up_to-more few many (Let settings x) le h = up_to-more few many x le h

pub up_to-aged : (ticks : ℕ) (term : Process) → IsAgedUpTo ticks term → IsAgedUpTo (ticks + 1) (aged term)
up_to-aged ticks (At atom age) h = omega arith
up_to-aged ticks (Seq x y) h = (up_to-aged ticks x h.0, up_to-more ticks (ticks + 1) y (omega arith) h.1)
up_to-aged ticks (Alt x y) h = (up_to-aged ticks x h.0, up_to-aged ticks y h.1)
up_to-aged ticks (Star x y) h =
    let later : IsAgedUpTo (ticks + 1) (Star x y) = (up_to-more ticks (ticks + 1) x (omega arith) h.0, up_to-more ticks (ticks + 1) y (omega arith) h.1) in
    ((up_to-aged ticks x h.0, later), up_to-aged ticks y h.1)
up_to-aged ticks (Par x y) h = (up_to-aged ticks x h.0, up_to-aged ticks y h.1)
up_to-aged ticks (Disrupt x y) h = (up_to-aged ticks x h.0, up_to-aged ticks y h.1)
up_to-aged ticks (If test x y) h = (up_to-aged ticks x h.0, up_to-aged ticks y h.1)
up_to-aged ticks (When test x) h = up_to-aged ticks x h
up_to-aged ticks (Let settings x) h = up_to-aged ticks x h

-- the age of an offer, and the ages in its rest
pub record OfferUpTo (ticks : ℕ) (offered : Offered) : Type 0 where
  pub age : offered.age ≤ ticks
  pub left : IfSome offered.residual (IsAgedUpTo ticks)

followed-up_to : (ticks : ℕ) (r : Option Process) (y : Process) → IfSome r (IsAgedUpTo ticks) → IsAgedUpTo ticks y → IsAgedUpTo ticks (followed r y)
followed-up_to ticks None y h k = k
followed-up_to ticks (Some x) y h k = (h, k)

left_of-up_to : (ticks : ℕ) (r : Option Process) (y : Process) → IfSome r (IsAgedUpTo ticks) → IsAgedUpTo ticks y → IsAgedUpTo ticks (left_of r y)
left_of-up_to ticks None y h k = k
left_of-up_to ticks (Some x) y h k = (h, k)

right_of-up_to : (ticks : ℕ) (x : Process) (r : Option Process) → IsAgedUpTo ticks x → IfSome r (IsAgedUpTo ticks) → IsAgedUpTo ticks (right_of x r)
right_of-up_to ticks x None h k = h
right_of-up_to ticks x (Some y) h k = (h, k)

until-up_to : (ticks : ℕ) (y : Process) (r : Option Process) → IsAgedUpTo ticks y → IfSome r (IsAgedUpTo ticks) → IfSome (until y r) (IsAgedUpTo ticks)
until-up_to ticks y None h k = tt
until-up_to ticks y (Some x) h k = (k, h)

before-up_to : (ticks : ℕ) (y : Process) (os : List Offered) → IsAgedUpTo ticks y → All (OfferUpTo ticks) os → All (OfferUpTo ticks) (map (before y) os)
before-up_to ticks y os k h =
    All-map (OfferUpTo ticks) (before y) os
    (All-weaker (OfferUpTo ticks) (λ o. OfferUpTo ticks (before y o)) (λ o g. record { age = g.age; left = followed-up_to ticks o.residual y g.left k }) os h)

on_the_left-up_to : (ticks : ℕ) (y : Process) (os : List Offered) → IsAgedUpTo ticks y → All (OfferUpTo ticks) os → All (OfferUpTo ticks) (map (on_the_left y) os)
on_the_left-up_to ticks y os k h =
    All-map (OfferUpTo ticks) (on_the_left y) os
    (All-weaker (OfferUpTo ticks) (λ o. OfferUpTo ticks (on_the_left y o)) (λ o g. record { age = g.age; left = left_of-up_to ticks o.residual y g.left k }) os h)

on_the_right-up_to : (ticks : ℕ) (x : Process) (os : List Offered) → IsAgedUpTo ticks x → All (OfferUpTo ticks) os → All (OfferUpTo ticks) (map (on_the_right x) os)
on_the_right-up_to ticks x os k h =
    All-map (OfferUpTo ticks) (on_the_right x) os
    (All-weaker (OfferUpTo ticks) (λ o. OfferUpTo ticks (on_the_right x o)) (λ o g. record { age = g.age; left = right_of-up_to ticks x o.residual k g.left }) os h)

in_wait-up_to : (ticks : ℕ) (y : Process) (os : List Offered) → IsAgedUpTo ticks y → All (OfferUpTo ticks) os → All (OfferUpTo ticks) (map (in_wait y) os)
in_wait-up_to ticks y os k h =
    All-map (OfferUpTo ticks) (in_wait y) os
    (All-weaker (OfferUpTo ticks) (λ o. OfferUpTo ticks (in_wait y o)) (λ o g. record { age = g.age; left = until-up_to ticks y o.residual k g.left }) os h)

pub offers-up_to : (ticks : ℕ) (term : Process) (store : List Slot) → IsAgedUpTo ticks term → All (OfferUpTo ticks) (offers term store)
offers-up_to ticks (At atom age) store h = All-cons (OfferUpTo ticks) _ [] (record { age = h; left = tt }) (All-nil (OfferUpTo ticks))
offers-up_to ticks (Seq x y) store h = before-up_to ticks y (offers x store) h.1 (offers-up_to ticks x store h.0)
offers-up_to ticks (Alt x y) store h = All-append (OfferUpTo ticks) (offers x store) (offers y store) (offers-up_to ticks x store h.0) (offers-up_to ticks y store h.1)
offers-up_to ticks (Star x y) store h =
    All-append (OfferUpTo ticks) (map (before (Star x y)) (offers x store)) (offers y store)
    (before-up_to ticks (Star x y) (offers x store) h (offers-up_to ticks x store h.0)) (offers-up_to ticks y store h.1)
offers-up_to ticks (Par x y) store h =
    All-append (OfferUpTo ticks) (map (on_the_left y) (offers x store)) (map (on_the_right x) (offers y store))
    (on_the_left-up_to ticks y (offers x store) h.1 (offers-up_to ticks x store h.0))
    (on_the_right-up_to ticks x (offers y store) h.0 (offers-up_to ticks y store h.1))
offers-up_to ticks (Disrupt x y) store h =
    All-append (OfferUpTo ticks) (map (in_wait y) (offers x store)) (offers y store)
    (in_wait-up_to ticks y (offers x store) h.1 (offers-up_to ticks x store h.0)) (offers-up_to ticks y store h.1)
offers-up_to ticks (If test x y) store h = if-all (OfferUpTo ticks) (tested store test) (offers x store) (offers y store) (offers-up_to ticks x store h.0) (offers-up_to ticks y store h.1)
offers-up_to ticks (When test x) store h = if-all (OfferUpTo ticks) (tested store test) (offers x store) [] (offers-up_to ticks x store h) (All-nil (OfferUpTo ticks))
offers-up_to ticks (Let settings x) store h = after-all (OfferUpTo ticks) (with_settings store settings) (offers x) (let-up_to (with_settings store settings) (λ s. offers-up_to ticks x s h)) where
  let-up_to : (o : Option (List Slot)) → ((s : List Slot) → All (OfferUpTo ticks) (offers x s)) → IfSome o (λ s. All (OfferUpTo ticks) (offers x s))
  let-up_to None k = tt
  let-up_to (Some s) k = k s

pub left-is : (P : Process → Type 0) (o : Option Process) (left : Process) → IfSome o P → o ≡ Some left → P left
left-is P None left h e = absurd (let t : ◌≡◌ {A = Option Process} None (Some left) = e in cc)
left-is P (Some x) left h e = let is : x ≡ left = cc in subst P is h

pub reached-up_to : {tree : Tree} {ticks : ℕ} {term : Process} → Reaches tree ticks term → IsAgedUpTo ticks term
reached-up_to {tree = tree} entered = fresh-new tree
reached-up_to (went_on {ticks = ticks} {term = term} {left = left} store offered r c e) =
    left-is (IsAgedUpTo ticks) offered.residual left (All-contains (OfferUpTo ticks) (offers term store) offered (offers-up_to ticks term store (reached-up_to r)) c).left e
reached-up_to (grew_older {ticks = ticks} {term = term} r) = up_to-aged ticks term (reached-up_to r)
