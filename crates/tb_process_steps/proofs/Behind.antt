-- In each term that a body reaches, the ages on the right of a sequence and within a star are 0.
use Rattle.std.proofs.Common.{ℕ, List, [], map, Option, Some, None, IfSome}
use Rattle.std.proofs.lemmas.List.Elements.{All-nil, All-cons, All-append, All-weaker, All-map, All-contains}
use Rattle.std.specs.List.{All}
use Rattle.tb_func.specs.declared.slot.Slot.{Slot}
use Rattle.tb_body.specs.declared.tree.Tree.{Tree}
use Rattle.tb_process_steps.specs.Processes.{Process, At, Seq, Alt, Star, Par, Disrupt, If, When, Let, fresh, aged}
use Rattle.tb_process_steps.specs.Settings.{tested, with_settings}
use Rattle.tb_process_steps.specs.Offers.{until, in_wait, Offered, followed, left_of, right_of, before, on_the_left, on_the_right, offers}
use Rattle.tb_process_steps.specs.Reached.{Reaches, entered, went_on, grew_older, IsNew, IsNewBehind}
use Rattle.tb_process_steps.proofs.Ages.{fresh-new, left-is}
use Rattle.tb_process_steps.proofs.Offering.{if-all, after-all}

pub new-behind : (term : Process) → IsNew term → IsNewBehind term
new-behind (At atom age) h = tt
new-behind (Seq x y) h = (new-behind x h.0, h.1)
new-behind (Alt x y) h = (new-behind x h.0, new-behind y h.1)
new-behind (Star x y) h = h
new-behind (Par x y) h = (new-behind x h.0, new-behind y h.1)
new-behind (Disrupt x y) h = (new-behind x h.0, new-behind y h.1)
new-behind (If test x y) h = (new-behind x h.0, new-behind y h.1)
new-behind (When test x) h = new-behind x h
new-behind (Let settings x) h = new-behind x h

pub behind-aged : (term : Process) → IsNewBehind term → IsNewBehind (aged term)
behind-aged (At atom age) h = tt
behind-aged (Seq x y) h = (behind-aged x h.0, h.1)
behind-aged (Alt x y) h = (behind-aged x h.0, behind-aged y h.1)
behind-aged (Star x y) h = ((behind-aged x (new-behind x h.0), h), behind-aged y (new-behind y h.1))
behind-aged (Par x y) h = (behind-aged x h.0, behind-aged y h.1)
behind-aged (Disrupt x y) h = (behind-aged x h.0, behind-aged y h.1)
behind-aged (If test x y) h = (behind-aged x h.0, behind-aged y h.1)
behind-aged (When test x) h = behind-aged x h
behind-aged (Let settings x) h = behind-aged x h

-- the rest of an offer

abbrev LeavesNew : Offered → Type 0
LeavesNew offered = IfSome offered.residual IsNewBehind

followed-new : (r : Option Process) (y : Process) → IfSome r IsNewBehind → IsNew y → IsNewBehind (followed r y)
followed-new None y h k = new-behind y k
followed-new (Some x) y h k = (h, k)

left_of-new : (r : Option Process) (y : Process) → IfSome r IsNewBehind → IsNewBehind y → IsNewBehind (left_of r y)
left_of-new None y h k = k
left_of-new (Some x) y h k = (h, k)

right_of-new : (x : Process) (r : Option Process) → IsNewBehind x → IfSome r IsNewBehind → IsNewBehind (right_of x r)
right_of-new x None h k = h
right_of-new x (Some y) h k = (h, k)

until-new : (y : Process) (r : Option Process) → IsNewBehind y → IfSome r IsNewBehind → IfSome (until y r) IsNewBehind
until-new y None h k = tt
until-new y (Some x) h k = (k, h)

before-new : (y : Process) (os : List Offered) → IsNew y → All LeavesNew os → All LeavesNew (map (before y) os)
before-new y os k h = All-map LeavesNew (before y) os (All-weaker LeavesNew (λ o. LeavesNew (before y o)) (λ o g. followed-new o.residual y g k) os h)

on_the_left-new : (y : Process) (os : List Offered) → IsNewBehind y → All LeavesNew os → All LeavesNew (map (on_the_left y) os)
on_the_left-new y os k h = All-map LeavesNew (on_the_left y) os (All-weaker LeavesNew (λ o. LeavesNew (on_the_left y o)) (λ o g. left_of-new o.residual y g k) os h)

on_the_right-new : (x : Process) (os : List Offered) → IsNewBehind x → All LeavesNew os → All LeavesNew (map (on_the_right x) os)
on_the_right-new x os k h = All-map LeavesNew (on_the_right x) os (All-weaker LeavesNew (λ o. LeavesNew (on_the_right x o)) (λ o g. right_of-new x o.residual k g) os h)

in_wait-new : (y : Process) (os : List Offered) → IsNewBehind y → All LeavesNew os → All LeavesNew (map (in_wait y) os)
in_wait-new y os k h = All-map LeavesNew (in_wait y) os (All-weaker LeavesNew (λ o. LeavesNew (in_wait y o)) (λ o g. until-new y o.residual k g) os h)

pub offers-leave_new : (term : Process) (store : List Slot) → IsNewBehind term → All (λ offered. IfSome offered.residual IsNewBehind) (offers term store)
offers-leave_new (At atom age) store h = All-cons LeavesNew _ [] tt (All-nil LeavesNew)
offers-leave_new (Seq x y) store h = before-new y (offers x store) h.1 (offers-leave_new x store h.0)
offers-leave_new (Alt x y) store h = All-append LeavesNew (offers x store) (offers y store) (offers-leave_new x store h.0) (offers-leave_new y store h.1)
offers-leave_new (Star x y) store h =
    All-append LeavesNew (map (before (Star x y)) (offers x store)) (offers y store)
    (before-new (Star x y) (offers x store) h (offers-leave_new x store (new-behind x h.0))) (offers-leave_new y store (new-behind y h.1))
offers-leave_new (Par x y) store h =
    All-append LeavesNew (map (on_the_left y) (offers x store)) (map (on_the_right x) (offers y store))
    (on_the_left-new y (offers x store) h.1 (offers-leave_new x store h.0))
    (on_the_right-new x (offers y store) h.0 (offers-leave_new y store h.1))
offers-leave_new (Disrupt x y) store h =
    All-append LeavesNew (map (in_wait y) (offers x store)) (offers y store)
    (in_wait-new y (offers x store) h.1 (offers-leave_new x store h.0)) (offers-leave_new y store h.1)
offers-leave_new (If test x y) store h = if-all LeavesNew (tested store test) (offers x store) (offers y store) (offers-leave_new x store h.0) (offers-leave_new y store h.1)
offers-leave_new (When test x) store h = if-all LeavesNew (tested store test) (offers x store) [] (offers-leave_new x store h) (All-nil LeavesNew)
offers-leave_new (Let settings x) store h = after-all LeavesNew (with_settings store settings) (offers x) (let-leaves (with_settings store settings) (λ s. offers-leave_new x s h)) where
  let-leaves : (o : Option (List Slot)) → ((s : List Slot) → All LeavesNew (offers x s)) → IfSome o (λ s. All LeavesNew (offers x s))
  let-leaves None k = tt
  let-leaves (Some s) k = k s

pub reached-behind : {tree : Tree} {ticks : ℕ} {term : Process} → Reaches tree ticks term → IsNewBehind term
reached-behind {tree = tree} entered = new-behind (fresh tree) (fresh-new tree)
reached-behind (went_on {term = term} {left = left} store offered r c e) =
    left-is IsNewBehind offered.residual left (All-contains LeavesNew (offers term store) offered (offers-leave_new term store (reached-behind r)) c) e
reached-behind (grew_older {term = term} r) = behind-aged term (reached-behind r)
