-- The offers of a term that a body reaches ascend by their atoms.
use Rattle.std.proofs.Common.{◌≡◌, ℕ, zero, suc, ◌+◌, ◌<◌, ◌≤◌, ◌==◌, Bool, true, false, List, [], ◌∷◌, ◌++◌, map, length, get_or, Option, Some, None, IfSome, refl, sym, subst, arith, add-one, append-nil, ◌⊎◌, inl, inr, ap, ◌∙◌, Contains}
use Rattle.std.specs.Prelude.{⊤}
use Rattle.std.proofs.lemmas.Bool.{and_from, and_parts, eqb-true}
use Rattle.std.proofs.lemmas.List.{length-append}
use Rattle.std.proofs.lemmas.List.Elements.{All-nil, All-cons, All-append, All-weaker, All-map, All-contains}
use Rattle.std.specs.List.{All}
use Rattle.std.specs.List.Sorted.{IsStrictlyIncreasing}
use Rattle.tb_terms.specs.declared.sort.Sort.{Sort}
use Rattle.tb_func.specs.declared.slot.Slot.{Slot}
use Rattle.tb_body.specs.declared.atom.Atom.{Atom}
use Rattle.tb_body.specs.declared.body.Body.{Body}
use Rattle.tb_body.specs.declared.tree.Tree.{Tree, Tree-F, map-Tree, fold-roll-Tree, ind-Tree, roll-Tree}
use Rattle.tb_body.specs.declared.tree.Tree.TheOpen as layer
use Rattle.tb_body.specs.Trees.{tree_atoms, atoms_step}
use Rattle.tb_body.specs.InRange.{ascends_by_one, is_body_in_range}
use Rattle.tb_process_steps.specs.Processes.{Process, At, Seq, Alt, Star, Par, Disrupt, If, When, Let, fresh, fresh_step, aged}
use Rattle.tb_process_steps.specs.Settings.{tested, with_settings}
use Rattle.tb_process_steps.specs.Offers.{until, in_wait, Offered, followed, left_of, right_of, before, on_the_left, on_the_right, offers_if, offers_after, offers}
use Rattle.tb_process_steps.specs.Reached.{Reaches, entered, went_on, grew_older}
use Rattle.tb_process_steps.proofs.Ages.{left-is}
use Rattle.tb_process_steps.proofs.Offering.{if-all, after-all}

-- The first atoms of a term, the only ones that it can offer, ascend within lo and hi.
abbrev Begins : ℕ → ℕ → Process → Type 0
Begins lo hi (At atom age) = (lo ≤ atom) × (atom < hi)
Begins lo hi (Seq x y) = Begins lo hi x
Begins lo hi (Alt x y) = (mid : ℕ) × Begins lo mid x × Begins mid hi y
Begins lo hi (Star x y) = (mid : ℕ) × Begins lo mid x × Begins mid hi y
Begins lo hi (Par x y) = (mid : ℕ) × Begins lo mid x × Begins mid hi y
Begins lo hi (Disrupt x y) = (mid : ℕ) × Begins lo mid x × Begins mid hi y
Begins lo hi (If test x y) = (mid : ℕ) × Begins lo mid x × Begins mid hi y
Begins lo hi (When test x) = Begins lo hi x
Begins lo hi (Let settings x) = Begins lo hi x

-- All atoms of a term are within lo and hi. The parts of a merge or a disrupt have separate, consecutive ranges. Then the first atoms
-- ascend in each term that the term reaches.
abbrev Within : ℕ → ℕ → Process → Type 0
Within lo hi (At atom age) = (lo ≤ atom) × (atom < hi)
Within lo hi (Seq x y) = Within lo hi x × Within lo hi y
Within lo hi (Alt x y) = Within lo hi x × Within lo hi y × Begins lo hi (Alt x y)
Within lo hi (Star x y) = Within lo hi x × Within lo hi y × Begins lo hi (Alt x y)
Within lo hi (Par x y) = (mid : ℕ) × Within lo mid x × Within mid hi y
Within lo hi (Disrupt x y) = (mid : ℕ) × Within lo mid x × Within mid hi y
Within lo hi (If test x y) = Within lo hi x × Within lo hi y × Begins lo hi (Alt x y)
Within lo hi (When test x) = Within lo hi x
Within lo hi (Let settings x) = Within lo hi x

begins-bounds : (lo hi : ℕ) (term : Process) → Begins lo hi term → lo < hi
begins-bounds lo hi (At atom age) h = omega (arith, h)
begins-bounds lo hi (Seq x y) h = begins-bounds lo hi x h
begins-bounds lo hi (Alt x y) h = omega (arith, begins-bounds lo h.0 x h.1, begins-bounds h.0 hi y h.2)
begins-bounds lo hi (Star x y) h = omega (arith, begins-bounds lo h.0 x h.1, begins-bounds h.0 hi y h.2)
begins-bounds lo hi (Par x y) h = omega (arith, begins-bounds lo h.0 x h.1, begins-bounds h.0 hi y h.2)
begins-bounds lo hi (Disrupt x y) h = omega (arith, begins-bounds lo h.0 x h.1, begins-bounds h.0 hi y h.2)
begins-bounds lo hi (If test x y) h = omega (arith, begins-bounds lo h.0 x h.1, begins-bounds h.0 hi y h.2)
begins-bounds lo hi (When test x) h = begins-bounds lo hi x h
begins-bounds lo hi (Let settings x) h = begins-bounds lo hi x h

begins-wider : (lo hi low high : ℕ) (term : Process) → low ≤ lo → hi ≤ high → Begins lo hi term → Begins low high term
begins-wider lo hi low high (At atom age) l m h = omega (arith, h)
begins-wider lo hi low high (Seq x y) l m h = begins-wider lo hi low high x l m h
begins-wider lo hi low high (Alt x y) l m h = (h.0, begins-wider lo h.0 low h.0 x l (omega arith) h.1, begins-wider h.0 hi h.0 high y (omega arith) m h.2)
begins-wider lo hi low high (Star x y) l m h = (h.0, begins-wider lo h.0 low h.0 x l (omega arith) h.1, begins-wider h.0 hi h.0 high y (omega arith) m h.2)
begins-wider lo hi low high (Par x y) l m h = (h.0, begins-wider lo h.0 low h.0 x l (omega arith) h.1, begins-wider h.0 hi h.0 high y (omega arith) m h.2)
begins-wider lo hi low high (Disrupt x y) l m h = (h.0, begins-wider lo h.0 low h.0 x l (omega arith) h.1, begins-wider h.0 hi h.0 high y (omega arith) m h.2)
begins-wider lo hi low high (If test x y) l m h = (h.0, begins-wider lo h.0 low h.0 x l (omega arith) h.1, begins-wider h.0 hi h.0 high y (omega arith) m h.2)
begins-wider lo hi low high (When test x) l m h = begins-wider lo hi low high x l m h
begins-wider lo hi low high (Let settings x) l m h = begins-wider lo hi low high x l m h

within-begins : (lo hi : ℕ) (term : Process) → Within lo hi term → Begins lo hi term
within-begins lo hi (At atom age) h = h
within-begins lo hi (Seq x y) h = within-begins lo hi x h.0
within-begins lo hi (Alt x y) h = h.2
within-begins lo hi (Star x y) h = h.2
within-begins lo hi (Par x y) h = (h.0, within-begins lo h.0 x h.1, within-begins h.0 hi y h.2)
within-begins lo hi (Disrupt x y) h = (h.0, within-begins lo h.0 x h.1, within-begins h.0 hi y h.2)
within-begins lo hi (If test x y) h = h.2
within-begins lo hi (When test x) h = within-begins lo hi x h
within-begins lo hi (Let settings x) h = within-begins lo hi x h

within-bounds : (lo hi : ℕ) (term : Process) → Within lo hi term → lo < hi
within-bounds lo hi term h = begins-bounds lo hi term (within-begins lo hi term h)

within-wider : (lo hi low high : ℕ) (term : Process) → low ≤ lo → hi ≤ high → Within lo hi term → Within low high term
within-wider lo hi low high (At atom age) l m h = omega (arith, h)
within-wider lo hi low high (Seq x y) l m h = (within-wider lo hi low high x l m h.0, within-wider lo hi low high y l m h.1)
within-wider lo hi low high (Alt x y) l m h = (within-wider lo hi low high x l m h.0, within-wider lo hi low high y l m h.1, begins-wider lo hi low high (Alt x y) l m h.2)
within-wider lo hi low high (Star x y) l m h = (within-wider lo hi low high x l m h.0, within-wider lo hi low high y l m h.1, begins-wider lo hi low high (Alt x y) l m h.2)
within-wider lo hi low high (Par x y) l m h = (h.0, within-wider lo h.0 low h.0 x l (omega arith) h.1, within-wider h.0 hi h.0 high y (omega arith) m h.2)
within-wider lo hi low high (Disrupt x y) l m h = (h.0, within-wider lo h.0 low h.0 x l (omega arith) h.1, within-wider h.0 hi h.0 high y (omega arith) m h.2)
within-wider lo hi low high (If test x y) l m h = (within-wider lo hi low high x l m h.0, within-wider lo hi low high y l m h.1, begins-wider lo hi low high (Alt x y) l m h.2)
within-wider lo hi low high (When test x) l m h = within-wider lo hi low high x l m h
within-wider lo hi low high (Let settings x) l m h = within-wider lo hi low high x l m h

-- a tick

begins-aged : (lo hi : ℕ) (term : Process) → Begins lo hi term → Begins lo hi (aged term)
begins-aged lo hi (At atom age) h = h
begins-aged lo hi (Seq x y) h = begins-aged lo hi x h
begins-aged lo hi (Alt x y) h = (h.0, begins-aged lo h.0 x h.1, begins-aged h.0 hi y h.2)
begins-aged lo hi (Star x y) h = (h.0, begins-aged lo h.0 x h.1, begins-aged h.0 hi y h.2)
begins-aged lo hi (Par x y) h = (h.0, begins-aged lo h.0 x h.1, begins-aged h.0 hi y h.2)
begins-aged lo hi (Disrupt x y) h = (h.0, begins-aged lo h.0 x h.1, begins-aged h.0 hi y h.2)
begins-aged lo hi (If test x y) h = (h.0, begins-aged lo h.0 x h.1, begins-aged h.0 hi y h.2)
begins-aged lo hi (When test x) h = begins-aged lo hi x h
begins-aged lo hi (Let settings x) h = begins-aged lo hi x h

within-aged : (lo hi : ℕ) (term : Process) → Within lo hi term → Within lo hi (aged term)
within-aged lo hi (At atom age) h = h
within-aged lo hi (Seq x y) h = (within-aged lo hi x h.0, h.1)
within-aged lo hi (Alt x y) h = (within-aged lo hi x h.0, within-aged lo hi y h.1, begins-aged lo hi (Alt x y) h.2)
within-aged lo hi (Star x y) h = ((within-aged lo hi x h.0, h), within-aged lo hi y h.1, begins-aged lo hi (Alt x y) h.2)
within-aged lo hi (Par x y) h = (h.0, within-aged lo h.0 x h.1, within-aged h.0 hi y h.2)
within-aged lo hi (Disrupt x y) h = (h.0, within-aged lo h.0 x h.1, within-aged h.0 hi y h.2)
within-aged lo hi (If test x y) h = (within-aged lo hi x h.0, within-aged lo hi y h.1, begins-aged lo hi (Alt x y) h.2)
within-aged lo hi (When test x) h = within-aged lo hi x h
within-aged lo hi (Let settings x) h = within-aged lo hi x h

-- the rest of an offer

abbrev LeavesWithin : ℕ → ℕ → Offered → Type 0
LeavesWithin lo hi offered = IfSome offered.residual (Within lo hi)

leaves-by : (lo hi low high : ℕ) (f : Offered → Offered) (os : List Offered) → ((o : Offered) → LeavesWithin lo hi o → LeavesWithin low high (f o)) → All (LeavesWithin lo hi) os → All (LeavesWithin low high) (map f os)
leaves-by lo hi low high f os g h = All-map (LeavesWithin low high) f os (All-weaker (LeavesWithin lo hi) (λ o. LeavesWithin low high (f o)) g os h)

followed-within : (lo hi : ℕ) (r : Option Process) (y : Process) → Within lo hi y → IfSome r (Within lo hi) → Within lo hi (followed r y)
followed-within lo hi None y k h = k
followed-within lo hi (Some x) y k h = (h, k)

left_of-within : (lo mid hi : ℕ) (r : Option Process) (y : Process) → lo ≤ mid → Within mid hi y → IfSome r (Within lo mid) → Within lo hi (left_of r y)
left_of-within lo mid hi None y l k h = within-wider mid hi lo hi y l (omega arith) k
left_of-within lo mid hi (Some x) y l k h = (mid, h, k)

right_of-within : (lo mid hi : ℕ) (x : Process) (r : Option Process) → mid ≤ hi → Within lo mid x → IfSome r (Within mid hi) → Within lo hi (right_of x r)
right_of-within lo mid hi x None l k h = within-wider lo mid lo hi x (omega arith) l k
right_of-within lo mid hi x (Some y) l k h = (mid, k, h)

until-within : (lo mid hi : ℕ) (y : Process) (r : Option Process) → Within mid hi y → IfSome r (Within lo mid) → IfSome (until y r) (Within lo hi)
until-within lo mid hi y None k h = tt
until-within lo mid hi y (Some x) k h = (mid, h, k)

within-later : (lo mid hi : ℕ) (r : Option Process) → lo ≤ mid → IfSome r (Within mid hi) → IfSome r (Within lo hi)
within-later lo mid hi None l h = tt
within-later lo mid hi (Some x) l h = within-wider mid hi lo hi x l (omega arith) h

below : (lo hi : ℕ) (term : Process) → Within lo hi term → lo ≤ hi
below lo hi term h = omega (arith, within-bounds lo hi term h)

leaves-within : (lo hi : ℕ) (term : Process) (store : List Slot) → Within lo hi term → All (LeavesWithin lo hi) (offers term store)
leaves-within lo hi (At atom age) store h = All-cons (LeavesWithin lo hi) _ [] tt (All-nil (LeavesWithin lo hi))
leaves-within lo hi (Seq x y) store h = leaves-by lo hi lo hi (before y) (offers x store) (λ o g. followed-within lo hi o.residual y h.1 g) (leaves-within lo hi x store h.0)
leaves-within lo hi (Alt x y) store h = All-append (LeavesWithin lo hi) (offers x store) (offers y store) (leaves-within lo hi x store h.0) (leaves-within lo hi y store h.1)
leaves-within lo hi (Star x y) store h =
    All-append (LeavesWithin lo hi) (map (before (Star x y)) (offers x store)) (offers y store)
    (leaves-by lo hi lo hi (before (Star x y)) (offers x store) (λ o g. followed-within lo hi o.residual (Star x y) h g) (leaves-within lo hi x store h.0))
    (leaves-within lo hi y store h.1)
leaves-within lo hi (Par x y) store h =
    All-append (LeavesWithin lo hi) (map (on_the_left y) (offers x store)) (map (on_the_right x) (offers y store))
    (leaves-by lo h.0 lo hi (on_the_left y) (offers x store) (λ o g. left_of-within lo h.0 hi o.residual y (below lo h.0 x h.1) h.2 g) (leaves-within lo h.0 x store h.1))
    (leaves-by h.0 hi lo hi (on_the_right x) (offers y store) (λ o g. right_of-within lo h.0 hi x o.residual (below h.0 hi y h.2) h.1 g) (leaves-within h.0 hi y store h.2))
leaves-within lo hi (Disrupt x y) store h =
    All-append (LeavesWithin lo hi) (map (in_wait y) (offers x store)) (offers y store)
    (leaves-by lo h.0 lo hi (in_wait y) (offers x store) (λ o g. until-within lo h.0 hi y o.residual h.2 g) (leaves-within lo h.0 x store h.1))
    (All-weaker (LeavesWithin h.0 hi) (LeavesWithin lo hi) (λ o g. within-later lo h.0 hi o.residual (below lo h.0 x h.1) g) (offers y store) (leaves-within h.0 hi y store h.2))
leaves-within lo hi (If test x y) store h = if-all (LeavesWithin lo hi) (tested store test) (offers x store) (offers y store) (leaves-within lo hi x store h.0) (leaves-within lo hi y store h.1)
leaves-within lo hi (When test x) store h = if-all (LeavesWithin lo hi) (tested store test) (offers x store) [] (leaves-within lo hi x store h) (All-nil (LeavesWithin lo hi))
leaves-within lo hi (Let settings x) store h = after-all (LeavesWithin lo hi) (with_settings store settings) (offers x) (let-leaves (with_settings store settings) (λ s. leaves-within lo hi x s h)) where
  let-leaves : (o : Option (List Slot)) → ((s : List Slot) → All (LeavesWithin lo hi) (offers x s)) → IfSome o (λ s. All (LeavesWithin lo hi) (offers x s))
  let-leaves None k = tt
  let-leaves (Some s) k = k s

-- offers that ascend from lo, and are below hi

abbrev Rises : ℕ → ℕ → List Offered → Type 0
Rises lo hi [] = ⊤
Rises lo hi (o ∷ os) = (lo ≤ o.atom) × (o.atom < hi) × Rises (suc o.atom) hi os

rises-wider : (lo hi low high : ℕ) (os : List Offered) → low ≤ lo → hi ≤ high → Rises lo hi os → Rises low high os
rises-wider lo hi low high [] l m h = tt
rises-wider lo hi low high (o ∷ os) l m h = (omega (arith, h.0), omega (arith, h.1), rises-wider (suc o.atom) hi (suc o.atom) high os (omega arith) m h.2)

rises-append : (lo mid hi : ℕ) (xs ys : List Offered) → lo ≤ mid → mid ≤ hi → Rises lo mid xs → Rises mid hi ys → Rises lo hi (xs ++ ys)
rises-append lo mid hi [] ys l m h k = rises-wider mid hi lo hi ys l (omega arith) k
rises-append lo mid hi (o ∷ os) ys l m h k = (h.0, omega (arith, h.1), rises-append (suc o.atom) mid hi os ys (omega (arith, h.1)) m h.2 k)

rises-before : (lo hi : ℕ) (y : Process) (os : List Offered) → Rises lo hi os → Rises lo hi (map (before y) os)
rises-before lo hi y [] h = tt
rises-before lo hi y (o ∷ os) h = (h.0, h.1, rises-before (suc o.atom) hi y os h.2)

rises-on_the_left : (lo hi : ℕ) (y : Process) (os : List Offered) → Rises lo hi os → Rises lo hi (map (on_the_left y) os)
rises-on_the_left lo hi y [] h = tt
rises-on_the_left lo hi y (o ∷ os) h = (h.0, h.1, rises-on_the_left (suc o.atom) hi y os h.2)

rises-on_the_right : (lo hi : ℕ) (x : Process) (os : List Offered) → Rises lo hi os → Rises lo hi (map (on_the_right x) os)
rises-on_the_right lo hi x [] h = tt
rises-on_the_right lo hi x (o ∷ os) h = (h.0, h.1, rises-on_the_right (suc o.atom) hi x os h.2)

rises-in_wait : (lo hi : ℕ) (y : Process) (os : List Offered) → Rises lo hi os → Rises lo hi (map (in_wait y) os)
rises-in_wait lo hi y [] h = tt
rises-in_wait lo hi y (o ∷ os) h = (h.0, h.1, rises-in_wait (suc o.atom) hi y os h.2)

rises-if : (lo mid hi : ℕ) (o : Option Bool) (xs ys : List Offered) → lo ≤ mid → mid ≤ hi → Rises lo mid xs → Rises mid hi ys → Rises lo hi (offers_if o xs ys)
rises-if lo mid hi None xs ys l m h k = tt
rises-if lo mid hi (Some true) xs ys l m h k = rises-wider lo mid lo hi xs (omega arith) m h
rises-if lo mid hi (Some false) xs ys l m h k = rises-wider mid hi lo hi ys l (omega arith) k

rises-when : (lo hi : ℕ) (o : Option Bool) (xs : List Offered) → Rises lo hi xs → Rises lo hi (offers_if o xs [])
rises-when lo hi None xs h = tt
rises-when lo hi (Some true) xs h = h
rises-when lo hi (Some false) xs h = tt

rises-after : (lo hi : ℕ) (o : Option (List Slot)) (offering : List Slot → List Offered) → ((s : List Slot) → Rises lo hi (offering s)) → Rises lo hi (offers_after o offering)
rises-after lo hi None offering h = tt
rises-after lo hi (Some s) offering h = h s

first-bounds : (lo hi : ℕ) (term : Process) → Begins lo hi term → lo ≤ hi
first-bounds lo hi term h = omega (arith, begins-bounds lo hi term h)

pub offers-rise : (lo hi : ℕ) (term : Process) (store : List Slot) → Begins lo hi term → Rises lo hi (offers term store)
offers-rise lo hi (At atom age) store h = (h.0, h.1, tt)
offers-rise lo hi (Seq x y) store h = rises-before lo hi y (offers x store) (offers-rise lo hi x store h)
offers-rise lo hi (Alt x y) store h =
    rises-append lo h.0 hi (offers x store) (offers y store) (first-bounds lo h.0 x h.1) (first-bounds h.0 hi y h.2)
    (offers-rise lo h.0 x store h.1) (offers-rise h.0 hi y store h.2)
offers-rise lo hi (Star x y) store h =
    rises-append lo h.0 hi (map (before (Star x y)) (offers x store)) (offers y store) (first-bounds lo h.0 x h.1) (first-bounds h.0 hi y h.2)
    (rises-before lo h.0 (Star x y) (offers x store) (offers-rise lo h.0 x store h.1)) (offers-rise h.0 hi y store h.2)
offers-rise lo hi (Par x y) store h =
    rises-append lo h.0 hi (map (on_the_left y) (offers x store)) (map (on_the_right x) (offers y store)) (first-bounds lo h.0 x h.1) (first-bounds h.0 hi y h.2)
    (rises-on_the_left lo h.0 y (offers x store) (offers-rise lo h.0 x store h.1))
    (rises-on_the_right h.0 hi x (offers y store) (offers-rise h.0 hi y store h.2))
offers-rise lo hi (Disrupt x y) store h =
    rises-append lo h.0 hi (map (in_wait y) (offers x store)) (offers y store) (first-bounds lo h.0 x h.1) (first-bounds h.0 hi y h.2)
    (rises-in_wait lo h.0 y (offers x store) (offers-rise lo h.0 x store h.1)) (offers-rise h.0 hi y store h.2)
offers-rise lo hi (If test x y) store h =
    rises-if lo h.0 hi (tested store test) (offers x store) (offers y store) (first-bounds lo h.0 x h.1) (first-bounds h.0 hi y h.2)
    (offers-rise lo h.0 x store h.1) (offers-rise h.0 hi y store h.2)
offers-rise lo hi (When test x) store h = rises-when lo hi (tested store test) (offers x store) (offers-rise lo hi x store h)
offers-rise lo hi (Let settings x) store h = rises-after lo hi (with_settings store settings) (offers x) (λ s. offers-rise lo hi x s h)

abbrev atoms_of : List Offered → List ℕ
atoms_of os = map (λ (o : Offered). o.atom) os

rises-next : (lo hi : ℕ) (os : List Offered) (k : ℕ) → Rises lo hi os → suc k < length (atoms_of os) → get_or (atoms_of os) k 0 < get_or (atoms_of os) (suc k) 0
rises-next lo hi [] k h l = absurd (omega arith)
rises-next lo hi (o ∷ []) k h l = absurd (omega arith)
rises-next lo hi (o ∷ p ∷ os) zero h l = omega (arith, h.2.0)
rises-next lo hi (o ∷ p ∷ os) (suc k) h l = rises-next (suc o.atom) hi (p ∷ os) k h.2 (omega arith)

rises-increasing : (lo hi : ℕ) (os : List Offered) → Rises lo hi os → IsStrictlyIncreasing (map (λ (o : Offered). o.atom) os)
rises-increasing lo hi os h k l =
    let next : get_or (atoms_of os) k 0 < get_or (atoms_of os) (suc k) 0 = rises-next lo hi os k h (omega arith) in
    rw add-one next

-- a body that is just entered

ascends-append : (from : ℕ) (xs ys : List ℕ) → ascends_by_one from (xs ++ ys) ≡ true → (ascends_by_one from xs ≡ true) × (ascends_by_one (from + length xs) ys ≡ true)
ascends-append from [] ys h =
    let same : from ≡ from + 0 = omega arith in
    (refl, subst (λ (n : ℕ). ascends_by_one n ys ≡ true) same h)
ascends-append from (x ∷ xs) ys h =
    let parts = and_parts (x == from) (ascends_by_one (from + 1) (xs ++ ys)) h in
    let rest = ascends-append (from + 1) xs ys parts.1 in
    let same : from + 1 + length xs ≡ from + suc (length xs) = omega arith in
    (and_from (x == from) (ascends_by_one (from + 1) xs) parts.0 rest.0, subst (λ (n : ℕ). ascends_by_one n ys ≡ true) same rest.1)

abbrev Enters : List ℕ → Process → Type 0
Enters atoms term = (from : ℕ) → ascends_by_one from atoms ≡ true → Within from (from + length atoms) term

-- the parts of an operator, in consecutive ranges
both-enter : (xs ys : List ℕ) (x y : Process) → Enters xs x → Enters ys y → (from : ℕ) → ascends_by_one from (xs ++ ys) ≡ true → (mid : ℕ) × Within from mid x × Within mid (from + length (xs ++ ys)) y
both-enter xs ys x y h k from e =
    let parts = ascends-append from xs ys e in
    let mid = from + length xs in
    let end : mid + length ys ≡ from + length (xs ++ ys) = omega (arith, length-append xs ys) in
    (mid, h from parts.0, subst (λ (n : ℕ). Within mid n y) end (k mid parts.1))

-- the parts of an operator, in one common range
together : (lo hi : ℕ) (x y : Process) → (mid : ℕ) × Within lo mid x × Within mid hi y → Within lo hi x × Within lo hi y × Begins lo hi (Alt x y)
together lo hi x y h = (
  within-wider lo h.0 lo hi x (omega arith) (below h.0 hi y h.2) h.1,
  within-wider h.0 hi lo hi y (below lo h.0 x h.1) (omega arith) h.2,
  (h.0, within-begins lo h.0 x h.1, within-begins h.0 hi y h.2),
)

all-enter : (xs ys : List ℕ) (x y : Process) → Enters xs x → Enters ys y → (from : ℕ) → ascends_by_one from (xs ++ ys) ≡ true →
    Within from (from + length (xs ++ ys)) x × Within from (from + length (xs ++ ys)) y × Begins from (from + length (xs ++ ys)) (Alt x y)
all-enter xs ys x y h k from e = together from (from + length (xs ++ ys)) x y (both-enter xs ys x y h k from e)

abbrev Shown : Type 0
Shown = (t : Tree) × Enters (tree_atoms t) (fresh t)

abbrev EntersLayer : Tree-F Tree → Type 0
EntersLayer x = Enters (atoms_step (map-Tree Tree (List ℕ) tree_atoms x)) (fresh_step (map-Tree Tree Process fresh x))

atom-enters : (atom : ℕ) → Enters (atom ∷ []) (At atom 0)
atom-enters atom from h =
    let e : atom ≡ from = eqb-true atom from (and_parts (atom == from) true h).0 in
    omega arith

layer-enters : (y : Tree-F Shown) → EntersLayer (map-Tree Shown Tree (λ s. s.0) y)
layer-enters (layer.At atom) = atom-enters atom
layer-enters (layer.Seq x y) = λ from h. let p = all-enter (tree_atoms x.0) (tree_atoms y.0) (fresh x.0) (fresh y.0) x.1 y.1 from h in (p.0, p.1)
layer-enters (layer.Alt x y) = λ from h. all-enter (tree_atoms x.0) (tree_atoms y.0) (fresh x.0) (fresh y.0) x.1 y.1 from h
layer-enters (layer.Star x y) = λ from h. all-enter (tree_atoms x.0) (tree_atoms y.0) (fresh x.0) (fresh y.0) x.1 y.1 from h
layer-enters (layer.Par x y) = λ from h. both-enter (tree_atoms x.0) (tree_atoms y.0) (fresh x.0) (fresh y.0) x.1 y.1 from h
layer-enters (layer.Disrupt x y) = λ from h. both-enter (tree_atoms x.0) (tree_atoms y.0) (fresh x.0) (fresh y.0) x.1 y.1 from h
layer-enters (layer.If test x None) = subst (λ (atoms : List ℕ). Enters atoms (fresh x.0)) (sym (append-nil (tree_atoms x.0))) x.1
layer-enters (layer.If test x (Some y)) = λ from h. all-enter (tree_atoms x.0) (tree_atoms y.0) (fresh x.0) (fresh y.0) x.1 y.1 from h
layer-enters (layer.Let settings x) = λ from h. x.1 from h

rolled : (x : Tree-F Tree) → EntersLayer x → Enters (tree_atoms (roll-Tree x)) (fresh (roll-Tree x))
rolled x h =
    subst (λ (atoms : List ℕ). Enters atoms (fresh (roll-Tree x))) (sym (fold-roll-Tree (List ℕ) atoms_step x))
    (subst (Enters (atoms_step (map-Tree Tree (List ℕ) tree_atoms x))) (sym (fold-roll-Tree Process fresh_step x)) h)

fresh-enters : (tree : Tree) → Enters (tree_atoms tree) (fresh tree)
fresh-enters = ind-Tree (λ t. Enters (tree_atoms t) (fresh t)) step where
  step : (x : Tree-F Tree) (y : Tree-F Shown) → map-Tree Shown Tree (λ s. s.0) y ≡ x → Enters (tree_atoms (roll-Tree x)) (fresh (roll-Tree x))
  step x y e = rolled x (subst EntersLayer e (layer-enters y))

reached-within : (hi : ℕ) {tree : Tree} {ticks : ℕ} {term : Process} → Within 1 hi (fresh tree) → Reaches tree ticks term → Within 1 hi term
reached-within hi f entered = f
reached-within hi f (went_on {term = term} {left = left} store offered r c e) =
    left-is (Within 1 hi) offered.residual left (All-contains (LeavesWithin 1 hi) (offers term store) offered (leaves-within 1 hi term store (reached-within hi f r)) c) e
reached-within hi f (grew_older {term = term} r) = within-aged 1 hi term (reached-within hi f r)

-- the atoms of a body's tree are the body's atoms, in order
pub record InOrder (tree : Tree) (atoms : List Atom) : Type 0 where
  pub ascend : ascends_by_one 1 (tree_atoms tree) ≡ true
  pub many : length (tree_atoms tree) ≡ length atoms

pub in_order : (tree : Tree) (atoms : List Atom) (sorts : List Sort) (formals : ℕ) → is_body_in_range tree atoms sorts formals ≡ true → InOrder tree atoms
unfolding is_body_in_range
in_order tree atoms sorts formals h =
    let six = and_parts _ _ h in
    let five = and_parts _ _ six.0 in
    let four = and_parts _ _ five.0 in
    let three = and_parts _ _ four.0 in
    let two = and_parts _ _ three.0 in
    let one = and_parts _ _ two.0 in
    record { ascend = one.0; many = eqb-true (length (tree_atoms tree)) (length atoms) one.1 }

rise-reached : (body : Body) (ticks : ℕ) (term : Process) (store : List Slot) → Reaches body.tree ticks term → Rises 1 (1 + length body.atoms) (offers term store)
rise-reached body ticks term store r =
    let range = in_order body.tree body.atoms body.sorts body.formals body.in_range in
    let hi = 1 + length (tree_atoms body.tree) in
    let here = reached-within hi (fresh-enters body.tree 1 range.ascend) r in
    subst (λ (n : ℕ). Rises 1 (1 + n) (offers term store)) range.many (offers-rise 1 hi term store (within-begins 1 hi term here))

pub offers-ascend : (body : Body) (ticks : ℕ) (term : Process) (store : List Slot) → Reaches body.tree ticks term → IsStrictlyIncreasing (map (λ (o : Offered). o.atom) (offers term store))
offers-ascend body ticks term store r = rises-increasing 1 (1 + length body.atoms) (offers term store) (rise-reached body ticks term store r)

-- each atom is offered at most once, and is an atom of the body

contains-cases : (x y : Offered) (xs : List Offered) → Contains (x ∷ xs) y → (x ≡ y) ⊎ Contains xs y
contains-cases x y xs (zero, l, e) = inl e
contains-cases x y xs (suc k, l, e) = inr (k, omega arith, e)

within-by : (lo hi : ℕ) (o p : Offered) → (lo ≤ o.atom) × (o.atom < hi) → ((suc o.atom ≤ p.atom) × (p.atom < hi) → (lo ≤ p.atom) × (p.atom < hi)) → (o ≡ p) ⊎ ((suc o.atom ≤ p.atom) × (p.atom < hi)) → (lo ≤ p.atom) × (p.atom < hi)
within-by lo hi o p h k (inl e) = subst (λ (q : Offered). (lo ≤ q.atom) × (q.atom < hi)) e h
within-by lo hi o p h k (inr g) = k g

either-by : {A B C : Type 0} → A ⊎ B → (B → C) → A ⊎ C
either-by (inl a) f = inl a
either-by (inr b) f = inr (f b)

rises-within : (lo hi : ℕ) (os : List Offered) (p : Offered) → Rises lo hi os → Contains os p → (lo ≤ p.atom) × (p.atom < hi)
rises-within lo hi [] p h c = let l = c.1 in absurd (omega arith)
rises-within lo hi (o ∷ os) p h c =
    within-by lo hi o p (h.0, h.1) (λ g. (omega (arith, h.0, g.0), g.1)) (either-by (contains-cases o p os c) (rises-within (suc o.atom) hi os p h.2))

one-by : (hi : ℕ) (o p q : Offered) (os : List Offered) → Rises (suc o.atom) hi os → (Contains os p → Contains os q → p ≡ q) → p.atom ≡ q.atom → (o ≡ p) ⊎ Contains os p → (o ≡ q) ⊎ Contains os q → p ≡ q
one-by hi o p q os h rest e (inl f) (inl g) = sym f ∙ g
one-by hi o p q os h rest e (inl f) (inr d) =
    let above = (rises-within (suc o.atom) hi os q h d).0 in
    let same : o.atom ≡ p.atom = ap (λ (x : Offered). x.atom) f in
    absurd (omega arith)
one-by hi o p q os h rest e (inr c) (inl g) =
    let above = (rises-within (suc o.atom) hi os p h c).0 in
    let same : o.atom ≡ q.atom = ap (λ (x : Offered). x.atom) g in
    absurd (omega arith)
one-by hi o p q os h rest e (inr c) (inr d) = rest c d

rises-one : (lo hi : ℕ) (os : List Offered) (p q : Offered) → Rises lo hi os → p.atom ≡ q.atom → Contains os p → Contains os q → p ≡ q
rises-one lo hi [] p q h e c d = let l = c.1 in absurd (omega arith)
rises-one lo hi (o ∷ os) p q h e c d = one-by hi o p q os h.2 (rises-one (suc o.atom) hi os p q h.2 e) e (contains-cases o p os c) (contains-cases o q os d)

pub offered-once : (body : Body) (ticks : ℕ) (term : Process) (store : List Slot) (one other : Offered) → Reaches body.tree ticks term → Contains (offers term store) one → Contains (offers term store) other → one.atom ≡ other.atom → one ≡ other
offered-once body ticks term store one other r c d e = rises-one 1 (1 + length body.atoms) (offers term store) one other (rise-reached body ticks term store r) e c d

pub offered-there : (body : Body) (ticks : ℕ) (term : Process) (store : List Slot) (offered : Offered) → Reaches body.tree ticks term → Contains (offers term store) offered → (1 ≤ offered.atom) × (offered.atom ≤ length body.atoms)
offered-there body ticks term store offered r c =
    let p = rises-within 1 (1 + length body.atoms) (offers term store) offered (rise-reached body ticks term store r) c in
    (p.0, omega (arith, p.1))
