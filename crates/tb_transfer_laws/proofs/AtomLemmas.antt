-- The atoms of a term: those of its offers and of what an offer leaves are among them, and a tick adds none.
use Rattle.std.proofs.Common.{ℕ, List, [], ◌++◌, map, Option, Some, None, IfSome, Contains, rules}
use Rattle.std.specs.List.{All}
use Rattle.std.proofs.lemmas.List.Elements.{All-nil, All-cons, All-append, All-weaker, All-map, All-contains, Contains-append_left, Contains-append_right}
use Rattle.tb_func.specs.declared.slot.Slot.{Slot}
use Rattle.tb_process_steps.specs.Processes.{Process, At, Seq, Alt, Star, Par, Disrupt, If, When, Let, aged}
use Rattle.tb_process_steps.specs.Settings.{tested, with_settings}
use Rattle.tb_process_steps.specs.Offers.{Offered, followed, left_of, right_of, until, before, on_the_left, on_the_right, in_wait, offers}
use Rattle.tb_process_steps.specs.Transfers.{atoms_of}
use Rattle.tb_process_steps.proofs.Offering.{if-all, after-all}

module _ (P : ℕ → Type 0) where
  abbrev pub HasOnly : Process → Type 0
  HasOnly (At atom age) = P atom
  HasOnly (Seq x y) = HasOnly x × HasOnly y
  HasOnly (Alt x y) = HasOnly x × HasOnly y
  HasOnly (Star x y) = HasOnly x × HasOnly y
  HasOnly (Par x y) = HasOnly x × HasOnly y
  HasOnly (Disrupt x y) = HasOnly x × HasOnly y
  HasOnly (If test x y) = HasOnly x × HasOnly y
  HasOnly (When test x) = HasOnly x
  HasOnly (Let settings x) = HasOnly x

  pub only-aged : (term : Process) → HasOnly term → HasOnly (aged term)
  only-aged (At atom age) h = h
  only-aged (Seq x y) h = (only-aged x h.0, h.1)
  only-aged (Alt x y) h = (only-aged x h.0, only-aged y h.1)
  only-aged (Star x y) h = ((only-aged x h.0, h), only-aged y h.1)
  only-aged (Par x y) h = (only-aged x h.0, only-aged y h.1)
  only-aged (Disrupt x y) h = (only-aged x h.0, only-aged y h.1)
  only-aged (If test x y) h = (only-aged x h.0, only-aged y h.1)
  only-aged (When test x) h = only-aged x h
  only-aged (Let settings x) h = only-aged x h

  pub record OffersOnly (offered : Offered) : Type 0 where
    pub atom : P offered.atom
    pub left : IfSome offered.residual HasOnly

  followed-only : (r : Option Process) (y : Process) → IfSome r HasOnly → HasOnly y → HasOnly (followed r y)
  followed-only None y h k = k
  followed-only (Some x) y h k = (h, k)

  left_of-only : (r : Option Process) (y : Process) → IfSome r HasOnly → HasOnly y → HasOnly (left_of r y)
  left_of-only None y h k = k
  left_of-only (Some x) y h k = (h, k)

  right_of-only : (x : Process) (r : Option Process) → HasOnly x → IfSome r HasOnly → HasOnly (right_of x r)
  right_of-only x None h k = h
  right_of-only x (Some y) h k = (h, k)

  until-only : (y : Process) (r : Option Process) → HasOnly y → IfSome r HasOnly → IfSome (until y r) HasOnly
  until-only y None h k = tt
  until-only y (Some x) h k = (k, h)

  mapped : (f : Offered → Offered) (os : List Offered) → ((o : Offered) → OffersOnly o → OffersOnly (f o)) → All OffersOnly os → All OffersOnly (map f os)
  mapped f os each h = All-map OffersOnly f os (All-weaker OffersOnly (λ o. OffersOnly (f o)) each os h)

  before-only : (z : Process) (os : List Offered) → HasOnly z → All OffersOnly os → All OffersOnly (map (before z) os)
  before-only z os k h = mapped (before z) os (λ o g. record { atom = g.atom; left = followed-only o.residual z g.left k }) h

  pub offers-only : (term : Process) (store : List Slot) → HasOnly term → All OffersOnly (offers term store)
  offers-only (At atom age) store h = All-cons OffersOnly _ [] (record { atom = h; left = tt }) (All-nil OffersOnly)
  offers-only (Seq x y) store h = before-only y (offers x store) h.1 (offers-only x store h.0)
  offers-only (Alt x y) store h = All-append OffersOnly (offers x store) (offers y store) (offers-only x store h.0) (offers-only y store h.1)
  offers-only (Star x y) store h =
      All-append OffersOnly (map (before (Star x y)) (offers x store)) (offers y store) (before-only (Star x y) (offers x store) h (offers-only x store h.0)) (offers-only y store h.1)
  offers-only (Par x y) store h =
      All-append OffersOnly (map (on_the_left y) (offers x store)) (map (on_the_right x) (offers y store))
      (mapped (on_the_left y) (offers x store) (λ o g. record { atom = g.atom; left = left_of-only o.residual y g.left h.1 }) (offers-only x store h.0))
      (mapped (on_the_right x) (offers y store) (λ o g. record { atom = g.atom; left = right_of-only x o.residual h.0 g.left }) (offers-only y store h.1))
  offers-only (Disrupt x y) store h =
      All-append OffersOnly (map (in_wait y) (offers x store)) (offers y store)
      (mapped (in_wait y) (offers x store) (λ o g. record { atom = g.atom; left = until-only y o.residual h.1 g.left }) (offers-only x store h.0))
      (offers-only y store h.1)
  offers-only (If test x y) store h = if-all OffersOnly (tested store test) (offers x store) (offers y store) (offers-only x store h.0) (offers-only y store h.1)
  offers-only (When test x) store h = if-all OffersOnly (tested store test) (offers x store) [] (offers-only x store h) (All-nil OffersOnly)
  offers-only (Let settings x) store h = after-all OffersOnly (with_settings store settings) (offers x) (let-only (with_settings store settings) (λ s. offers-only x s h)) where
    let-only : (o : Option (List Slot)) → ((s : List Slot) → All OffersOnly (offers x s)) → IfSome o (λ s. All OffersOnly (offers x s))
    let-only None k = tt
    let-only (Some s) k = k s

  pub offer-only : (term : Process) (store : List Slot) (offered : Offered) → HasOnly term → Contains (offers term store) offered → OffersOnly offered
  offer-only term store offered h c = All-contains OffersOnly (offers term store) offered (offers-only term store h) c

  -- the same of the list of its atoms

  abbrev Each : List ℕ → Type 0
  Each atoms = (atom : ℕ) → Contains atoms atom → P atom

  both-only : (x y : Process) → (Each (atoms_of x) → HasOnly x) → (Each (atoms_of y) → HasOnly y) → Each (atoms_of x ++ atoms_of y) → HasOnly x × HasOnly y
  both-only x y f g h = (
    f (λ a c. h a (Contains-append_left (atoms_of x) (atoms_of y) a c)),
    g (λ a c. h a (Contains-append_right (atoms_of x) (atoms_of y) a c)),
  )

  pub only-from : (term : Process) → Each (atoms_of term) → HasOnly term
  only-from (At atom age) h = h atom (search rules)
  only-from (Seq x y) h = both-only x y (only-from x) (only-from y) h
  only-from (Alt x y) h = both-only x y (only-from x) (only-from y) h
  only-from (Star x y) h = both-only x y (only-from x) (only-from y) h
  only-from (Par x y) h = both-only x y (only-from x) (only-from y) h
  only-from (Disrupt x y) h = both-only x y (only-from x) (only-from y) h
  only-from (If test x y) h = both-only x y (only-from x) (only-from y) h
  only-from (When test x) h = only-from x h
  only-from (Let settings x) h = only-from x h

  only-list : (term : Process) → HasOnly term → All P (atoms_of term)
  only-list (At atom age) h = All-cons P atom [] h (All-nil P)
  only-list (Seq x y) h = All-append P (atoms_of x) (atoms_of y) (only-list x h.0) (only-list y h.1)
  only-list (Alt x y) h = All-append P (atoms_of x) (atoms_of y) (only-list x h.0) (only-list y h.1)
  only-list (Star x y) h = All-append P (atoms_of x) (atoms_of y) (only-list x h.0) (only-list y h.1)
  only-list (Par x y) h = All-append P (atoms_of x) (atoms_of y) (only-list x h.0) (only-list y h.1)
  only-list (Disrupt x y) h = All-append P (atoms_of x) (atoms_of y) (only-list x h.0) (only-list y h.1)
  only-list (If test x y) h = All-append P (atoms_of x) (atoms_of y) (only-list x h.0) (only-list y h.1)
  only-list (When test x) h = only-list x h
  only-list (Let settings x) h = only-list x h

  pub only-each : (term : Process) → HasOnly term → Each (atoms_of term)
  only-each term h atom c = All-contains P (atoms_of term) atom (only-list term h) c
