-- A step of the right side of a disrupt leaves a term in which no atom of the left side is entered, until the disrupt is entered again.
use Rattle.std.proofs.Common.{◌≡◌, ℕ, ◌⊎◌, inl, inr, List, [], map, Option, Some, None, IfSome, Contains, sym, subst}
use Rattle.std.specs.List.{All}
use Rattle.std.proofs.lemmas.List.Elements.{All-nil, All-cons, All-append, All-weaker, All-map, All-contains, Contains-append_right}
use Rattle.tb_func.specs.declared.slot.Slot.{Slot}
use Rattle.tb_terms.specs.declared.expr.Expr.{Expr}
use Rattle.tb_body.specs.declared.body.Body.{Body}
use Rattle.tb_body.specs.declared.tree.Setting.{Setting}
use Rattle.tb_body.specs.declared.tree.Tree.{Tree}
use Rattle.tb_process_steps.specs.Processes.{Process, At, Seq, Alt, Star, Par, Disrupt, If, When, Let, fresh, aged}
use Rattle.tb_process_steps.specs.Settings.{tested, with_settings}
use Rattle.tb_process_steps.specs.Offers.{Offered, followed, left_of, right_of, until, before, on_the_left, on_the_right, in_wait, offers}
use Rattle.tb_process_steps.specs.Reached.{Reaches, entered, went_on, grew_older}
use Rattle.tb_process_steps.specs.Transfers.{RightWent, atoms_of}
use Rattle.tb_process_steps.proofs.Ages.{left-is}
use Rattle.tb_process_steps.proofs.Offering.{if-all, after-all}
use Rattle.tb_process_steps.proofs.TransferLaws.{left_gone}
use Rattle.tb_transfer_laws.specs.Entering.{HasDisrupt, Enters, GoesOn, begins, takes, grows_older}
use Rattle.tb_transfer_laws.proofs.AtomLemmas.{HasOnly, OffersOnly, only-from, only-aged, offers-only}
use Rattle.tb_transfer_laws.proofs.AscendLemmas.{body-ascends}
use Rattle.tb_transfer_laws.proofs.Places.{only-weaker, NotOfLeft, NotOfBoth, Free, FreeOfLeft, left-free, HasOnce, has-once, has-apart}

some-map : (P Q : Process → Type 0) (o : Option Process) → ((x : Process) → P x → Q x) → IfSome o P → IfSome o Q
some-map P Q None f h = tt
some-map P Q (Some x) f h = f x h

some-let : (P : Offered → Type 0) (o : Option (List Slot)) (offering : List Slot → List Offered) → ((s : List Slot) → All P (offering s)) → IfSome o (λ s. All P (offering s))
some-let P None offering k = tt
some-let P (Some s) offering k = k s

mapped : (P Q : Offered → Type 0) (f : Offered → Offered) (os : List Offered) → ((o : Offered) → P o → Q (f o)) → All P os → All Q (map f os)
mapped P Q f os each h = All-map Q f os (All-weaker P (λ o. Q (f o)) each os h)

-- the process is not in the disrupt, in both sides, or in the right side alone
pub data Place (l r : Process) : Process → Type 0 where
  away : {t : Process} → Free l r t → Place l r t
  in_both : {x y : Process} → HasOnly (Contains (atoms_of l)) x → HasOnly (Contains (atoms_of r)) y → Place l r (Disrupt x y)
  in_right : {t : Process} → HasOnly (Contains (atoms_of r)) t → Place l r t
  in_first : {x y : Process} → Place l r x → Free l r y ⊎ HasOnce l r y → Place l r (Seq x y)
  in_choice : {x y : Process} → Place l r x → Place l r y → Place l r (Alt x y)
  in_star : {x y : Process} → Place l r x → Place l r y → Free l r (Star x y) ⊎ HasOnce l r (Star x y) → Place l r (Star x y)
  in_par_left : {x y : Process} → Place l r x → Free l r y → Place l r (Par x y)
  in_par_right : {x y : Process} → Free l r x → Place l r y → Place l r (Par x y)
  in_waited : {x y : Process} → Place l r x → Free l r y → Place l r (Disrupt x y)
  in_waiting : {x y : Process} → Free l r x → Place l r y → Place l r (Disrupt x y)
  in_test : {test : Expr} {x y : Process} → Place l r x → Place l r y → Place l r (If test x y)
  in_when : {test : Expr} {x : Process} → Place l r x → Place l r (When test x)
  in_let : {settings : List Setting} {x : Process} → Place l r x → Place l r (Let settings x)

module _ (l r : Process) (apart : (atom : ℕ) → Contains (atoms_of l) atom → Contains (atoms_of r) atom → ⊥) where
  -- the term isn't entered yet: it has no atom of the disrupt, or the disrupt as a whole
  abbrev Next : Process → Type 0
  Next term = Free l r term ⊎ HasOnce l r term

  -- the same of the left side alone
  abbrev Behind : Process → Type 0
  Behind term = FreeOfLeft l r term ⊎ HasOnce l r term

  -- no atom of the left side is entered, and those that are still in the term can only be entered with the disrupt
  abbrev Gone : Process → Type 0
  Gone (At atom age) = NotOfLeft l r atom
  Gone (Seq x y) = Gone x × Behind y
  Gone (Alt x y) = Gone x × Gone y
  Gone (Star x y) = Gone x × Gone y × Behind (Star x y)
  Gone (Par x y) = Gone x × Gone y
  Gone (Disrupt x y) = Gone x × Gone y
  Gone (If test x y) = Gone x × Gone y
  Gone (When test x) = Gone x
  Gone (Let settings x) = Gone x

  abbrev After : Process → Type 0
  After term = Gone term ⊎ Enters l r term

  either : {A B C D : Type 0} → A ⊎ B → (A → C) → (B → D) → C ⊎ D
  either (inl a) f g = inl (f a)
  either (inr b) f g = inr (g b)

  free-gone : (t : Process) → FreeOfLeft l r t → Gone t
  free-gone (At atom age) h = h
  free-gone (Seq x y) h = (free-gone x h.0, inl h.1)
  free-gone (Alt x y) h = (free-gone x h.0, free-gone y h.1)
  free-gone (Star x y) h = (free-gone x h.0, free-gone y h.1, inl h)
  free-gone (Par x y) h = (free-gone x h.0, free-gone y h.1)
  free-gone (Disrupt x y) h = (free-gone x h.0, free-gone y h.1)
  free-gone (If test x y) h = (free-gone x h.0, free-gone y h.1)
  free-gone (When test x) h = free-gone x h
  free-gone (Let settings x) h = free-gone x h

  away-gone : (t : Process) → Free l r t → Gone t
  away-gone t h = free-gone t (left-free l r t h)

  right-gone : (t : Process) → HasOnly (Contains (atoms_of r)) t → Gone t
  right-gone t h = free-gone t (only-weaker (Contains (atoms_of r)) (NotOfLeft l r) (λ atom d c. apart atom c d) t h)

  -- a part that is entered

  both-after : (x y : Process) (Whole : Type 0) → (Gone x → Gone y → Whole) → (HasOnce l r x → After x) → (HasOnce l r y → After y)
      → (HasOnce l r x × Free l r y) ⊎ (Free l r x × HasOnce l r y) → Whole ⊎ (Enters l r x ⊎ Enters l r y)
  both-after x y Whole made f g (inl h) = either (f h.0) (λ (k : Gone x). made k (away-gone y h.1)) (λ (e : Enters l r x). inl e)
  both-after x y Whole made f g (inr h) = either (g h.1) (λ (k : Gone y). made (away-gone x h.0) k) (λ (e : Enters l r y). inr e)

  first-after : (x y : Process) → (HasOnce l r x → After x) → (HasOnce l r x × Free l r y) ⊎ (Free l r x × HasOnce l r y) → (Gone x × Behind y) ⊎ Enters l r x
  first-after x y f (inl h) = either (f h.0) (λ (k : Gone x). (k, inl (left-free l r y h.1))) (λ (e : Enters l r x). e)
  first-after x y f (inr h) = inl (away-gone x h.0, inr h.1)

  once-after : (t : Process) → HasOnce l r t → After t
  once-after (At atom age) h = elim h [ ]
  once-after (Seq x y) h = first-after x y (once-after x) h
  once-after (Alt x y) h = both-after x y (Gone x × Gone y) (λ k m. (k, m)) (once-after x) (once-after y) h
  once-after (Star x y) h = both-after x y (Gone x × Gone y × Behind (Star x y)) (λ k m. (k, m, inr h)) (once-after x) (once-after y) h
  once-after (Par x y) h = both-after x y (Gone x × Gone y) (λ k m. (k, m)) (once-after x) (once-after y) h
  once-after (Disrupt x y) (inl h) = inr (inl h)
  once-after (Disrupt x y) (inr h) = either (both-after x y (Gone x × Gone y) (λ k m. (k, m)) (once-after x) (once-after y) h) (λ (k : Gone x × Gone y). k) (λ (e : Enters l r x ⊎ Enters l r y). inr e)
  once-after (If test x y) h = both-after x y (Gone x × Gone y) (λ k m. (k, m)) (once-after x) (once-after y) h
  once-after (When test x) h = once-after x h
  once-after (Let settings x) h = once-after x h

  behind-after : (t : Process) → Behind t → After t
  behind-after t (inl h) = inl (free-gone t h)
  behind-after t (inr h) = once-after t h

  next-behind : (t : Process) → Next t → Behind t
  next-behind t (inl h) = inl (left-free l r t h)
  next-behind t (inr h) = inr h

  next-after : (t : Process) → Next t → After t
  next-after t h = behind-after t (next-behind t h)

  -- the rest of an offer

  after-followed : (o : Option Process) (y : Process) → IfSome o After → Behind y → After (followed o y)
  after-followed None y h b = behind-after y b
  after-followed (Some u) y h b = either h (λ (g : Gone u). (g, b)) (λ (e : Enters l r u). e)

  after-left_of : (o : Option Process) (y : Process) → IfSome o After → Gone y → After (left_of o y)
  after-left_of None y h k = inl k
  after-left_of (Some u) y h k = either h (λ (g : Gone u). (g, k)) (λ (e : Enters l r u). inl e)

  after-right_of : (x : Process) (o : Option Process) → Gone x → IfSome o After → After (right_of x o)
  after-right_of x None k h = inl k
  after-right_of x (Some u) k h = either h (λ (g : Gone u). (k, g)) (λ (e : Enters l r u). inr e)

  after-until : (y : Process) (o : Option Process) → Gone y → IfSome o After → IfSome (until y o) After
  after-until y None k h = tt
  after-until y (Some u) k h = either h (λ (g : Gone u). (g, k)) (λ (e : Enters l r u). inr (inl e))

  -- the left side is gone

  record Stays (o : Offered) : Type 0 where
    atom : NotOfLeft l r o.atom
    left : IfSome o.residual After

  stays-by : (f : Offered → Offered) (os : List Offered) → ((o : Offered) → Stays o → Stays (f o)) → All Stays os → All Stays (map f os)
  stays-by f os each h = mapped Stays Stays f os each h

  offers-gone : (t : Process) (store : List Slot) → Gone t → All Stays (offers t store)
  offers-gone (At atom age) store h = All-cons Stays _ [] (record { atom = h; left = tt }) (All-nil Stays)
  offers-gone (Seq x y) store h = stays-by (before y) (offers x store) (λ o s. record { atom = s.atom; left = after-followed o.residual y s.left h.1 }) (offers-gone x store h.0)
  offers-gone (Alt x y) store h = All-append Stays (offers x store) (offers y store) (offers-gone x store h.0) (offers-gone y store h.1)
  offers-gone (Star x y) store h =
      All-append Stays (map (before (Star x y)) (offers x store)) (offers y store)
      (stays-by (before (Star x y)) (offers x store) (λ o s. record { atom = s.atom; left = after-followed o.residual (Star x y) s.left h.2 }) (offers-gone x store h.0))
      (offers-gone y store h.1)
  offers-gone (Par x y) store h =
      All-append Stays (map (on_the_left y) (offers x store)) (map (on_the_right x) (offers y store))
      (stays-by (on_the_left y) (offers x store) (λ o s. record { atom = s.atom; left = after-left_of o.residual y s.left h.1 }) (offers-gone x store h.0))
      (stays-by (on_the_right x) (offers y store) (λ o s. record { atom = s.atom; left = after-right_of x o.residual h.0 s.left }) (offers-gone y store h.1))
  offers-gone (Disrupt x y) store h =
      All-append Stays (map (in_wait y) (offers x store)) (offers y store)
      (stays-by (in_wait y) (offers x store) (λ o s. record { atom = s.atom; left = after-until y o.residual h.1 s.left }) (offers-gone x store h.0))
      (offers-gone y store h.1)
  offers-gone (If test x y) store h = if-all Stays (tested store test) (offers x store) (offers y store) (offers-gone x store h.0) (offers-gone y store h.1)
  offers-gone (When test x) store h = if-all Stays (tested store test) (offers x store) [] (offers-gone x store h) (All-nil Stays)
  offers-gone (Let settings x) store h = after-all Stays (with_settings store settings) (offers x) (some-let Stays (with_settings store settings) (offers x) (λ s. offers-gone x s h))

  gone-aged : (t : Process) → Gone t → Gone (aged t)
  gone-aged (At atom age) h = h
  gone-aged (Seq x y) h = (gone-aged x h.0, h.1)
  gone-aged (Alt x y) h = (gone-aged x h.0, gone-aged y h.1)
  gone-aged (Star x y) h = ((gone-aged x h.0, h.2), gone-aged y h.1)
  gone-aged (Par x y) h = (gone-aged x h.0, gone-aged y h.1)
  gone-aged (Disrupt x y) h = (gone-aged x h.0, gone-aged y h.1)
  gone-aged (If test x y) h = (gone-aged x h.0, gone-aged y h.1)
  gone-aged (When test x) h = gone-aged x h
  gone-aged (Let settings x) h = gone-aged x h

  not-entered : (t : Process) → After t → (Enters l r t → ⊥) → Gone t
  not-entered t (inl h) n = h
  not-entered t (inr e) n = absurd (n e)

  stays-gone : {term later : Process} → After term → GoesOn l r term later → Gone later
  stays-gone {term = term} h (begins n) = not-entered term h n
  stays-gone h (takes {later = later} {rest = rest} store offered goes c e n) =
      not-entered rest (left-is After offered.residual rest (All-contains Stays (offers later store) offered (offers-gone later store (stays-gone h goes)) c).left e) n
  stays-gone h (grows_older {later = later} goes) = gone-aged later (stays-gone h goes)

  -- where the process is

  once-place : (t : Process) → HasOnce l r t → Place l r t
  once-place (At atom age) h = elim h [ ]
  once-place (Seq x y) (inl h) = in_first (once-place x h.0) (inl h.1)
  once-place (Seq x y) (inr h) = in_first (away h.0) (inr h.1)
  once-place (Alt x y) (inl h) = in_choice (once-place x h.0) (away h.1)
  once-place (Alt x y) (inr h) = in_choice (away h.0) (once-place y h.1)
  once-place (Star x y) (inl h) = in_star (once-place x h.0) (away h.1) (inr (inl h))
  once-place (Star x y) (inr h) = in_star (away h.0) (once-place y h.1) (inr (inr h))
  once-place (Par x y) (inl h) = in_par_left (once-place x h.0) h.1
  once-place (Par x y) (inr h) = in_par_right h.0 (once-place y h.1)
  once-place (Disrupt x y) (inl h) = in_both
      (subst (HasOnly (Contains (atoms_of l))) (sym h.0) (only-from (Contains (atoms_of l)) l (λ atom c. c)))
      (subst (HasOnly (Contains (atoms_of r))) (sym h.1) (only-from (Contains (atoms_of r)) r (λ atom c. c)))
  once-place (Disrupt x y) (inr (inl h)) = in_waited (once-place x h.0) h.1
  once-place (Disrupt x y) (inr (inr h)) = in_waiting h.0 (once-place y h.1)
  once-place (If test x y) (inl h) = in_test (once-place x h.0) (away h.1)
  once-place (If test x y) (inr h) = in_test (away h.0) (once-place y h.1)
  once-place (When test x) h = in_when (once-place x h)
  once-place (Let settings x) h = in_let (once-place x h)

  next-place : (t : Process) → Next t → Place l r t
  next-place t (inl h) = away h
  next-place t (inr h) = once-place t h

  place-aged : {t : Process} → Place l r t → Place l r (aged t)
  place-aged (away {t = t} h) = away (only-aged (NotOfBoth l r) t h)
  place-aged (in_both {x = x} {y = y} h k) = in_both (only-aged (Contains (atoms_of l)) x h) (only-aged (Contains (atoms_of r)) y k)
  place-aged (in_right {t = t} h) = in_right (only-aged (Contains (atoms_of r)) t h)
  place-aged (in_first h n) = in_first (place-aged h) n
  place-aged (in_choice h k) = in_choice (place-aged h) (place-aged k)
  place-aged (in_star h k n) = in_choice (in_first (place-aged h) n) (place-aged k)
  place-aged (in_par_left {y = y} h f) = in_par_left (place-aged h) (only-aged (NotOfBoth l r) y f)
  place-aged (in_par_right {x = x} f h) = in_par_right (only-aged (NotOfBoth l r) x f) (place-aged h)
  place-aged (in_waited {y = y} h f) = in_waited (place-aged h) (only-aged (NotOfBoth l r) y f)
  place-aged (in_waiting {x = x} f h) = in_waiting (only-aged (NotOfBoth l r) x f) (place-aged h)
  place-aged (in_test h k) = in_test (place-aged h) (place-aged k)
  place-aged (in_when h) = in_when (place-aged h)
  place-aged (in_let h) = in_let (place-aged h)

  -- the rest of an offer has a place, and a step of the right side leaves a term in which the left side is gone
  record Goes (o : Offered) : Type 0 where
    left : IfSome o.residual (Place l r)
    gone : Contains (atoms_of r) o.atom → IfSome o.residual After

  goes-by : (f : Offered → Offered) (os : List Offered) → ((o : Offered) → Goes o → Goes (f o)) → All Goes os → All Goes (map f os)
  goes-by f os each h = mapped Goes Goes f os each h

  place-followed : (o : Option Process) (y : Process) → IfSome o (Place l r) → Next y → Place l r (followed o y)
  place-followed None y h n = next-place y n
  place-followed (Some u) y h n = in_first h n

  place-left_of : (o : Option Process) (y : Process) → IfSome o (Place l r) → Free l r y → Place l r (left_of o y)
  place-left_of None y h f = away f
  place-left_of (Some u) y h f = in_par_left h f

  place-right_of : (x : Process) (o : Option Process) → Free l r x → IfSome o (Place l r) → Place l r (right_of x o)
  place-right_of x None f h = away f
  place-right_of x (Some u) f h = in_par_right f h

  place-until : (y : Process) (o : Option Process) → Free l r y → IfSome o (Place l r) → IfSome (until y o) (Place l r)
  place-until y None f h = tt
  place-until y (Some u) f h = in_waited h f

  -- an offer without an atom of the disrupt

  free-left_of : (o : Option Process) (y : Process) → IfSome o (Free l r) → Place l r y → Place l r (left_of o y)
  free-left_of None y f h = h
  free-left_of (Some u) y f h = in_par_right f h

  free-right_of : (x : Process) (o : Option Process) → Place l r x → IfSome o (Free l r) → Place l r (right_of x o)
  free-right_of x None h f = h
  free-right_of x (Some u) h f = in_par_left h f

  free-until : (y : Process) (o : Option Process) → Place l r y → IfSome o (Free l r) → IfSome (until y o) (Place l r)
  free-until y None h f = tt
  free-until y (Some u) h f = in_waiting f h

  not-right : (o : Offered) (Claim : Type 0) → NotOfBoth l r o.atom → Contains (atoms_of r) o.atom → Claim
  not-right o Claim n c = absurd (n (Contains-append_right (atoms_of l) (atoms_of r) o.atom c))

  abbrev OffersFree : Offered → Type 0
  OffersFree o = OffersOnly (NotOfBoth l r) o

  free-offers : (t : Process) (store : List Slot) → Free l r t → All OffersFree (offers t store)
  free-offers t store h = offers-only (NotOfBoth l r) t store h

  free-goes : (t : Process) (store : List Slot) → Free l r t → All Goes (offers t store)
  free-goes t store h =
      All-weaker OffersFree Goes
      (λ o f. record { left = some-map (Free l r) (Place l r) o.residual (λ u g. away g) f.left; gone = not-right o (IfSome o.residual After) f.atom })
      (offers t store) (free-offers t store h)

  right-goes : (t : Process) (store : List Slot) → HasOnly (Contains (atoms_of r)) t → All Goes (offers t store)
  right-goes t store h =
      All-weaker (OffersOnly (Contains (atoms_of r))) Goes
      (λ o f. record {
        left = some-map (HasOnly (Contains (atoms_of r))) (Place l r) o.residual (λ u g. in_right g) f.left;
        gone = λ c. some-map (HasOnly (Contains (atoms_of r))) After o.residual (λ u g. inl (right-gone u g)) f.left;
      })
      (offers t store) (offers-only (Contains (atoms_of r)) t store h)

  until-both : (y : Process) (o : Option Process) → HasOnly (Contains (atoms_of r)) y → IfSome o (HasOnly (Contains (atoms_of l))) → IfSome (until y o) (Place l r)
  until-both y None k h = tt
  until-both y (Some u) k h = in_both h k

  left-goes : (x y : Process) (store : List Slot) → HasOnly (Contains (atoms_of l)) x → HasOnly (Contains (atoms_of r)) y → All Goes (map (in_wait y) (offers x store))
  left-goes x y store h k =
      mapped (OffersOnly (Contains (atoms_of l))) Goes (in_wait y) (offers x store)
      (λ o f. record { left = until-both y o.residual k f.left; gone = λ c. absurd (apart o.atom f.atom c) })
      (offers-only (Contains (atoms_of l)) x store h)

  offers-goes : {t : Process} → Place l r t → (store : List Slot) → All Goes (offers t store)
  offers-goes (away {t = t} h) store = free-goes t store h
  offers-goes (in_both {x = x} {y = y} h k) store = All-append Goes (map (in_wait y) (offers x store)) (offers y store) (left-goes x y store h k) (right-goes y store k)
  offers-goes (in_right {t = t} h) store = right-goes t store h
  offers-goes (in_first {x = x} {y = y} h n) store =
      goes-by (before y) (offers x store)
      (λ o g. record { left = place-followed o.residual y g.left n; gone = λ c. after-followed o.residual y (g.gone c) (next-behind y n) }) (offers-goes h store)
  offers-goes (in_choice {x = x} {y = y} h k) store = All-append Goes (offers x store) (offers y store) (offers-goes h store) (offers-goes k store)
  offers-goes (in_star {x = x} {y = y} h k n) store =
      All-append Goes (map (before (Star x y)) (offers x store)) (offers y store)
      (goes-by (before (Star x y)) (offers x store)
      (λ o g. record { left = place-followed o.residual (Star x y) g.left n; gone = λ c. after-followed o.residual (Star x y) (g.gone c) (next-behind (Star x y) n) }) (offers-goes h store))
      (offers-goes k store)
  offers-goes (in_par_left {x = x} {y = y} h f) store =
      All-append Goes (map (on_the_left y) (offers x store)) (map (on_the_right x) (offers y store))
      (goes-by (on_the_left y) (offers x store) (λ o g. record { left = place-left_of o.residual y g.left f; gone = λ c. after-left_of o.residual y (g.gone c) (away-gone y f) }) (offers-goes h store))
      (mapped OffersFree Goes (on_the_right x) (offers y store)
      (λ o g. record { left = free-right_of x o.residual h g.left; gone = not-right o (After (right_of x o.residual)) g.atom }) (free-offers y store f))
  offers-goes (in_par_right {x = x} {y = y} f h) store =
      All-append Goes (map (on_the_left y) (offers x store)) (map (on_the_right x) (offers y store))
      (mapped OffersFree Goes (on_the_left y) (offers x store)
      (λ o g. record { left = free-left_of o.residual y g.left h; gone = not-right o (After (left_of o.residual y)) g.atom }) (free-offers x store f))
      (goes-by (on_the_right x) (offers y store) (λ o g. record { left = place-right_of x o.residual f g.left; gone = λ c. after-right_of x o.residual (away-gone x f) (g.gone c) }) (offers-goes h store))
  offers-goes (in_waited {x = x} {y = y} h f) store =
      All-append Goes (map (in_wait y) (offers x store)) (offers y store)
      (goes-by (in_wait y) (offers x store) (λ o g. record { left = place-until y o.residual f g.left; gone = λ c. after-until y o.residual (away-gone y f) (g.gone c) }) (offers-goes h store))
      (free-goes y store f)
  offers-goes (in_waiting {x = x} {y = y} f h) store =
      All-append Goes (map (in_wait y) (offers x store)) (offers y store)
      (mapped OffersFree Goes (in_wait y) (offers x store)
      (λ o g. record { left = free-until y o.residual h g.left; gone = not-right o (IfSome (until y o.residual) After) g.atom }) (free-offers x store f))
      (offers-goes h store)
  offers-goes (in_test {test = test} {x = x} {y = y} h k) store = if-all Goes (tested store test) (offers x store) (offers y store) (offers-goes h store) (offers-goes k store)
  offers-goes (in_when {test = test} {x = x} h) store = if-all Goes (tested store test) (offers x store) [] (offers-goes h store) (All-nil Goes)
  offers-goes (in_let {settings = settings} {x = x} h) store =
      after-all Goes (with_settings store settings) (offers x) (some-let Goes (with_settings store settings) (offers x) (λ s. offers-goes h s))

  reached-place : {tree : Tree} {ticks : ℕ} {term : Process} → HasOnce l r (fresh tree) → Reaches tree ticks term → Place l r term
  reached-place {tree = tree} once entered = once-place (fresh tree) once
  reached-place once (went_on {term = term} {left = left} store offered h c e) =
      left-is (Place l r) offered.residual left (All-contains Goes (offers term store) offered (offers-goes (reached-place once h) store) c).left e
  reached-place once (grew_older h) = place-aged (reached-place once h)

  -- the theorem, for a tree that has the disrupt once
  dropped : (tree : Tree) (ticks : ℕ) (term rest later : Process) (store other : List Slot) (offered found : Offered) → HasOnce l r (fresh tree) → Reaches tree ticks term → Contains (offers term store) offered
      → Contains (atoms_of r) offered.atom → offered.residual ≡ Some rest → GoesOn l r rest later → Contains (offers later other) found → Contains (atoms_of l) found.atom → ⊥
  dropped tree ticks term rest later store other offered found once h c there e goes d =
      let step = All-contains Goes (offers term store) offered (offers-goes (reached-place once h) store) c in
      let gone = stays-gone (left-is After offered.residual rest (step.gone there) e) goes in
      (All-contains Stays (offers later other) found (offers-gone later other gone) d).atom

pub apart-in : (body : Body) (x y : Process) → HasDisrupt x y (fresh body.tree) → (atom : ℕ) → Contains (atoms_of x) atom → Contains (atoms_of y) atom → ⊥
apart-in body x y h = has-apart x y (fresh body.tree) 1 (body-ascends body) h

pub gone-in : (body : Body) (x y term : Process) (ticks : ℕ) (store : List Slot) (offered : Offered) → HasDisrupt x y (fresh body.tree) → RightWent x y ticks term → Contains (offers term store) offered → Contains (atoms_of x) offered.atom → ⊥
gone-in body x y term ticks store offered h = left_gone x y term ticks store offered (apart-in body x y h)

pub dropped-in : (body : Body) (x y term rest later : Process) (ticks : ℕ) (store other : List Slot) (offered found : Offered) → HasDisrupt x y (fresh body.tree) → Reaches body.tree ticks term → Contains (offers term store) offered
    → Contains (atoms_of y) offered.atom → offered.residual ≡ Some rest → GoesOn x y rest later → Contains (offers later other) found → Contains (atoms_of x) found.atom → ⊥
dropped-in body x y term rest later ticks store other offered found h =
    dropped x y (apart-in body x y h) body.tree ticks term rest later store other offered found (has-once x y (fresh body.tree) 1 (body-ascends body) h)
