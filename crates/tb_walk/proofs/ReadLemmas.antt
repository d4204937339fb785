-- Where a row that is read stands, and how many offers it has.
use Rattle.std.proofs.Common.{◌≡◌, ℕ, suc, ◌+◌, ◌-◌, ◌<◌, ◌≤◌, Bool, true, false, List, [], ◌∷◌, ◌++◌, map, length, slice_get, Option, Some, None, refl, ap, sym, ◌∙◌, arith, append_assoc, length-append, ◌⊎◌, inl, inr}
use Rattle.std.proofs.lemmas.List.{append-nil}
use Rattle.tb_func.specs.declared.slot.Slot.{Slot}
use Rattle.tb_body.specs.declared.atom.Atom.{Atom}
use Rattle.tb_process_steps.specs.Processes.{Process, Seq, Alt, Star, Par, Disrupt, If, When, Let}
use Rattle.tb_process_steps.specs.Offers.{offers, before, on_the_left, on_the_right, in_wait}
use Rattle.tb_process_steps.specs.Helpers.Runnings.{waited}
use Rattle.tb_process_steps.specs.Helpers.OfferViews.{OfferView, offer_view, offer_views}
use Rattle.tb_process_steps.specs.Walks.{offers_of_term}
use Rattle.tb_process_steps.proofs.OfferViewLemmas.{offer_views-Seq, offer_views-Par, offer_views-Disrupt}
use Rattle.tb_code.specs.Positions.{size, table, positions, node, op_in, op_at}
use Rattle.tb_code.specs.declared.node.Node.{Node}
use Rattle.tb_code.specs.declared.node.Op.TheVariants as op
use Rattle.tb_code.proofs.Tables.{length-table}
use Rattle.tb_code.proofs.Parts.{Stands, some_size, stands_first, stands_second, stands_only, stands_here, stands_behind, stands_until, waits_there}
use Rattle.tb_walk.specs.Helpers.Goings.{term_at, counted, row_sights}
use Rattle.tb_walk.specs.Lefts.{beside}
use Rattle.tb_walk.specs.Helpers.Reads.{branch, Passes, behind, one, other, leaves, transfers, then_side, else_side, when, set, Follows, sequence, turn, Reads, ended, waits, passes, follows, both, stands_until as until}
use Rattle.tb_walk.specs.Helpers.Rests.{bound_by, next_by, falls_by}
use Rattle.tb_walk.specs.declared.branch.Branch.{Branch}
use Rattle.tb_walk.proofs.Ranges.{InRange, wider, range-append}

pub length-mapped : {A B : Type 0} (f : A → B) (xs : List A) → length (map f xs) ≡ length xs
length-mapped f [] = refl
length-mapped f (x ∷ xs) = ap suc (length-mapped f xs)

-- parts stand within the whole

pub passes-range : {at : ℕ} {w : Process} {at-x : ℕ} {x : Process} → Passes at w at-x x → (at < at-x) × (at-x + size x ≤ at + size w)
passes-range behind = (omega arith, omega arith)
passes-range one = (omega arith, omega arith)
passes-range other = (omega arith, omega arith)
passes-range leaves = (omega arith, omega arith)
passes-range transfers = (omega arith, omega arith)
passes-range then_side = (omega arith, omega arith)
passes-range else_side = (omega arith, omega arith)
passes-range when = (omega arith, omega arith)
passes-range set = (omega arith, omega arith)

pub follows-range : {at : ℕ} {w x : Process} {at-z : ℕ} {z : Process} → Follows at w x at-z z → suc at + size x ≤ at + size w
follows-range sequence = omega arith
follows-range turn = omega arith

-- they stand where the whole does, with its frame or in it

pub passes-stands : (whole : Process) (frame : Option ℕ) {at : ℕ} {w : Process} {at-x : ℕ} {x : Process} → Passes at w at-x x → Stands whole at w (table w at frame) → Stands whole at-x x (table x at-x frame)
passes-stands whole frame (behind {at = at} {x = x} {y = y}) s = stands_second whole at (Seq x y) x y _ (table x (suc at) (Some at)) (table y (suc at + size x) frame) (refl, λ i. refl) (length-table x (suc at) (Some at)) s
passes-stands whole frame (one {at = at} {x = x} {y = y}) s = stands_first whole at (Alt x y) x y _ (table x (suc at) frame) (table y (suc at + size x) frame) (refl, λ i. refl) (length-table x (suc at) frame) s
passes-stands whole frame (other {at = at} {x = x} {y = y}) s = stands_second whole at (Alt x y) x y _ (table x (suc at) frame) (table y (suc at + size x) frame) (refl, λ i. refl) (length-table x (suc at) frame) s
passes-stands whole frame (leaves {at = at} {x = x} {y = y}) s = stands_second whole at (Star x y) x y _ (table x (suc at) (Some at)) (table y (suc at + size x) frame) (refl, λ i. refl) (length-table x (suc at) (Some at)) s
passes-stands whole frame (transfers {at = at} {x = x} {y = y}) s = stands_behind whole at x y frame s
passes-stands whole frame (then_side {at = at} {test = test} {x = x} {y = y}) s = stands_first whole at (If test x y) x y _ (table x (suc at) frame) (table y (suc at + size x) frame) (refl, λ i. refl) (length-table x (suc at) frame) s
passes-stands whole frame (else_side {at = at} {test = test} {x = x} {y = y}) s = stands_second whole at (If test x y) x y _ (table x (suc at) frame) (table y (suc at + size x) frame) (refl, λ i. refl) (length-table x (suc at) frame) s
passes-stands whole frame (when {at = at} {test = test} {x = x}) s = stands_only whole at (When test x) x _ (table x (suc at) frame) refl (λ i. refl) s
passes-stands whole frame (set {at = at} {settings = settings} {x = x}) s = stands_only whole at (Let settings x) x _ (table x (suc at) frame) refl (λ i. refl) s

pub follows-stands : (whole : Process) (frame : Option ℕ) {at : ℕ} {w x : Process} {at-z : ℕ} {z : Process} → Follows at w x at-z z → Stands whole at w (table w at frame) → Stands whole (suc at) x (table x (suc at) (Some at))
follows-stands whole frame (sequence {at = at} {x = x} {y = y}) s = stands_first whole at (Seq x y) x y _ (table x (suc at) (Some at)) (table y (suc at + size x) frame) (refl, λ i. refl) (length-table x (suc at) (Some at)) s
follows-stands whole frame (turn {at = at} {x = x} {y = y}) s = stands_first whole at (Star x y) x y _ (table x (suc at) (Some at)) (table y (suc at + size x) frame) (refl, λ i. refl) (length-table x (suc at) (Some at)) s

-- what the table says of a frame
pub record IsFrame (whole : Process) (at bound next : ℕ) (falls : Bool) : Type 0 where
  pub ends : bound_by (op_at whole at) at ≡ bound
  pub enters : next_by (op_at whole at) at ≡ next
  pub goes : falls_by (op_at whole at) ≡ falls

is_frame : (whole : Process) (at : ℕ) (n : Node) → slice_get (positions whole) at ≡ Some n → IsFrame whole at (bound_by n.op at) (next_by n.op at) (falls_by n.op)
is_frame whole at n e = record { ends = ap (λ (o : Option Node). bound_by (op_in o) at) e; enters = ap (λ (o : Option Node). next_by (op_in o) at) e; goes = ap (λ (o : Option Node). falls_by (op_in o)) e }

pub follows-frame : (whole : Process) (frame : Option ℕ) {at : ℕ} {w x : Process} {at-z : ℕ} {z : Process} → Follows at w x at-z z → Stands whole at w (table w at frame) → IsFrame whole at (suc at + size x) at-z false
follows-frame whole frame (sequence {at = at} {x = x} {y = y}) s = is_frame whole at (node (op.Seq (suc at + size x)) frame) (stands_here whole at (Seq x y) (table (Seq x y) at frame) s).0
follows-frame whole frame (turn {at = at} {x = x} {y = y}) s = is_frame whole at (node (op.Star (suc at + size x)) frame) (stands_here whole at (Star x y) (table (Star x y) at frame) s).0

pub until-frame : (whole : Process) (frame : Option ℕ) (at : ℕ) (x y : Process) → Stands whole at (Disrupt x y) (table (Disrupt x y) at frame) → IsFrame whole at (suc at + size x) at true
until-frame whole frame at x y s = is_frame whole at (node (op.Disrupt (suc at + size x)) frame) (stands_here whole at (Disrupt x y) (table (Disrupt x y) at frame) s).0

pub par-first : (whole : Process) (frame : Option ℕ) (at : ℕ) (x y : Process) → Stands whole at (Par x y) (table (Par x y) at frame) → Stands whole (suc at) x (table x (suc at) frame)
par-first whole frame at x y s = stands_first whole at (Par x y) x y _ (table x (suc at) frame) (table y (suc at + size x) frame) (refl, λ i. refl) (length-table x (suc at) frame) s

pub par-second : (whole : Process) (frame : Option ℕ) (at : ℕ) (x y : Process) → Stands whole at (Par x y) (table (Par x y) at frame) → Stands whole (suc at + size x) y (table y (suc at + size x) frame)
par-second whole frame at x y s = stands_second whole at (Par x y) x y _ (table x (suc at) frame) (table y (suc at + size x) frame) (refl, λ i. refl) (length-table x (suc at) frame) s

module _ (ticks : ℕ) where
  -- the branches stand within the term

  pub in_range : {at : ℕ} {w : Process} {row : List Branch} {t : Option Process} → Reads ticks at w row t → InRange at (at + size w) row
  in_range ended = tt
  in_range (waits {at = at} {term = w} entered h) = (let k = some_size w in ((omega arith, omega arith), tt))
  in_range (passes {at = at} {term = w} at-x x {row = row} p r) =
      (let k = passes-range p in wider at-x (at-x + size x) at (at + size w) row (omega arith) k.1 (in_range r))
  in_range (follows {at = at} {term = w} x at-z z {row = row} p r) =
      wider (suc at) (suc at + size x) at (at + size w) row (omega arith) (follows-range p) (in_range r)
  in_range (both {at = at} {x = x} {y = y} {one = one-row} {other = other-row} r s) =
      range-append at (at + size (Par x y)) one-row other-row
      (wider (suc at) (suc at + size x) at (at + size (Par x y)) one-row (omega arith) (omega arith) (in_range r))
      (wider (suc at + size x) (suc at + size x + size y) at (at + size (Par x y)) other-row (omega arith) (omega arith) (in_range s))
  in_range (until {at = at} {x = x} {y = y} {row = row} entered h r) =
      (let k = some_size y in range-append at (at + size (Disrupt x y)) row (branch (suc at + size x) entered ∷ [])
      (wider (suc at) (suc at + size x) at (at + size (Disrupt x y)) row (omega arith) (omega arith) (in_range r))
      ((omega arith, omega arith), tt))

  -- a row is empty exactly where nothing is left

  abbrev pub IsSomeRow : List Branch → Option Process → Type 0
  IsSomeRow row t = (b : Branch) × ((rest : List Branch) × ((row ≡ b ∷ rest) × ((u : Process) × (t ≡ Some u))))

  abbrev pub EndsTogether : List Branch → Option Process → Type 0
  EndsTogether row t = ((row ≡ []) × (t ≡ None)) ⊎ IsSomeRow row t

  some_row : (row : List Branch) (r : Option Process) (u : Process) → EndsTogether row r → r ≡ Some u → (v : Process) → IsSomeRow row (Some v)
  some_row row r u (inl h) e v = (let t : ◌≡◌ {A = Option Process} None (Some u) = sym h.1 ∙ e in cc)
  some_row row r u (inr h) e v = (h.0, (h.1.0, (h.1.1.0, (v, refl))))

  two_rows : (l r : List Branch) (s t : Option Process) → EndsTogether l s → EndsTogether r t → EndsTogether (l ++ r) (beside s t)
  two_rows l r s t (inl h) (inl k) = rw (h.0, h.1, k.0, k.1) (inl (refl, refl))
  two_rows l r s t (inl h) (inr k) = rw (h.0, h.1) (inr k)
  two_rows l r s t (inr h) k = rw (h.1.1.0, h.1.1.1.1) (inr (h.0, (h.1.0 ++ r, (refl, some_beside h.1.1.1.0 t))))
    where
      some_beside : (x : Process) (o : Option Process) → (u : Process) × (beside (Some x) o ≡ Some u)
      some_beside x None = (x, refl)
      some_beside x (Some y) = (Par x y, refl)

  pub ends_together : {at : ℕ} {w : Process} {row : List Branch} {t : Option Process} → Reads ticks at w row t → EndsTogether row t
  ends_together ended = inl (refl, refl)
  ends_together (waits {at = at} {term = w} entered h) = inr (branch at entered, ([], (refl, (waited (ticks - entered) w, refl))))
  ends_together (passes at-x x {row = row} {r = r} p k) = inr (some_row row (Some r) r (ends_together k) refl r)
  ends_together (follows x at-z z {row = row} {r = r} p k) = inr (some_row row (Some r) r (ends_together k) refl (Seq r z))
  ends_together (both {one = one-row} {other = other-row} {s = s} {t = t} k l) = two_rows one-row other-row s t (ends_together k) (ends_together l)
  ends_together (until {at = at} {x = x} {y = y} {row = row} {r = r} entered h k) = by_end (ends_together k)
    where
      by_end : EndsTogether row (Some r) → EndsTogether (row ++ branch (suc at + size x) entered ∷ []) (Some (Disrupt r (waited (ticks - entered) y)))
      by_end (inl e) = (let t : ◌≡◌ {A = Option Process} (Some r) None = e.1 in cc)
      by_end (inr e) = inr (e.0, (e.1.0 ++ branch (suc at + size x) entered ∷ [], (ap (λ (l : List Branch). l ++ branch (suc at + size x) entered ∷ []) e.1.1.0, (Disrupt r (waited (ticks - entered) y), refl))))

  -- as many offers as the branches have, and what is seen of them

  module _ (whole : Process) where
    term-here : (at : ℕ) (w : Process) (nodes : List Node) (entered : ℕ) → Stands whole at w nodes → term_at whole ticks (branch at entered) ≡ waited (ticks - entered) w
    unfolding term_at
    term-here at w nodes entered s = ap (waited (ticks - entered)) (stands_here whole at w nodes s).1

    -- what a right side in wait stands for
    pub wait-here : (at : ℕ) (x y : Process) (frame : Option ℕ) (entered : ℕ) → Stands whole at (Disrupt x y) (table (Disrupt x y) at frame) → term_at whole ticks (branch (suc at + size x) entered) ≡ waited (ticks - entered) y
    unfolding term_at
    wait-here at x y frame entered s = ap (waited (ticks - entered)) (waits_there whole at x y frame s).1

    pub counted-append : (store : List Slot) (l r : List Branch) → counted whole ticks store (l ++ r) ≡ counted whole ticks store l + counted whole ticks store r
    counted-append store [] r = omega arith
    counted-append store (b ∷ l) r = (let h = counted-append store l r in omega arith)

    length-beside : (store : List Slot) (s t : Option Process) → length (offers_of_term (beside s t) store) ≡ length (offers_of_term s store) + length (offers_of_term t store)
    length-beside store None t = omega arith
    length-beside store (Some x) None = omega arith
    length-beside store (Some x) (Some y) =
        let l = length-append (map (on_the_left y) (offers x store)) (map (on_the_right x) (offers y store)) in
        let m = length-mapped (on_the_left y) (offers x store) in
        let n = length-mapped (on_the_right x) (offers y store) in
        omega arith

    pub counts : (store : List Slot) (frame : Option ℕ) {at : ℕ} {w : Process} {row : List Branch} {t : Option Process} → Reads ticks at w row t → Stands whole at w (table w at frame) → length (offers_of_term t store) ≡ counted whole ticks store row
    counts store frame ended s = refl
    counts store frame (waits {at = at} {term = w} entered h) s =
        let e = ap (λ (p : Process). length (offers p store)) (term-here at w (table w at frame) entered s) in
        omega arith
    counts store frame (passes {at = at} {term = w} at-x x p r) s = counts store frame r (passes-stands whole frame p s)
    counts store frame (follows {at = at} {term = w} x at-z z {r = left} p r) s = length-mapped (before z) (offers left store) ∙ counts store (Some at) r (follows-stands whole frame p s)
    counts store frame (both {at = at} {x = x} {y = y} {one = one-row} {other = other-row} {s = left} {t = right} r q) s =
        let a = length-beside store left right in
        let b = counts store frame r (par-first whole frame at x y s) in
        let c = counts store frame q (par-second whole frame at x y s) in
        let d = counted-append store one-row other-row in
        omega arith
    counts store frame (until {at = at} {x = x} {y = y} {row = row} {r = r} entered h k) s =
        let a = counts store (Some at) k (stands_until whole at x y frame s) in
        let there = ap (λ (p : Process). length (offers p store)) (wait-here at x y frame entered s) in
        let b = counted-append store row (branch (suc at + size x) entered ∷ []) in
        let l = length-append (map (in_wait (waited (ticks - entered) y)) (offers r store)) (offers (waited (ticks - entered) y) store) in
        let m = length-mapped (in_wait (waited (ticks - entered) y)) (offers r store) in
        omega arith

    module _ (atoms : List Atom) (now : ℕ) (store : List Slot) where
      abbrev pub seen_of : Option Process → List OfferView
      seen_of t = map (offer_view atoms now) (offers_of_term t store)

      seen_some : (x : Process) → seen_of (Some x) ≡ offer_views atoms now x store
      unfolding offer_views
      seen_some x = refl

      offer_views-append : (l r : List Branch) → row_sights whole atoms now ticks store (l ++ r) ≡ row_sights whole atoms now ticks store l ++ row_sights whole atoms now ticks store r
      offer_views-append [] r = refl
      offer_views-append (b ∷ l) r =
          ap (λ (xs : List OfferView). offer_views atoms now (term_at whole ticks b) store ++ xs) (offer_views-append l r)
          ∙ sym (append_assoc (offer_views atoms now (term_at whole ticks b) store) (row_sights whole atoms now ticks store l) (row_sights whole atoms now ticks store r))

      seen-beside : (s t : Option Process) → seen_of (beside s t) ≡ seen_of s ++ seen_of t
      seen-beside None t = refl
      seen-beside (Some x) None = sym (append-nil (seen_of (Some x)))
      seen-beside (Some x) (Some y) =
          seen_some (Par x y) ∙ offer_views-Par atoms now x y store
          ∙ ap (λ (l : List OfferView). l ++ offer_views atoms now y store) (sym (seen_some x))
          ∙ ap (λ (l : List OfferView). seen_of (Some x) ++ l) (sym (seen_some y))

      pub seen_all : (frame : Option ℕ) {at : ℕ} {w : Process} {row : List Branch} {t : Option Process} → Reads ticks at w row t → Stands whole at w (table w at frame) → seen_of t ≡ row_sights whole atoms now ticks store row
      seen_all frame ended s = refl
      seen_all frame (waits {at = at} {term = w} entered h) s =
          seen_some (waited (ticks - entered) w)
          ∙ ap (λ (p : Process). offer_views atoms now p store) (sym (term-here at w (table w at frame) entered s))
          ∙ sym (append-nil (offer_views atoms now (term_at whole ticks (branch at entered)) store))
      seen_all frame (passes {at = at} {term = w} at-x x p r) s = seen_all frame r (passes-stands whole frame p s)
      seen_all frame (follows {at = at} {term = w} x at-z z {r = left} p r) s =
          seen_some (Seq left z) ∙ offer_views-Seq atoms now left z store ∙ sym (seen_some left) ∙ seen_all (Some at) r (follows-stands whole frame p s)
      seen_all frame (both {at = at} {x = x} {y = y} {one = one-row} {other = other-row} {s = left} {t = right} r q) s =
          seen-beside left right
          ∙ ap (λ (l : List OfferView). l ++ seen_of right) (seen_all frame r (par-first whole frame at x y s))
          ∙ ap (λ (l : List OfferView). row_sights whole atoms now ticks store one-row ++ l) (seen_all frame q (par-second whole frame at x y s))
          ∙ sym (offer_views-append one-row other-row)
      seen_all frame (until {at = at} {x = x} {y = y} {row = row} {r = r} entered h k) s =
          let last = branch (suc at + size x) entered in
          let behind_it = waited (ticks - entered) y in
          seen_some (Disrupt r behind_it) ∙ offer_views-Disrupt atoms now r behind_it store
          ∙ ap (λ (l : List OfferView). l ++ offer_views atoms now behind_it store) (sym (seen_some r) ∙ seen_all (Some at) k (stands_until whole at x y frame s))
          ∙ ap (λ (p : Process). row_sights whole atoms now ticks store row ++ offer_views atoms now p store) (sym (wait-here at x y frame entered s))
          ∙ ap (λ (l : List OfferView). row_sights whole atoms now ticks store row ++ l) (sym (append-nil (offer_views atoms now (term_at whole ticks last) store)))
          ∙ sym (offer_views-append row (last ∷ []))
