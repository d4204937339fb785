-- The operator at each position of a term, and the parts of the term at this position.
use Rattle.std.proofs.Common.{◌≡◌, ℕ, zero, suc, ◌+◌, ◌-◌, ◌<◌, ◌≤◌, Bool, true, false, nat_lt, List, [], ◌∷◌, ◌++◌, length, slice_get, Option, Some, None, IfSome, refl, ap, sym, subst, ◌∙◌, arith, ◌⊎◌, inl, inr}
use Rattle.std.proofs.lemmas.Bool.{ltb-true, lt-ltb}
use Rattle.tb_process_steps.specs.Processes.{Process, At, Seq, Alt, Star, Par, Disrupt, If, When, Let}
use Rattle.tb_code.specs.Positions.{size, table, positions, node, part, of_two, op_in, op_at, is_wait, root, Begins, IsTwo, IsUntil, IsWait, IsOne, HasParts}
use Rattle.tb_code.specs.declared.node.Node.{Node}
use Rattle.tb_code.specs.declared.node.Op.{Op}
use Rattle.tb_code.specs.declared.node.Op.TheVariants as op
use Rattle.tb_code.proofs.Tables.{length-table}

pub some_size : (x : Process) → 0 < size x
some_size (At atom age) = omega arith
some_size (Seq x y) = omega arith
some_size (Alt x y) = omega arith
some_size (Star x y) = omega arith
some_size (Par x y) = omega arith
some_size (Disrupt x y) = omega arith
some_size (If test x y) = omega arith
some_size (When test x) = omega arith
some_size (Let settings x) = omega arith

get-left : (xs ys : List Node) (i : ℕ) → i < length xs → slice_get (xs ++ ys) i ≡ slice_get xs i
get-left [] ys i h = absurd (omega arith)
get-left (x ∷ xs) ys zero h = refl
get-left (x ∷ xs) ys (suc i) h = get-left xs ys i (omega arith)

get-right : (xs ys : List Node) (i : ℕ) → slice_get (xs ++ ys) (length xs + i) ≡ slice_get ys i
get-right [] ys i = let e : 0 + i ≡ i = omega arith in ap (slice_get ys) e
get-right (x ∷ xs) ys i =
    let e : suc (length xs) + i ≡ suc (length xs + i) = omega arith in
    ap (slice_get (x ∷ (xs ++ ys))) e ∙ get-right xs ys i

-- These nodes are the table of a part of the whole, from the part's first position on.
pub record Stands (whole : Process) (at : ℕ) (x : Process) (nodes : List Node) : Type 0 where
  pub nodes_are : (i : ℕ) → i < size x → slice_get (positions whole) (at + i) ≡ slice_get nodes i
  pub parts_are : (i : ℕ) → i < size x → part whole (at + i) ≡ part x i
  pub within : at + size x ≤ size whole

first_of : (s i : ℕ) (p q : Process) → i < s → of_two s i p q ≡ p
first_of s i p q h = by_cases (nat_lt i s) refl
  where
    by_cases : (b : Bool) → nat_lt i s ≡ b → of_two s i p q ≡ p
    by_cases true e = rw e refl
    by_cases false e = (let t : true ≡ false = sym (lt-ltb i s h) ∙ e in cc)

second_of : (s i : ℕ) (p q : Process) → of_two s (s + i) p q ≡ q
second_of s i p q = by_cases (nat_lt (s + i) s) refl
  where
    by_cases : (b : Bool) → nat_lt (s + i) s ≡ b → of_two s (s + i) p q ≡ q
    by_cases true e = (let h = ltb-true (s + i) s e in absurd (omega arith))
    by_cases false e = rw e refl

module _ (whole : Process) (at : ℕ) where
  -- an operator of two parts
  abbrev IsPair : Process → Process → Process → Type 0
  IsPair w x y = (size w ≡ suc (size x + size y)) × ((i : ℕ) → part w (suc i) ≡ of_two (size x) i (part x i) (part y (i - size x)))

  pub stands_first : (w x y : Process) (n : Node) (xs ys : List Node) → IsPair w x y → length xs ≡ size x → Stands whole at w (n ∷ (xs ++ ys)) → Stands whole (suc at) x xs
  stands_first w x y n xs ys pair lx s =
      let sz = pair.0 in
      record {
        nodes_are = λ i h.
            let e : suc at + i ≡ at + suc i = omega arith in
            ap (slice_get (positions whole)) e ∙ s.nodes_are (suc i) (omega arith) ∙ get-left xs ys i (omega arith);
        parts_are = λ i h.
            let e : suc at + i ≡ at + suc i = omega arith in
            ap (part whole) e ∙ s.parts_are (suc i) (omega arith) ∙ pair.1 i ∙ first_of (size x) i (part x i) (part y (i - size x)) h;
        within = (let k = s.within in omega arith);
      }

  pub stands_second : (w x y : Process) (n : Node) (xs ys : List Node) → IsPair w x y → length xs ≡ size x → Stands whole at w (n ∷ (xs ++ ys)) → Stands whole (suc at + size x) y ys
  stands_second w x y n xs ys pair lx s =
      let sz = pair.0 in
      record {
        nodes_are = λ i h.
            let e : suc at + size x + i ≡ at + suc (length xs + i) = omega arith in
            ap (slice_get (positions whole)) e ∙ s.nodes_are (suc (length xs + i)) (omega arith) ∙ get-right xs ys i;
        parts_are = λ i h.
            let e : suc at + size x + i ≡ at + suc (size x + i) = omega arith in
            let d : size x + i - size x ≡ i = omega arith in
            ap (part whole) e ∙ s.parts_are (suc (size x + i)) (omega arith) ∙ pair.1 (size x + i) ∙ second_of (size x) i (part x (size x + i)) (part y (size x + i - size x)) ∙ ap (part y) d;
        within = (let k = s.within in omega arith);
      }

  pub stands_only : (w x : Process) (n : Node) (xs : List Node) → size w ≡ suc (size x) → ((i : ℕ) → part w (suc i) ≡ part x i) → Stands whole at w (n ∷ xs) → Stands whole (suc at) x xs
  stands_only w x n xs sz parts s =
      record {
        nodes_are = λ i h.
            let e : suc at + i ≡ at + suc i = omega arith in
            ap (slice_get (positions whole)) e ∙ s.nodes_are (suc i) (omega arith);
        parts_are = λ i h.
            let e : suc at + i ≡ at + suc i = omega arith in
            ap (part whole) e ∙ s.parts_are (suc i) (omega arith) ∙ parts i;
        within = (let k = s.within in omega arith);
      }

-- the right side of a disrupt begins after the position at which it waits
pub stands_behind : (whole : Process) (at : ℕ) (x y : Process) (frame : Option ℕ) → Stands whole at (Disrupt x y) (table (Disrupt x y) at frame) → Stands whole (suc (suc at + size x)) y (table y (suc (suc at + size x)) frame)
stands_behind whole at x y frame s =
    let xs = table x (suc at) (Some at) in
    let ys = table y (suc (suc at + size x)) frame in
    let lx = length-table x (suc at) (Some at) in
    record {
      nodes_are = λ i h.
          let e : suc (suc at + size x) + i ≡ at + suc (length xs + suc i) = omega arith in
          ap (slice_get (positions whole)) e ∙ s.nodes_are (suc (length xs + suc i)) (omega arith) ∙ get-right xs (node (op.Waits at) frame ∷ ys) (suc i);
      parts_are = λ i h.
          let e : suc (suc at + size x) + i ≡ at + suc (size x + suc i) = omega arith in
          let d : size x + suc i - suc (size x) ≡ i = omega arith in
          ap (part whole) e ∙ s.parts_are (suc (size x + suc i)) (omega arith) ∙ second_of (size x) (suc i) (part x (size x + suc i)) (part y (size x + suc i - suc (size x))) ∙ ap (part y) d;
      within = (let k = s.within in omega arith);
    }

pub stands_until : (whole : Process) (at : ℕ) (x y : Process) (frame : Option ℕ) → Stands whole at (Disrupt x y) (table (Disrupt x y) at frame) → Stands whole (suc at) x (table x (suc at) (Some at))
stands_until whole at x y frame s =
    let xs = table x (suc at) (Some at) in
    let lx = length-table x (suc at) (Some at) in
    record {
      nodes_are = λ i h.
          let e : suc at + i ≡ at + suc i = omega arith in
          ap (slice_get (positions whole)) e ∙ s.nodes_are (suc i) (omega arith) ∙ get-left xs (node (op.Waits at) frame ∷ table y (suc (suc at + size x)) frame) i (omega arith);
      parts_are = λ i h.
          let e : suc at + i ≡ at + suc i = omega arith in
          ap (part whole) e ∙ s.parts_are (suc i) (omega arith) ∙ first_of (size x) i (part x i) (part y (i - suc (size x))) h;
      within = (let k = s.within in omega arith);
    }

-- the node and the part at the position at which a right side waits
pub waits_there : (whole : Process) (at : ℕ) (x y : Process) (frame : Option ℕ) → Stands whole at (Disrupt x y) (table (Disrupt x y) at frame) → (slice_get (positions whole) (suc at + size x) ≡ Some (node (op.Waits at) frame)) × (part whole (suc at + size x) ≡ y)
waits_there whole at x y frame s =
    let xs = table x (suc at) (Some at) in
    let ys = table y (suc (suc at + size x)) frame in
    let lx = length-table x (suc at) (Some at) in
    let k = some_size y in
    let e : suc at + size x ≡ at + suc (length xs + 0) = omega arith in
    let f : suc at + size x ≡ at + suc (size x + 0) = omega arith in
    let d : size x + 0 - suc (size x) ≡ 0 = omega arith in (
      ap (slice_get (positions whole)) e ∙ s.nodes_are (suc (length xs + 0)) (omega arith) ∙ get-right xs (node (op.Waits at) frame ∷ ys) 0,
      ap (part whole) f ∙ s.parts_are (suc (size x + 0)) (omega arith) ∙ second_of (size x) 0 (part x (size x + 0)) (part y (size x + 0 - suc (size x))) ∙ ap (part y) d,
    )

pub stands_here : (whole : Process) (at : ℕ) (x : Process) (nodes : List Node) → Stands whole at x nodes → (slice_get (positions whole) at ≡ slice_get nodes 0) × (part whole at ≡ x)
stands_here whole at x nodes s =
    let h = some_size x in
    let e : at ≡ at + 0 = omega arith in
    (ap (slice_get (positions whole)) e ∙ s.nodes_are 0 h, ap (part whole) e ∙ s.parts_are 0 h)

-- a part begins at its first position

begins_table : (x : Process) (at : ℕ) (frame : Option ℕ) → is_wait (op_in (slice_get (table x at frame) 0)) ≡ false
begins_table (At atom age) at frame = refl
begins_table (Seq x y) at frame = refl
begins_table (Alt x y) at frame = refl
begins_table (Star x y) at frame = refl
begins_table (Par x y) at frame = refl
begins_table (Disrupt x y) at frame = refl
begins_table (If test x y) at frame = refl
begins_table (When test x) at frame = refl
begins_table (Let settings x) at frame = refl

pub stands_begins : (whole : Process) (at : ℕ) (x : Process) (frame : Option ℕ) → Stands whole at x (table x at frame) → Begins whole at
stands_begins whole at x frame s = ap (λ (o : Option Node). is_wait (op_in o)) (stands_here whole at x (table x at frame) s).0 ∙ begins_table x at frame

pub root_begins : (o : Op) (at : ℕ) → is_wait o ≡ false → root o at ≡ at
root_begins (op.At atom) at h = refl
root_begins (op.Seq right) at h = refl
root_begins (op.Alt right) at h = refl
root_begins (op.Star right) at h = refl
root_begins (op.Par right) at h = refl
root_begins (op.Disrupt waits) at h = refl
root_begins (op.Waits disrupt) at h = (let t : true ≡ false = h in cc)
root_begins (op.If test right) at h = refl
root_begins (op.When test) at h = refl
root_begins (op.Let settings) at h = refl

-- the whole, and the node at each of its positions

pub stands_whole : (whole : Process) → Stands whole 0 whole (table whole 0 None)
unfolding positions
stands_whole whole = record {
  nodes_are = λ i h. (let e : 0 + i ≡ i = omega arith in ap (slice_get (table whole 0 None)) e);
  parts_are = λ i h. (let e : 0 + i ≡ i = omega arith in ap (part whole) e);
  within = omega arith;
}

-- the part at a position, with the frame of that position
pub record PartAt (whole : Process) (at : ℕ) : Type 0 where
  pub x : Process
  pub frame : Option ℕ
  pub before : IfSome frame (λ f. f < at)
  pub stands : Stands whole at x (table x at frame)

-- the right side that waits at a position, with the frame of that position
pub record WaitAt (whole : Process) (at : ℕ) : Type 0 where
  pub disrupt : ℕ
  pub y : Process
  pub frame : Option ℕ
  pub before : IfSome frame (λ f. f < at)
  pub there : slice_get (positions whole) at ≡ Some (node (op.Waits disrupt) frame)
  pub here : part whole at ≡ y
  pub later : disrupt < at
  pub stands : Stands whole (suc at) y (table y (suc at) frame)

-- at a position, a part begins, or a right side waits
abbrev pub PlaceAt : Process → ℕ → Type 0
PlaceAt whole at = PartAt whole at ⊎ WaitAt whole at

before-later : (frame : Option ℕ) (at later : ℕ) → at ≤ later → IfSome frame (λ f. f < at) → IfSome frame (λ f. f < later)
before-later None at later h b = tt
before-later (Some f) at later h b = omega arith

moved : (whole : Process) (at i : ℕ) → suc at + i ≡ at + suc i
moved whole at i = omega arith

split : (i s : ℕ) → (i < s) ⊎ ((j : ℕ) × (i ≡ s + j))
split i s = by_cases (nat_lt i s) refl
  where
    by_cases : (b : Bool) → nat_lt i s ≡ b → (i < s) ⊎ ((j : ℕ) × (i ≡ s + j))
    by_cases true e = inl (ltb-true i s e)
    by_cases false e = (let h : s ≤ i = grind (arith, e) in inr (i - s, omega arith))

in_two : (whole : Process) (at i : ℕ) (x y : Process) → i < size x + size y → ((j : ℕ) → j < size x → PlaceAt whole (suc at + j)) → ((j : ℕ) → j < size y → PlaceAt whole (suc at + size x + j)) → PlaceAt whole (at + suc i)
in_two whole at i x y h one other = by_side (split i (size x))
  where
    by_side : (i < size x) ⊎ ((j : ℕ) × (i ≡ size x + j)) → PlaceAt whole (at + suc i)
    by_side (inl k) = subst (PlaceAt whole) (moved whole at i) (one i k)
    by_side (inr k) =
        let e = k.1 in
        let m : suc at + size x + k.0 ≡ at + suc i = omega arith in
        subst (PlaceAt whole) m (other k.0 (omega arith))

in_until : (whole : Process) (at i : ℕ) (x y : Process) → i < size x + suc (size y) → ((j : ℕ) → j < size x → PlaceAt whole (suc at + j)) → PlaceAt whole (suc at + size x) → ((j : ℕ) → j < size y → PlaceAt whole (suc (suc at + size x) + j)) → PlaceAt whole (at + suc i)
in_until whole at i x y h one wait other = by_side (split i (size x))
  where
    behind_it : (j : ℕ) → i ≡ size x + j → PlaceAt whole (at + suc i)
    behind_it zero e = (let m : suc at + size x ≡ at + suc i = omega arith in subst (PlaceAt whole) m wait)
    behind_it (suc j) e = (let m : suc (suc at + size x) + j ≡ at + suc i = omega arith in subst (PlaceAt whole) m (other j (omega arith)))

    by_side : (i < size x) ⊎ ((j : ℕ) × (i ≡ size x + j)) → PlaceAt whole (at + suc i)
    by_side (inl k) = subst (PlaceAt whole) (moved whole at i) (one i k)
    by_side (inr k) = behind_it k.0 k.1

wait_at : (whole : Process) (at : ℕ) (x y : Process) (frame : Option ℕ) → IfSome frame (λ f. f < at) → Stands whole at (Disrupt x y) (table (Disrupt x y) at frame) → WaitAt whole (suc at + size x)
wait_at whole at x y frame b s =
    let w = waits_there whole at x y frame s in
    record {
      disrupt = at;
      y = y;
      frame = frame;
      before = before-later frame at (suc at + size x) (omega arith) b;
      there = w.0;
      here = w.1;
      later = omega arith;
      stands = stands_behind whole at x y frame s;
    }

pub place_at : (whole : Process) (at : ℕ) (x : Process) (frame : Option ℕ) (i : ℕ) → IfSome frame (λ f. f < at) → Stands whole at x (table x at frame) → i < size x → PlaceAt whole (at + i)
place_at whole at x frame zero b s h = (let e : at ≡ at + 0 = omega arith in subst (PlaceAt whole) e (inl (record { x = x; frame = frame; before = b; stands = s })))
place_at whole at (At atom age) frame (suc i) b s h = absurd (omega arith)
place_at whole at (Seq x y) frame (suc i) b s h =
    in_two whole at i x y (omega arith)
    (λ j k. place_at whole (suc at) x (Some at) j (omega arith) (stands_first whole at (Seq x y) x y _ (table x (suc at) (Some at)) (table y (suc at + size x) frame) (refl, λ n. refl) (length-table x (suc at) (Some at)) s) k)
    (λ j k. place_at whole (suc at + size x) y frame j (before-later frame at (suc at + size x) (omega arith) b) (stands_second whole at (Seq x y) x y _ (table x (suc at) (Some at)) (table y (suc at + size x) frame) (refl, λ n. refl) (length-table x (suc at) (Some at)) s) k)
place_at whole at (Alt x y) frame (suc i) b s h =
    in_two whole at i x y (omega arith)
    (λ j k. place_at whole (suc at) x frame j (before-later frame at (suc at) (omega arith) b) (stands_first whole at (Alt x y) x y _ (table x (suc at) frame) (table y (suc at + size x) frame) (refl, λ n. refl) (length-table x (suc at) frame) s) k)
    (λ j k. place_at whole (suc at + size x) y frame j (before-later frame at (suc at + size x) (omega arith) b) (stands_second whole at (Alt x y) x y _ (table x (suc at) frame) (table y (suc at + size x) frame) (refl, λ n. refl) (length-table x (suc at) frame) s) k)
place_at whole at (Star x y) frame (suc i) b s h =
    in_two whole at i x y (omega arith)
    (λ j k. place_at whole (suc at) x (Some at) j (omega arith) (stands_first whole at (Star x y) x y _ (table x (suc at) (Some at)) (table y (suc at + size x) frame) (refl, λ n. refl) (length-table x (suc at) (Some at)) s) k)
    (λ j k. place_at whole (suc at + size x) y frame j (before-later frame at (suc at + size x) (omega arith) b) (stands_second whole at (Star x y) x y _ (table x (suc at) (Some at)) (table y (suc at + size x) frame) (refl, λ n. refl) (length-table x (suc at) (Some at)) s) k)
place_at whole at (Par x y) frame (suc i) b s h =
    in_two whole at i x y (omega arith)
    (λ j k. place_at whole (suc at) x frame j (before-later frame at (suc at) (omega arith) b) (stands_first whole at (Par x y) x y _ (table x (suc at) frame) (table y (suc at + size x) frame) (refl, λ n. refl) (length-table x (suc at) frame) s) k)
    (λ j k. place_at whole (suc at + size x) y frame j (before-later frame at (suc at + size x) (omega arith) b) (stands_second whole at (Par x y) x y _ (table x (suc at) frame) (table y (suc at + size x) frame) (refl, λ n. refl) (length-table x (suc at) frame) s) k)
place_at whole at (Disrupt x y) frame (suc i) b s h =
    in_until whole at i x y (omega arith)
    (λ j k. place_at whole (suc at) x (Some at) j (omega arith) (stands_until whole at x y frame s) k)
    (inr (wait_at whole at x y frame b s))
    (λ j k. place_at whole (suc (suc at + size x)) y frame j (before-later frame at (suc (suc at + size x)) (omega arith) b) (stands_behind whole at x y frame s) k)
place_at whole at (If test x y) frame (suc i) b s h =
    in_two whole at i x y (omega arith)
    (λ j k. place_at whole (suc at) x frame j (before-later frame at (suc at) (omega arith) b) (stands_first whole at (If test x y) x y _ (table x (suc at) frame) (table y (suc at + size x) frame) (refl, λ n. refl) (length-table x (suc at) frame) s) k)
    (λ j k. place_at whole (suc at + size x) y frame j (before-later frame at (suc at + size x) (omega arith) b) (stands_second whole at (If test x y) x y _ (table x (suc at) frame) (table y (suc at + size x) frame) (refl, λ n. refl) (length-table x (suc at) frame) s) k)
place_at whole at (When test x) frame (suc i) b s h =
    subst (PlaceAt whole) (moved whole at i) (place_at whole (suc at) x frame i (before-later frame at (suc at) (omega arith) b) (stands_only whole at (When test x) x _ (table x (suc at) frame) refl (λ n. refl) s) (omega arith))
place_at whole at (Let settings x) frame (suc i) b s h =
    subst (PlaceAt whole) (moved whole at i) (place_at whole (suc at) x frame i (before-later frame at (suc at) (omega arith) b) (stands_only whole at (Let settings x) x _ (table x (suc at) frame) refl (λ n. refl) s) (omega arith))

pub whole_at : (whole : Process) (at : ℕ) → at < size whole → PlaceAt whole at
whole_at whole at h = (let e : 0 + at ≡ at = omega arith in subst (PlaceAt whole) e (place_at whole 0 whole None at tt (stands_whole whole) h))

-- the parts of the operator at a position

two_parts : (whole : Process) (at : ℕ) (make : Process → Process → Process) (x y : Process) (f g : Option ℕ) → part whole at ≡ make x y → Stands whole (suc at) x (table x (suc at) f) → Stands whole (suc at + size x) y (table y (suc at + size x) g) → IsTwo whole make at (suc at + size x)
two_parts whole at make x y f g e s t =
    let first = (stands_here whole (suc at) x (table x (suc at) f) s).1 in
    let second = (stands_here whole (suc at + size x) y (table y (suc at + size x) g) t).1 in
    let h = some_size x in
    let k = some_size y in
    let w = s.within in
    let v = t.within in
    record {
      here = e ∙ ap (λ (p : Process). make p y) (sym first) ∙ ap (make (part whole (suc at))) (sym second);
      first = omega arith;
      second = omega arith;
      behind = ap (λ (p : Process). suc at + size p) (sym first);
      first_begins = stands_begins whole (suc at) x f s;
      second_begins = stands_begins whole (suc at + size x) y g t;
    }

until_parts : (whole : Process) (at : ℕ) (x y : Process) (f g : Option ℕ) → part whole at ≡ Disrupt x y → Stands whole (suc at) x (table x (suc at) f) → Stands whole (suc (suc at + size x)) y (table y (suc (suc at + size x)) g) → IsUntil whole at (suc at + size x)
until_parts whole at x y f g e s t =
    let first = (stands_here whole (suc at) x (table x (suc at) f) s).1 in
    let second = (stands_here whole (suc (suc at + size x)) y (table y (suc (suc at + size x)) g) t).1 in
    let h = some_size x in
    let k = some_size y in
    let w = s.within in
    let v = t.within in
    record {
      here = e ∙ ap (λ (p : Process). Disrupt p y) (sym first) ∙ ap (Disrupt (part whole (suc at))) (sym second);
      first = omega arith;
      second = omega arith;
      behind = ap (λ (p : Process). suc at + size p) (sym first);
      first_begins = stands_begins whole (suc at) x f s;
      second_begins = stands_begins whole (suc (suc at + size x)) y g t;
    }

wait_parts : (whole : Process) (at : ℕ) (w : WaitAt whole at) → IsWait whole at w.disrupt
wait_parts whole at w =
    let next = (stands_here whole (suc at) w.y (table w.y (suc at) w.frame) w.stands).1 in
    let h = some_size w.y in
    let k = w.stands.within in
    record {
      here = w.here ∙ sym next;
      first = omega arith;
      before = w.later;
      first_begins = stands_begins whole (suc at) w.y w.frame w.stands;
    }

one_part : (whole : Process) (at : ℕ) (make : Process → Process) (x : Process) (f : Option ℕ) → part whole at ≡ make x → Stands whole (suc at) x (table x (suc at) f) → IsOne whole make at
one_part whole at make x f e s =
    let first = (stands_here whole (suc at) x (table x (suc at) f) s).1 in
    let h = some_size x in
    let w = s.within in
    record { here = e ∙ ap make (sym first); first = omega arith; first_begins = stands_begins whole (suc at) x f s }

abbrev FrameAt : Process → ℕ → Option ℕ → Type 0
FrameAt whole at frame = (n : Node) → slice_get (positions whole) at ≡ Some n → (n.frame ≡ frame) × HasParts whole at n.op

known : (whole : Process) (at : ℕ) (frame : Option ℕ) (head n : Node) → slice_get (positions whole) at ≡ Some head → slice_get (positions whole) at ≡ Some n → head.frame ≡ frame → HasParts whole at head.op → (n.frame ≡ frame) × HasParts whole at n.op
known whole at frame head n e k f h =
    let same : head ≡ n = (let t : ◌≡◌ {A = Option Node} (Some head) (Some n) = sym e ∙ k in cc) in
    (ap (λ (m : Node). m.frame) (sym same) ∙ f, subst (λ (m : Node). HasParts whole at m.op) same h)

pub parts_of : (whole : Process) (at : ℕ) (x : Process) (frame : Option ℕ) → Stands whole at x (table x at frame) → FrameAt whole at frame
parts_of whole at (At atom age) frame s n e =
    let h = stands_here whole at (At atom age) (table (At atom age) at frame) s in
    known whole at frame (node (op.At atom) frame) n h.0 e refl (age, h.1)
parts_of whole at (Seq x y) frame s n e =
    let h = stands_here whole at (Seq x y) (table (Seq x y) at frame) s in
    let lx = length-table x (suc at) (Some at) in
    known whole at frame (node (op.Seq (suc at + size x)) frame) n h.0 e refl (two_parts whole at Seq x y (Some at) frame h.1
    (stands_first whole at (Seq x y) x y _ (table x (suc at) (Some at)) (table y (suc at + size x) frame) (refl, λ i. refl) lx s)
    (stands_second whole at (Seq x y) x y _ (table x (suc at) (Some at)) (table y (suc at + size x) frame) (refl, λ i. refl) lx s))
parts_of whole at (Alt x y) frame s n e =
    let h = stands_here whole at (Alt x y) (table (Alt x y) at frame) s in
    let lx = length-table x (suc at) frame in
    known whole at frame (node (op.Alt (suc at + size x)) frame) n h.0 e refl (two_parts whole at Alt x y frame frame h.1
    (stands_first whole at (Alt x y) x y _ (table x (suc at) frame) (table y (suc at + size x) frame) (refl, λ i. refl) lx s)
    (stands_second whole at (Alt x y) x y _ (table x (suc at) frame) (table y (suc at + size x) frame) (refl, λ i. refl) lx s))
parts_of whole at (Star x y) frame s n e =
    let h = stands_here whole at (Star x y) (table (Star x y) at frame) s in
    let lx = length-table x (suc at) (Some at) in
    known whole at frame (node (op.Star (suc at + size x)) frame) n h.0 e refl (two_parts whole at Star x y (Some at) frame h.1
    (stands_first whole at (Star x y) x y _ (table x (suc at) (Some at)) (table y (suc at + size x) frame) (refl, λ i. refl) lx s)
    (stands_second whole at (Star x y) x y _ (table x (suc at) (Some at)) (table y (suc at + size x) frame) (refl, λ i. refl) lx s))
parts_of whole at (Par x y) frame s n e =
    let h = stands_here whole at (Par x y) (table (Par x y) at frame) s in
    let lx = length-table x (suc at) frame in
    known whole at frame (node (op.Par (suc at + size x)) frame) n h.0 e refl (two_parts whole at Par x y frame frame h.1
    (stands_first whole at (Par x y) x y _ (table x (suc at) frame) (table y (suc at + size x) frame) (refl, λ i. refl) lx s)
    (stands_second whole at (Par x y) x y _ (table x (suc at) frame) (table y (suc at + size x) frame) (refl, λ i. refl) lx s))
parts_of whole at (Disrupt x y) frame s n e =
    let h = stands_here whole at (Disrupt x y) (table (Disrupt x y) at frame) s in
    known whole at frame (node (op.Disrupt (suc at + size x)) frame) n h.0 e refl (until_parts whole at x y (Some at) frame h.1 (stands_until whole at x y frame s) (stands_behind whole at x y frame s))
parts_of whole at (If test x y) frame s n e =
    let h = stands_here whole at (If test x y) (table (If test x y) at frame) s in
    let lx = length-table x (suc at) frame in
    known whole at frame (node (op.If test (suc at + size x)) frame) n h.0 e refl (two_parts whole at (If test) x y frame frame h.1
    (stands_first whole at (If test x y) x y _ (table x (suc at) frame) (table y (suc at + size x) frame) (refl, λ i. refl) lx s)
    (stands_second whole at (If test x y) x y _ (table x (suc at) frame) (table y (suc at + size x) frame) (refl, λ i. refl) lx s))
parts_of whole at (When test x) frame s n e =
    let h = stands_here whole at (When test x) (table (When test x) at frame) s in
    known whole at frame (node (op.When test) frame) n h.0 e refl (one_part whole at (When test) x frame h.1 (stands_only whole at (When test x) x _ (table x (suc at) frame) refl (λ i. refl) s))
parts_of whole at (Let settings x) frame s n e =
    let h = stands_here whole at (Let settings x) (table (Let settings x) at frame) s in
    known whole at frame (node (op.Let settings) frame) n h.0 e refl (one_part whole at (Let settings) x frame h.1 (stands_only whole at (Let settings x) x _ (table x (suc at) frame) refl (λ i. refl) s))

place_of : (whole : Process) (at : ℕ) (n : Node) → PlaceAt whole at → slice_get (positions whole) at ≡ Some n → HasParts whole at n.op × IfSome n.frame (λ f. f < at)
place_of whole at n (inl p) k =
    let f = parts_of whole at p.x p.frame p.stands n k in
    (f.1, subst (λ (o : Option ℕ). IfSome o (λ g. g < at)) (sym f.0) p.before)
place_of whole at n (inr w) k =
    let f = known whole at w.frame (node (op.Waits w.disrupt) w.frame) n w.there k refl (wait_parts whole at w) in
    (f.1, subst (λ (o : Option ℕ). IfSome o (λ g. g < at)) (sym f.0) w.before)

-- the operator that stands at a position
pub op_here : (whole : Process) (nodes : List Node) (at : ℕ) (n : Node) → nodes ≡ positions whole → slice_get nodes at ≡ Some n → op_at whole at ≡ n.op
op_here whole nodes at n e k = ap (λ (l : List Node). op_in (slice_get l at)) (sym e) ∙ ap op_in k

-- the part at a position consists of the parts of the operator there
pub has_parts : (whole : Process) (nodes : List Node) (at : ℕ) (n : Node) → nodes ≡ positions whole → at < size whole → slice_get nodes at ≡ Some n → HasParts whole at n.op
has_parts whole nodes at n e h k = (place_of whole at n (whole_at whole at h) (ap (λ (l : List Node). slice_get l at) (sym e) ∙ k)).0

-- the frame of a position, if it has one, is an earlier position
pub frame_before : (whole : Process) (nodes : List Node) (at : ℕ) (n : Node) → nodes ≡ positions whole → at < size whole → slice_get nodes at ≡ Some n → IfSome n.frame (λ f. f < at)
frame_before whole nodes at n e h k = (place_of whole at n (whole_at whole at h) (ap (λ (l : List Node). slice_get l at) (sym e) ∙ k)).1

-- the part at a position, with the frame of that position; its nodes begin at the position's root
pub record RootAt (whole : Process) (at : ℕ) : Type 0 where
  pub x : Process
  pub frame : Option ℕ
  pub here : part whole at ≡ x
  pub stands : Stands whole (root (op_at whole at) at) x (table x (root (op_at whole at) at) frame)

moved_root : (whole : Process) (x : Process) (frame : Option ℕ) (m n : ℕ) → m ≡ n → Stands whole m x (table x m frame) → Stands whole n x (table x n frame)
moved_root whole x frame m n e s = subst (λ (k : ℕ). Stands whole k x (table x k frame)) e s

root_of : (whole : Process) (at : ℕ) → PlaceAt whole at → RootAt whole at
root_of whole at (inl p) = record {
  x = p.x;
  frame = p.frame;
  here = (stands_here whole at p.x (table p.x at p.frame) p.stands).1;
  stands = moved_root whole p.x p.frame at (root (op_at whole at) at) (sym (root_begins (op_at whole at) at (stands_begins whole at p.x p.frame p.stands))) p.stands;
}
root_of whole at (inr w) = record {
  x = w.y;
  frame = w.frame;
  here = w.here;
  stands = moved_root whole w.y w.frame (suc at) (root (op_at whole at) at) (sym (ap (λ (o : Option Node). root (op_in o) at) w.there)) w.stands;
}

pub root_at : (whole : Process) (at : ℕ) → at < size whole → RootAt whole at
root_at whole at h = root_of whole at (whole_at whole at h)

pub length-positions : (whole : Process) → length (positions whole) ≡ size whole
unfolding positions
length-positions whole = length-table whole 0 None
