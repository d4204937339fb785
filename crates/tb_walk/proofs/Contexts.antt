-- A branch in its row: what the whole is read as when the branch goes on, and when it ends.
use Rattle.std.proofs.Common.{◌≡◌, ℕ, suc, ◌+◌, ◌-◌, ◌<◌, ◌≤◌, Bool, true, false, ◌||◌, List, [], ◌∷◌, ◌++◌, map, length, slice_get, Option, Some, None, refl, ap, sym, subst, ◌∙◌, arith, append_assoc, length-append, ◌⊎◌, inl, inr}
use Rattle.std.specs.Prelude.{⊤}
use Rattle.std.proofs.lemmas.List.{append-nil}
use Rattle.tb_func.specs.declared.slot.Slot.{Slot}
use Rattle.tb_process_steps.specs.Processes.{Process, At, Seq, Alt, Star, Par, Disrupt, If, When, Let}
use Rattle.tb_process_steps.specs.Offers.{Offered, offers, followed, left_of, right_of, until as in_wait_of, before, on_the_left, on_the_right, in_wait}
use Rattle.tb_process_steps.specs.Helpers.Runnings.{waited}
use Rattle.tb_process_steps.specs.Walks.{offers_of_term}
use Rattle.tb_process_steps.proofs.SelectedLemmas.{with_left}
use Rattle.tb_code.specs.Positions.{size, table, part, positions, node, op_at, root}
use Rattle.tb_code.specs.declared.node.Node.{Node}
use Rattle.tb_code.specs.declared.node.Op.TheVariants as op
use Rattle.tb_code.proofs.Parts.{Stands, stands_here, stands_until, waits_there}
use Rattle.tb_walk.specs.Helpers.Goings.{counted}
use Rattle.tb_walk.specs.Lefts.{beside}
use Rattle.tb_walk.specs.Helpers.Reads.{branch, any_inside, Passes, behind, Follows, sequence, turn, Reads, ended, waits, passes, follows, both, transfers, stands_until as until}
use Rattle.tb_walk.specs.Helpers.Rests.{bound_by, any_there, rest_behind, frame_above, frame_in, kept_by, without}
use Rattle.tb_walk.specs.declared.branch.Branch.{Branch}
use Rattle.tb_walk.proofs.EndingLemmas.{rest-none, rest-inside, rest-enters, rest-falls}
use Rattle.tb_walk.proofs.Ranges.{InRange, Outside, narrower, outside-append, apart, inside-append, inside-first, inside-left, without-append, without-none, without-all}
use Rattle.tb_walk.proofs.ReadLemmas.{passes-range, passes-stands, follows-range, IsFrame, follows-frame, until-frame, follows-stands, par-first, par-second, in_range, ends_together, EndsTogether, counts, counted-append, length-mapped}

-- the frame of a part reaches over all of it
abbrev pub Covers : Process → Option ℕ → ℕ → Process → Type 0
Covers whole None at w = ⊤
Covers whole (Some n) at w = (n < at) × (at + size w ≤ bound_by (op_at whole n) n)

covers-within : (whole : Process) (frame : Option ℕ) (at : ℕ) (w : Process) (at-x : ℕ) (x : Process) → at ≤ at-x → at-x + size x ≤ at + size w → Covers whole frame at w → Covers whole frame at-x x
covers-within whole None at w at-x x h k c = tt
covers-within whole (Some n) at w at-x x h k c = (let f = c.0 in let g = c.1 in (omega arith, omega arith))

-- the offers of a branch's part among those of the whole
pub record Offering (whole : Process) (ticks : ℕ) (t : Option Process) (pre : List Branch) (plug : Option Process → Option Process) (r : Process) (store : List Slot) : Type 0 where
  pub term : Process
  pub is : t ≡ Some term
  pub first : List Offered
  pub last : List Offered
  pub are : offers term store ≡ first ++ (map (with_left plug) (offers r store) ++ last)
  pub counted_first : length first ≡ counted whole ticks store pre

pub record Grows (ticks at : ℕ) (w : Process) (row : List Branch) (o : Option Process) : Type 0 where
  pub term : Process
  pub is : o ≡ Some term
  pub reads : Reads ticks at w row (Some term)

-- what becomes of the term where the branch has ended
pub data Ends (whole : Process) (ticks at : ℕ) (w : Process) (frame inner : Option ℕ) (stays post : List Branch) (o : Option Process) : Type 0 where
  -- it has ended with it: right sides that waited behind it go, and the frame of the whole decides
  together : stays ≡ [] → o ≡ None → ((l r : List Branch) → Outside at (at + size w) l → Outside at (at + size w) r → rest_behind whole ticks inner l (post ++ r) ≡ rest_behind whole ticks frame l r) → Ends whole ticks at w frame inner stays post o
  -- it goes on
  continues : (rest : List Branch) (term : Process) → ((l r : List Branch) → Outside at (at + size w) l → Outside at (at + size w) r → rest_behind whole ticks inner (l ++ stays) (post ++ r) ≡ rest ++ r) →
      Reads ticks at w (stays ++ rest) (Some term) → o ≡ Some term → Ends whole ticks at w frame inner stays post o

pub record Context (whole : Process) (ticks at : ℕ) (w : Process) (frame : Option ℕ) (t : Option Process) (b : Branch) (pre post : List Branch) : Type 0 where
  pub place : Node
  pub here : slice_get (positions whole) b.position ≡ Some place
  pub term : Process
  pub is : part whole b.position ≡ term
  pub plug : Option Process → Option Process
  -- what stays before it where it goes on
  pub stays : List Branch
  pub entered : b.entered ≤ ticks
  pub keeps : (l : List Branch) → Outside at (at + size w) l → kept_by place.op b.position (l ++ pre) ≡ l ++ stays
  pub grows : (row : List Branch) (r : Process) → Reads ticks (root place.op b.position) term row (Some r) → Grows ticks at w (stays ++ (row ++ post)) (plug (Some r))
  pub ends : Ends whole ticks at w frame place.frame stays post (plug None)
  pub offering : (store : List Slot) → Offering whole ticks t pre plug (waited (ticks - b.entered) term) store

-- offers whose rests are put into another place

map-both : (f g h : Offered → Offered) (xs : List Offered) → ((x : Offered) → g (f x) ≡ h x) → map g (map f xs) ≡ map h xs
map-both f g h [] e = refl
map-both f g h (x ∷ xs) e = ap (λ (y : Offered). y ∷ map g (map f xs)) (e x) ∙ ap (λ (ys : List Offered). h x ∷ ys) (map-both f g h xs e)

map-same : (f g : Offered → Offered) (xs : List Offered) → ((x : Offered) → f x ≡ g x) → map f xs ≡ map g xs
map-same f g [] e = refl
map-same f g (x ∷ xs) e = ap (λ (y : Offered). y ∷ map f xs) (e x) ∙ ap (λ (ys : List Offered). g x ∷ ys) (map-same f g xs e)

map-append : (f : Offered → Offered) (xs ys : List Offered) → map f (xs ++ ys) ≡ map f xs ++ map f ys
map-append f [] ys = refl
map-append f (x ∷ xs) ys = ap (λ (zs : List Offered). f x ∷ zs) (map-append f xs ys)

map-id : (xs : List Offered) → map (with_left (λ o. o)) xs ≡ xs
map-id [] = refl
map-id (x ∷ xs) = ap (λ (ys : List Offered). x ∷ ys) (map-id xs)

three : (g : Offered → Offered) (f h : Offered → Offered) (first xs last : List Offered) → ((x : Offered) → g (f x) ≡ h x) → map g (first ++ (map f xs ++ last)) ≡ map g first ++ (map h xs ++ map g last)
three g f h first xs last e =
    map-append g first (map f xs ++ last)
    ∙ ap (λ (l : List Offered). map g first ++ l) (map-append g (map f xs) last)
    ∙ ap (λ (l : List Offered). map g first ++ (l ++ map g last)) (map-both f g h xs e)

-- a term that is offered with another behind it, or beside it

abbrev behind_it : (Option Process → Option Process) → Process → Option Process → Option Process
behind_it plug z o = Some (followed (plug o) z)

offering-follows : (whole : Process) (ticks : ℕ) (t : Process) (pre : List Branch) (plug : Option Process → Option Process) (z r : Process) (store : List Slot) → Offering whole ticks (Some t) pre plug r store → Offering whole ticks (Some (Seq t z)) pre (behind_it plug z) r store
offering-follows whole ticks t pre plug z r store k = record {
  term = Seq k.term z;
  is = ap (λ (o : Option Process). Some (followed o z)) k.is;
  first = map (before z) k.first;
  last = map (before z) k.last;
  are = ap (map (before z)) k.are ∙ three (before z) (with_left plug) (with_left (behind_it plug z)) k.first (offers r store) k.last (λ x. refl);
  counted_first = length-mapped (before z) k.first ∙ k.counted_first;
}

abbrev left_side : (Option Process → Option Process) → Option Process → Option Process → Option Process
left_side plug t o = beside (plug o) t

abbrev right_side : (Option Process → Option Process) → Option Process → Option Process → Option Process
right_side plug s o = beside s (plug o)

beside-none : (o : Option Process) → beside o None ≡ o
beside-none None = refl
beside-none (Some x) = refl

pub beside-left : (o : Option Process) (y : Process) → Some (left_of o y) ≡ beside o (Some y)
beside-left None y = refl
beside-left (Some x) y = refl

pub beside-right : (x : Process) (o : Option Process) → Some (right_of x o) ≡ beside (Some x) o
beside-right x None = refl
beside-right x (Some y) = refl

left_with : (offered : Offered) (o p : Option Process) → o ≡ p → ◌≡◌ {A = Offered} (record offered { residual = o }) (record offered { residual = p })
left_with offered o p e = ap (λ (q : Option Process). let w : Offered = record offered { residual = q } in w) e

offering-left : (whole : Process) (ticks : ℕ) (pre : List Branch) (plug : Option Process → Option Process) (s t : Option Process) (r : Process) (store : List Slot) → Offering whole ticks s pre plug r store → Offering whole ticks (beside s t) pre (left_side plug t) r store
offering-left whole ticks pre plug s None r store k = record {
  term = k.term;
  is = beside-none s ∙ k.is;
  first = k.first;
  last = k.last;
  are = k.are ∙ ap (λ (l : List Offered). k.first ++ (l ++ k.last)) (map-same (with_left plug) (with_left (left_side plug None)) (offers r store) (λ x. left_with x (plug x.residual) (beside (plug x.residual) None) (sym (beside-none (plug x.residual)))));
  counted_first = k.counted_first;
}
offering-left whole ticks pre plug s (Some y) r store k = record {
  term = Par k.term y;
  is = ap (λ (o : Option Process). beside o (Some y)) k.is;
  first = map (on_the_left y) k.first;
  last = map (on_the_left y) k.last ++ map (on_the_right k.term) (offers y store);
  are =
      ap (λ (l : List Offered). map (on_the_left y) l ++ map (on_the_right k.term) (offers y store)) k.are
      ∙ ap (λ (l : List Offered). l ++ map (on_the_right k.term) (offers y store)) (three (on_the_left y) (with_left plug) (with_left (left_side plug (Some y))) k.first (offers r store) k.last (λ x. left_with x (Some (left_of (plug x.residual) y)) (beside (plug x.residual) (Some y)) (beside-left (plug x.residual) y)))
      ∙ append_assoc (map (on_the_left y) k.first) (map (with_left (left_side plug (Some y))) (offers r store) ++ map (on_the_left y) k.last) (map (on_the_right k.term) (offers y store))
      ∙ ap (λ (l : List Offered). map (on_the_left y) k.first ++ l) (append_assoc (map (with_left (left_side plug (Some y))) (offers r store)) (map (on_the_left y) k.last) (map (on_the_right k.term) (offers y store)));
  counted_first = length-mapped (on_the_left y) k.first ∙ k.counted_first;
}

offering-right : (whole : Process) (ticks : ℕ) (pre one-row : List Branch) (plug : Option Process → Option Process) (s t : Option Process) (r : Process) (store : List Slot) → length (offers_of_term s store) ≡ counted whole ticks store one-row → Offering whole ticks t pre plug r store → Offering whole ticks (beside s t) (one-row ++ pre) (right_side plug s) r store
offering-right whole ticks pre one-row plug None t r store n k = record {
  term = k.term;
  is = k.is;
  first = k.first;
  last = k.last;
  are = k.are;
  counted_first = (let c = counted-append ticks whole store one-row pre in let d = k.counted_first in omega arith);
}
offering-right whole ticks pre one-row plug (Some x) t r store n k = record {
  term = Par x k.term;
  is = ap (beside (Some x)) k.is;
  first = map (on_the_left k.term) (offers x store) ++ map (on_the_right x) k.first;
  last = map (on_the_right x) k.last;
  are =
      ap (λ (l : List Offered). map (on_the_left k.term) (offers x store) ++ map (on_the_right x) l) k.are
      ∙ ap (λ (l : List Offered). map (on_the_left k.term) (offers x store) ++ l) (three (on_the_right x) (with_left plug) (with_left (right_side plug (Some x))) k.first (offers r store) k.last (λ o. left_with o (Some (right_of x (plug o.residual))) (beside (Some x) (plug o.residual)) (beside-right x (plug o.residual))))
      ∙ sym (append_assoc (map (on_the_left k.term) (offers x store)) (map (on_the_right x) k.first) (map (with_left (right_side plug (Some x))) (offers r store) ++ map (on_the_right x) k.last));
  counted_first =
      (let c = counted-append ticks whole store one-row pre in
      let d = k.counted_first in
      let e = length-append (map (on_the_left k.term) (offers x store)) (map (on_the_right x) k.first) in
      let f = length-mapped (on_the_left k.term) (offers x store) in
      let g = length-mapped (on_the_right x) k.first in
      omega arith);
}

-- a left side, with its right side in wait
abbrev until_it : (Option Process → Option Process) → Process → Option Process → Option Process
until_it plug y o = in_wait_of y (plug o)

offering-until : (whole : Process) (ticks : ℕ) (t : Process) (pre : List Branch) (plug : Option Process → Option Process) (y r : Process) (store : List Slot) → Offering whole ticks (Some t) pre plug r store → Offering whole ticks (Some (Disrupt t y)) pre (until_it plug y) r store
offering-until whole ticks t pre plug y r store k = record {
  term = Disrupt k.term y;
  is = ap (in_wait_of y) k.is;
  first = map (in_wait y) k.first;
  last = map (in_wait y) k.last ++ offers y store;
  are =
      ap (λ (l : List Offered). map (in_wait y) l ++ offers y store) k.are
      ∙ ap (λ (l : List Offered). l ++ offers y store) (three (in_wait y) (with_left plug) (with_left (until_it plug y)) k.first (offers r store) k.last (λ x. refl))
      ∙ append_assoc (map (in_wait y) k.first) (map (with_left (until_it plug y)) (offers r store) ++ map (in_wait y) k.last) (offers y store)
      ∙ ap (λ (l : List Offered). map (in_wait y) k.first ++ l) (append_assoc (map (with_left (until_it plug y)) (offers r store)) (map (in_wait y) k.last) (offers y store));
  counted_first = length-mapped (in_wait y) k.first ∙ k.counted_first;
}

-- the branches before a branch and behind it, in a row of two

abbrev SplitAt : List Branch → List Branch → List Branch → Branch → List Branch → Type 0
SplitAt one-row other-row pre b post =
    ((mid : List Branch) × ((one-row ≡ pre ++ (b ∷ mid)) × (post ≡ mid ++ other-row)))
    ⊎ ((mid : List Branch) × ((pre ≡ one-row ++ mid) × (other-row ≡ mid ++ (b ∷ post))))

longer : (p b : Branch) (one-row other-row pre post : List Branch) → SplitAt one-row other-row pre b post → SplitAt (p ∷ one-row) other-row (p ∷ pre) b post
longer p b one-row other-row pre post (inl h) = inl (h.0, (ap (λ (l : List Branch). p ∷ l) h.1.0, h.1.1))
longer p b one-row other-row pre post (inr h) = inr (h.0, (ap (λ (l : List Branch). p ∷ l) h.1.0, h.1.1))

split_at : (one-row other-row pre : List Branch) (b : Branch) (post : List Branch) → one-row ++ other-row ≡ pre ++ (b ∷ post) → SplitAt one-row other-row pre b post
split_at [] other-row pre b post e = inr (pre, (refl, e))
split_at (p ∷ one-row) other-row [] b post e = (let same : p ≡ b = cc in let rest : one-row ++ other-row ≡ post = cc in inl (one-row, (ap (λ (q : Branch). q ∷ one-row) same, sym rest)))
split_at (p ∷ one-row) other-row (q ∷ pre) b post e =
    let same : p ≡ q = cc in
    let rest : one-row ++ other-row ≡ pre ++ (b ∷ post) = cc in
    subst (λ (a : Branch). SplitAt (p ∷ one-row) other-row (a ∷ pre) b post) same (longer p b one-row other-row pre post (split_at one-row other-row pre b post rest))

not_empty : {A : Type 0} (pre : List Branch) (b : Branch) (post : List Branch) → [] ≡ pre ++ (b ∷ post) → A
not_empty [] b post e = cc
not_empty (p ∷ pre) b post e = cc

alone : (a b : Branch) (pre post : List Branch) → a ∷ [] ≡ pre ++ (b ∷ post) → (pre ≡ []) × ((a ≡ b) × (post ≡ []))
alone a b [] post e = (let f : a ≡ b = cc in let g : post ≡ [] = cc in (refl, (f, g)))
alone a b (p ∷ pre) post e = (let f : [] ≡ pre ++ (b ∷ post) = cc in not_empty pre b post f)

some_beside : (x : Process) (o : Option Process) → (u : Process) × (beside (Some x) o ≡ Some u)
some_beside x None = (x, refl)
some_beside x (Some y) = (Par x y, refl)

beside_some : (o : Option Process) (x : Process) → (u : Process) × (beside o (Some x) ≡ Some u)
beside_some None x = (x, refl)
beside_some (Some y) x = (Par y x, refl)

-- what stands behind where a branch has ended

or-true : (a b : Bool) → b ≡ true → (a || b) ≡ true
or-true true b e = refl
or-true false b e = e

both-false : (a b : Bool) → a ≡ false → b ≡ false → (a || b) ≡ false
both-false a b e f = rw (e, f) refl

-- what stands at the first position of a part
record Head (whole : Process) (at : ℕ) (frame : Option ℕ) : Type 0 where
  head : Node
  there : slice_get (positions whole) at ≡ Some head
  frame_is : head.frame ≡ frame
  begins : root head.op at ≡ at
  keeps : (row : List Branch) → kept_by head.op at row ≡ row

head_of : (whole : Process) (at : ℕ) (w : Process) (frame : Option ℕ) → Stands whole at w (table w at frame) → Head whole at frame
head_of whole at (At atom age) frame s = record { head = node (op.At atom) frame; there = (stands_here whole at (At atom age) (table (At atom age) at frame) s).0; frame_is = refl; begins = refl; keeps = λ row. refl }
head_of whole at (Seq x y) frame s = record { head = node (op.Seq (suc at + size x)) frame; there = (stands_here whole at (Seq x y) (table (Seq x y) at frame) s).0; frame_is = refl; begins = refl; keeps = λ row. refl }
head_of whole at (Alt x y) frame s = record { head = node (op.Alt (suc at + size x)) frame; there = (stands_here whole at (Alt x y) (table (Alt x y) at frame) s).0; frame_is = refl; begins = refl; keeps = λ row. refl }
head_of whole at (Star x y) frame s = record { head = node (op.Star (suc at + size x)) frame; there = (stands_here whole at (Star x y) (table (Star x y) at frame) s).0; frame_is = refl; begins = refl; keeps = λ row. refl }
head_of whole at (Par x y) frame s = record { head = node (op.Par (suc at + size x)) frame; there = (stands_here whole at (Par x y) (table (Par x y) at frame) s).0; frame_is = refl; begins = refl; keeps = λ row. refl }
head_of whole at (Disrupt x y) frame s = record { head = node (op.Disrupt (suc at + size x)) frame; there = (stands_here whole at (Disrupt x y) (table (Disrupt x y) at frame) s).0; frame_is = refl; begins = refl; keeps = λ row. refl }
head_of whole at (If test x y) frame s = record { head = node (op.If test (suc at + size x)) frame; there = (stands_here whole at (If test x y) (table (If test x y) at frame) s).0; frame_is = refl; begins = refl; keeps = λ row. refl }
head_of whole at (When test x) frame s = record { head = node (op.When test) frame; there = (stands_here whole at (When test x) (table (When test x) at frame) s).0; frame_is = refl; begins = refl; keeps = λ row. refl }
head_of whole at (Let settings x) frame s = record { head = node (op.Let settings) frame; there = (stands_here whole at (Let settings x) (table (Let settings x) at frame) s).0; frame_is = refl; begins = refl; keeps = λ row. refl }

module _ (whole : Process) (ticks : ℕ) where
  -- a part that has been entered

  waiting : (at : ℕ) (w : Process) (frame : Option ℕ) (entered : ℕ) → entered ≤ ticks → Stands whole at w (table w at frame) → Context whole ticks at w frame (Some (waited (ticks - entered) w)) (branch at entered) [] []
  waiting at w frame entered h s =
      let k = head_of whole at w frame s in
      record {
        place = k.head;
        here = k.there;
        term = w;
        is = (stands_here whole at w (table w at frame) s).1;
        plug = λ o. o;
        stays = [];
        entered = h;
        keeps = λ l o. k.keeps (l ++ []);
        grows = λ row r g. record { term = r; is = refl; reads = subst (λ (l : List Branch). Reads ticks at w l (Some r)) (sym (append-nil row)) (subst (λ (n : ℕ). Reads ticks n w row (Some r)) k.begins g) };
        ends = together refl refl (λ l r f g. ap (λ (i : Option ℕ). rest_behind whole ticks i l r) k.frame_is);
        offering = λ store. record {
          term = waited (ticks - entered) w;
          is = refl;
          first = [];
          last = [];
          are = sym (map-id (offers (waited (ticks - entered) w) store)) ∙ sym (append-nil (map (with_left (λ o. o)) (offers (waited (ticks - entered) w) store)));
          counted_first = refl;
        };
      }

  -- a part that is all that is left

  ends-passes : {at : ℕ} {w : Process} {at-x : ℕ} {x : Process} (frame inner : Option ℕ) (stays post : List Branch) (o : Option Process) → Passes at w at-x x → Ends whole ticks at-x x frame inner stays post o → Ends whole ticks at w frame inner stays post o
  ends-passes {at = at} {w = w} {at-x = at-x} {x = x} frame inner stays post o p (together e f g) =
      let range = passes-range p in
      let lower = range.0 in
      let upper = range.1 in
      together e f (λ l r ol or. g l r (narrower at (at + size w) at-x (at-x + size x) l (omega arith) (omega arith) ol) (narrower at (at + size w) at-x (at-x + size x) r (omega arith) (omega arith) or))
  ends-passes {at = at} {w = w} {at-x = at-x} {x = x} frame inner stays post o p (continues rest term f k e) =
      let range = passes-range p in
      let lower = range.0 in
      let upper = range.1 in
      continues rest term (λ l r ol or. f l r (narrower at (at + size w) at-x (at-x + size x) l (omega arith) (omega arith) ol) (narrower at (at + size w) at-x (at-x + size x) r (omega arith) (omega arith) or)) (passes at-x x p k) e

  context-passes : {at : ℕ} {w : Process} {at-x : ℕ} {x : Process} (frame : Option ℕ) (r : Process) (b : Branch) (pre post : List Branch) → Passes at w at-x x → Context whole ticks at-x x frame (Some r) b pre post → Context whole ticks at w frame (Some r) b pre post
  context-passes {at = at} {w = w} {at-x = at-x} {x = x} frame r b pre post p k =
      let range = passes-range p in
      let lower = range.0 in
      let upper = range.1 in
      record {
        place = k.place;
        here = k.here;
        term = k.term;
        is = k.is;
        plug = k.plug;
        stays = k.stays;
        entered = k.entered;
        keeps = λ l o. k.keeps l (narrower at (at + size w) at-x (at-x + size x) l (omega arith) (omega arith) o);
        grows = λ row q h. (let g = k.grows row q h in record { term = g.term; is = g.is; reads = passes at-x x p g.reads });
        ends = ends-passes frame k.place.frame k.stays post (k.plug None) p k.ends;
        offering = k.offering;
      }

  -- a part behind which something follows

  pub entered-next : {at : ℕ} {w x : Process} {at-z : ℕ} {z : Process} → Follows at w x at-z z → Reads ticks at w (branch at-z ticks ∷ []) (Some z)
  entered-next (sequence {at = at} {x = x} {y = y}) =
      let e : ticks - ticks ≡ 0 = omega arith in
      passes (suc at + size x) y behind (subst (λ (n : ℕ). Reads ticks (suc at + size x) y (branch (suc at + size x) ticks ∷ []) (Some (waited n y))) e (waits ticks (omega arith)))
  entered-next (turn {at = at} {x = x} {y = y}) =
      let e : ticks - ticks ≡ 0 = omega arith in
      subst (λ (n : ℕ). Reads ticks at (Star x y) (branch at ticks ∷ []) (Some (waited n (Star x y)))) e (waits ticks (omega arith))

  enters : (at : ℕ) (w x : Process) (at-z : ℕ) (z : Process) (l r : List Branch) → Follows at w x at-z z → IsFrame whole at (suc at + size x) at-z false → Outside at (at + size w) l → Outside at (at + size w) r → rest_behind whole ticks (Some at) l r ≡ branch at-z ticks ∷ r
  enters at w x at-z z l r p is ol or =
      let upper = follows-range p in
      let before_it : any_inside at (suc at + size x) l ≡ false = ol at (suc at + size x) (omega arith) (omega arith) in
      let behind_it : any_inside at (suc at + size x) r ≡ false = or at (suc at + size x) (omega arith) (omega arith) in
      let none : any_there whole at l r ≡ false = ap (λ (n : ℕ). any_inside at n l || any_inside at n r) is.ends ∙ both-false (any_inside at (suc at + size x) l) (any_inside at (suc at + size x) r) before_it behind_it in
      rest-enters whole ticks at l r none is.goes ∙ ap (λ (n : ℕ). branch n ticks ∷ r) is.enters

  ends-follows : {at : ℕ} {w x : Process} {at-z : ℕ} {z : Process} (frame inner : Option ℕ) (stays post : List Branch) (o : Option Process) → Follows at w x at-z z → IsFrame whole at (suc at + size x) at-z false → Ends whole ticks (suc at) x (Some at) inner stays post o → Ends whole ticks at w frame inner stays post (Some (followed o z))
  ends-follows {at = at} {w = w} {x = x} {at-z = at-z} {z = z} frame inner stays post o p is (together e f g) =
      let upper = follows-range p in
      continues (branch at-z ticks ∷ []) z
      (λ l r ol or. ap (λ (m : List Branch). rest_behind whole ticks inner (l ++ m) (post ++ r)) e ∙ ap (λ (m : List Branch). rest_behind whole ticks inner m (post ++ r)) (append-nil l)
      ∙ g l r (narrower at (at + size w) (suc at) (suc at + size x) l (omega arith) upper ol) (narrower at (at + size w) (suc at) (suc at + size x) r (omega arith) upper or)
      ∙ enters at w x at-z z l r p is ol or)
      (rw e (entered-next p))
      (ap (λ (q : Option Process). Some (followed q z)) f)
  ends-follows {at = at} {w = w} {x = x} {at-z = at-z} {z = z} frame inner stays post o p is (continues rest term f k e) =
      let upper = follows-range p in
      continues rest (Seq term z) (λ l r ol or. f l r (narrower at (at + size w) (suc at) (suc at + size x) l (omega arith) upper ol) (narrower at (at + size w) (suc at) (suc at + size x) r (omega arith) upper or))
      (follows x at-z z p k) (ap (λ (q : Option Process). Some (followed q z)) e)

  context-follows : {at : ℕ} {w x : Process} {at-z : ℕ} {z : Process} (frame : Option ℕ) (r : Process) (b : Branch) (pre post : List Branch) → Follows at w x at-z z → IsFrame whole at (suc at + size x) at-z false → Context whole ticks (suc at) x (Some at) (Some r) b pre post → Context whole ticks at w frame (Some (Seq r z)) b pre post
  context-follows {at = at} {w = w} {x = x} {at-z = at-z} {z = z} frame r b pre post p is k =
      let upper = follows-range p in
      record {
        place = k.place;
        here = k.here;
        term = k.term;
        is = k.is;
        plug = behind_it k.plug z;
        stays = k.stays;
        entered = k.entered;
        keeps = λ l o. k.keeps l (narrower at (at + size w) (suc at) (suc at + size x) l (omega arith) upper o);
        grows = λ row q h. (let g = k.grows row q h in record { term = Seq g.term z; is = ap (λ (o : Option Process). Some (followed o z)) g.is; reads = follows x at-z z p g.reads });
        ends = ends-follows frame k.place.frame k.stays post (k.plug None) p is k.ends;
        offering = λ store. offering-follows whole ticks r pre k.plug z (waited (ticks - b.entered) k.term) store (k.offering store);
      }

  -- a merge that has been parted

  stays_behind : (frame : Option ℕ) (at : ℕ) (w : Process) (pre : List Branch) (b : Branch) (rest more : List Branch) → Covers whole frame at w → at < b.position → b.position < at + size w → rest_behind whole ticks frame pre ((b ∷ rest) ++ more) ≡ (b ∷ rest) ++ more
  stays_behind None at w pre b rest more c h k = rest-none whole ticks pre ((b ∷ rest) ++ more)
  stays_behind (Some n) at w pre b rest more c h k =
      let f = c.0 in
      let g = c.1 in
      let bound = bound_by (op_at whole n) n in
      let i : any_inside n (bound_by (op_at whole n) n) ((b ∷ rest) ++ more) ≡ true = inside-left n (bound_by (op_at whole n) n) (b ∷ rest) more (inside-first n (bound_by (op_at whole n) n) b rest (omega arith) (omega arith)) in
      rest-inside whole ticks n pre ((b ∷ rest) ++ more) (or-true (any_inside n (bound_by (op_at whole n) n) pre) (any_inside n (bound_by (op_at whole n) n) ((b ∷ rest) ++ more)) i)

  or-first : (a b : Bool) → a ≡ true → (a || b) ≡ true
  or-first a b e = rw e refl

  stays_before : (frame : Option ℕ) (at : ℕ) (w : Process) (l : List Branch) (b : Branch) (rest more post : List Branch) → Covers whole frame at w → at < b.position → b.position < at + size w → rest_behind whole ticks frame (l ++ ((b ∷ rest) ++ more)) post ≡ post
  stays_before None at w l b rest more post c h k = rest-none whole ticks (l ++ ((b ∷ rest) ++ more)) post
  stays_before (Some n) at w l b rest more post c h k =
      let f = c.0 in
      let g = c.1 in
      let bound = bound_by (op_at whole n) n in
      let i : any_inside n (bound_by (op_at whole n) n) ((b ∷ rest) ++ more) ≡ true = inside-left n (bound_by (op_at whole n) n) (b ∷ rest) more (inside-first n (bound_by (op_at whole n) n) b rest (omega arith) (omega arith)) in
      let j : any_inside n (bound_by (op_at whole n) n) (l ++ ((b ∷ rest) ++ more)) ≡ true = inside-append n (bound_by (op_at whole n) n) l ((b ∷ rest) ++ more) ∙ or-true (any_inside n (bound_by (op_at whole n) n) l) (any_inside n (bound_by (op_at whole n) n) ((b ∷ rest) ++ more)) i in
      rest-inside whole ticks n (l ++ ((b ∷ rest) ++ more)) post (or-first (any_inside n (bound_by (op_at whole n) n) (l ++ ((b ∷ rest) ++ more))) (any_inside n (bound_by (op_at whole n) n) post) j)

  module _ (at : ℕ) (x y : Process) (frame : Option ℕ) (covers : Covers whole frame at (Par x y)) where
    ends-left : (inner : Option ℕ) (stays mid others : List Branch) (o t : Option Process) → Reads ticks (suc at + size x) y others t → Ends whole ticks (suc at) x frame inner stays mid o → Ends whole ticks at (Par x y) frame inner stays (mid ++ others) (beside o t)
    ends-left inner stays mid others o t reads (together e f g) = by_end (ends_together ticks reads)
      where
        others-out : Outside (suc at) (suc at + size x) others
        others-out = apart (suc at + size x) (suc at + size x + size y) (suc at) (suc at + size x) others (inr (omega arith)) (in_range ticks reads)

        on : (l r : List Branch) → Outside at (at + size (Par x y)) l → Outside at (at + size (Par x y)) r → rest_behind whole ticks inner l ((mid ++ others) ++ r) ≡ rest_behind whole ticks frame l (others ++ r)
        on l r ol or =
            ap (rest_behind whole ticks inner l) (append_assoc mid others r)
            ∙ g l (others ++ r) (narrower at (at + size (Par x y)) (suc at) (suc at + size x) l (omega arith) (omega arith) ol) (outside-append (suc at) (suc at + size x) others r others-out (narrower at (at + size (Par x y)) (suc at) (suc at + size x) r (omega arith) (omega arith) or))

        by_end : EndsTogether ticks others t → Ends whole ticks at (Par x y) frame inner stays (mid ++ others) (beside o t)
        by_end (inl k) = together e (rw (f, k.1) refl) (λ l r ol or. on l r ol or ∙ ap (λ (m : List Branch). rest_behind whole ticks frame l (m ++ r)) k.0)
        by_end (inr k) =
            let range = subst (InRange (suc at + size x) (suc at + size x + size y)) k.1.1.0 (in_range ticks reads) in
            let low = range.0.0 in
            let high = range.0.1 in
            continues others k.1.1.1.0
            (λ l r ol or. ap (λ (m : List Branch). rest_behind whole ticks inner (l ++ m) ((mid ++ others) ++ r)) e ∙ ap (λ (m : List Branch). rest_behind whole ticks inner m ((mid ++ others) ++ r)) (append-nil l)
            ∙ on l r ol or ∙ ap (λ (m : List Branch). rest_behind whole ticks frame l (m ++ r)) k.1.1.0 ∙ stays_behind frame at (Par x y) l k.0 k.1.0 r covers (omega arith) (omega arith) ∙ ap (λ (m : List Branch). m ++ r) (sym k.1.1.0))
            (rw e (subst (λ (q : Option Process). Reads ticks at (Par x y) others q) k.1.1.1.1 (both ended reads)))
            (ap (λ (q : Option Process). beside q t) f ∙ k.1.1.1.1)
    ends-left inner stays mid others o t reads (continues rest term f k e) =
        let other-range = in_range ticks reads in
        let u = some_beside term t in
        continues (rest ++ others) u.0
        (λ l r ol or. ap (rest_behind whole ticks inner (l ++ stays)) (append_assoc mid others r)
        ∙ f l (others ++ r) (narrower at (at + size (Par x y)) (suc at) (suc at + size x) l (omega arith) (omega arith) ol)
        (outside-append (suc at) (suc at + size x) others r (apart (suc at + size x) (suc at + size x + size y) (suc at) (suc at + size x) others (inr (omega arith)) other-range) (narrower at (at + size (Par x y)) (suc at) (suc at + size x) r (omega arith) (omega arith) or))
        ∙ sym (append_assoc rest others r))
        (subst (λ (l : List Branch). Reads ticks at (Par x y) l (Some u.0)) (append_assoc stays rest others) (subst (λ (q : Option Process). Reads ticks at (Par x y) ((stays ++ rest) ++ others) q) u.1 (both k reads)))
        (ap (λ (q : Option Process). beside q t) e ∙ u.1)

    ends-right : (inner : Option ℕ) (ones stays post : List Branch) (s o : Option Process) → Reads ticks (suc at) x ones s → Ends whole ticks (suc at + size x) y frame inner stays post o → Ends whole ticks at (Par x y) frame inner (ones ++ stays) post (beside s o)
    ends-right inner ones stays post s o reads (together e f g) = by_end (ends_together ticks reads)
      where
        on : (l r : List Branch) → Outside at (at + size (Par x y)) l → Outside at (at + size (Par x y)) r → rest_behind whole ticks inner (l ++ ones) (post ++ r) ≡ rest_behind whole ticks frame (l ++ ones) r
        on l r ol or =
            g (l ++ ones) r
            (outside-append (suc at + size x) (suc at + size x + size y) l ones (narrower at (at + size (Par x y)) (suc at + size x) (suc at + size x + size y) l (omega arith) (omega arith) ol) (apart (suc at) (suc at + size x) (suc at + size x) (suc at + size x + size y) ones (inl (omega arith)) (in_range ticks reads)))
            (narrower at (at + size (Par x y)) (suc at + size x) (suc at + size x + size y) r (omega arith) (omega arith) or)

        by_end : EndsTogether ticks ones s → Ends whole ticks at (Par x y) frame inner (ones ++ stays) post (beside s o)
        by_end (inl k) = together (rw (e, k.0) refl) (rw (f, k.1) refl) (λ l r ol or.
            ap (λ (m : List Branch). rest_behind whole ticks inner m (post ++ r)) (sym (append-nil l) ∙ ap (λ (m : List Branch). l ++ m) (sym k.0)) ∙ on l r ol or ∙ ap (λ (m : List Branch). rest_behind whole ticks frame m r) (ap (λ (m : List Branch). l ++ m) k.0 ∙ append-nil l))
        by_end (inr k) =
            let range = subst (InRange (suc at) (suc at + size x)) k.1.1.0 (in_range ticks reads) in
            let low = range.0.0 in
            let high = range.0.1 in
            let u = k.1.1.1 in
            let all : ones ++ stays ≡ ones = ap (λ (m : List Branch). ones ++ m) e ∙ append-nil ones in
            continues [] u.0
            (λ l r ol or. ap (λ (m : List Branch). rest_behind whole ticks inner (l ++ m) (post ++ r)) all ∙ on l r ol or
            ∙ ap (λ (m : List Branch). rest_behind whole ticks frame (l ++ m) r) (k.1.1.0 ∙ sym (append-nil (k.0 ∷ k.1.0)))
            ∙ stays_before frame at (Par x y) l k.0 k.1.0 [] r covers (omega arith) (omega arith))
            (rw (all) (subst (λ (q : Option Process). Reads ticks at (Par x y) (ones ++ []) q) (beside-none s ∙ u.1) (both reads ended)))
            (ap (beside s) f ∙ beside-none s ∙ u.1)
    ends-right inner ones stays post s o reads (continues rest term f k e) =
        let one-range = in_range ticks reads in
        let u = beside_some s term in
        continues rest u.0
        (λ l r ol or. ap (λ (q : List Branch). rest_behind whole ticks inner q (post ++ r)) (sym (append_assoc l ones stays))
        ∙ f (l ++ ones) r
        (outside-append (suc at + size x) (suc at + size x + size y) l ones (narrower at (at + size (Par x y)) (suc at + size x) (suc at + size x + size y) l (omega arith) (omega arith) ol) (apart (suc at) (suc at + size x) (suc at + size x) (suc at + size x + size y) ones (inl (omega arith)) one-range))
        (narrower at (at + size (Par x y)) (suc at + size x) (suc at + size x + size y) r (omega arith) (omega arith) or))
        (subst (λ (l : List Branch). Reads ticks at (Par x y) l (Some u.0)) (sym (append_assoc ones stays rest)) (subst (λ (q : Option Process). Reads ticks at (Par x y) (ones ++ (stays ++ rest)) q) u.1 (both reads k)))
        (ap (beside s) e ∙ u.1)

    context-left : (s t : Option Process) (b : Branch) (pre mid others : List Branch) → Reads ticks (suc at + size x) y others t → Context whole ticks (suc at) x frame s b pre mid → Context whole ticks at (Par x y) frame (beside s t) b pre (mid ++ others)
    context-left s t b pre mid others reads k = record {
      place = k.place;
      here = k.here;
      term = k.term;
      is = k.is;
      plug = left_side k.plug t;
      stays = k.stays;
      entered = k.entered;
      keeps = λ l o. k.keeps l (narrower at (at + size (Par x y)) (suc at) (suc at + size x) l (omega arith) (omega arith) o);
      grows = λ row r h.
          (let g = k.grows row r h in
          let u = some_beside g.term t in
          let rows : (k.stays ++ (row ++ mid)) ++ others ≡ k.stays ++ (row ++ (mid ++ others)) = append_assoc k.stays (row ++ mid) others ∙ ap (λ (l : List Branch). k.stays ++ l) (append_assoc row mid others) in
          record {
            term = u.0;
            is = ap (λ (q : Option Process). beside q t) g.is ∙ u.1;
            reads = subst (λ (l : List Branch). Reads ticks at (Par x y) l (Some u.0)) rows (subst (λ (q : Option Process). Reads ticks at (Par x y) ((k.stays ++ (row ++ mid)) ++ others) q) u.1 (both g.reads reads));
          });
      ends = ends-left k.place.frame k.stays mid others (k.plug None) t reads k.ends;
      offering = λ store. offering-left whole ticks pre k.plug s t (waited (ticks - b.entered) k.term) store (k.offering store);
    }

    context-right : (s t : Option Process) (b : Branch) (ones mid post : List Branch) → Stands whole (suc at) x (table x (suc at) frame) → Reads ticks (suc at) x ones s → Context whole ticks (suc at + size x) y frame t b mid post → Context whole ticks at (Par x y) frame (beside s t) b (ones ++ mid) post
    context-right s t b ones mid post stands reads k = record {
      place = k.place;
      here = k.here;
      term = k.term;
      is = k.is;
      plug = right_side k.plug s;
      stays = ones ++ k.stays;
      entered = k.entered;
      keeps = λ l o.
          ap (kept_by k.place.op b.position) (sym (append_assoc l ones mid))
          ∙ k.keeps (l ++ ones) (outside-append (suc at + size x) (suc at + size x + size y) l ones (narrower at (at + size (Par x y)) (suc at + size x) (suc at + size x + size y) l (omega arith) (omega arith) o) (apart (suc at) (suc at + size x) (suc at + size x) (suc at + size x + size y) ones (inl (omega arith)) (in_range ticks reads)))
          ∙ append_assoc l ones k.stays;
      grows = λ row r h.
          (let g = k.grows row r h in
          let u = beside_some s g.term in
          record {
            term = u.0;
            is = ap (beside s) g.is ∙ u.1;
            reads = subst (λ (l : List Branch). Reads ticks at (Par x y) l (Some u.0)) (sym (append_assoc ones k.stays (row ++ post))) (subst (λ (q : Option Process). Reads ticks at (Par x y) (ones ++ (k.stays ++ (row ++ post))) q) u.1 (both reads g.reads));
          });
      ends = ends-right k.place.frame ones k.stays post s (k.plug None) reads k.ends;
      offering = λ store. offering-right whole ticks mid ones k.plug s t (waited (ticks - b.entered) k.term) store (counts ticks whole store frame reads stands) (k.offering store);
    }

  -- a disrupt whose left side has begun

  module _ (at : ℕ) (x y : Process) (frame : Option ℕ) (stands : Stands whole at (Disrupt x y) (table (Disrupt x y) at frame)) where
    abbrev waits_at : ℕ
    waits_at = suc at + size x

    above : frame_above whole (Some at) ≡ frame
    above = ap frame_in (stands_here whole at (Disrupt x y) (table (Disrupt x y) at frame) stands).0

    last-out : (entered : ℕ) → Outside (suc at) (suc at + size x) (branch waits_at entered ∷ [])
    last-out entered = apart (suc at + size x) (suc (suc at + size x)) (suc at) (suc at + size x) (branch waits_at entered ∷ []) (inr (omega arith)) ((omega arith, omega arith), tt)

    -- the right side goes, where all of the left side has ended
    goes_too : (entered : ℕ) (l r : List Branch) → Outside at (at + size (Disrupt x y)) l → Outside at (at + size (Disrupt x y)) r → rest_behind whole ticks (Some at) l (branch waits_at entered ∷ r) ≡ rest_behind whole ticks frame l r
    goes_too entered l r ol or =
        let before_it : any_inside at (suc at + size x) l ≡ false = ol at (suc at + size x) (omega arith) (omega arith) in
        let behind_it : any_inside at (suc at + size x) r ≡ false = or at (suc at + size x) (omega arith) (omega arith) in
        let it : any_inside at (suc at + size x) (branch waits_at entered ∷ []) ≡ false = apart (suc at + size x) (suc (suc at + size x)) at (suc at + size x) (branch waits_at entered ∷ []) (inr (omega arith)) ((omega arith, omega arith), tt) at (suc at + size x) (omega arith) (omega arith) in
        let both_it : any_inside at (suc at + size x) (branch waits_at entered ∷ r) ≡ false = inside-append at (suc at + size x) (branch waits_at entered ∷ []) r ∙ both-false (any_inside at (suc at + size x) (branch waits_at entered ∷ [])) (any_inside at (suc at + size x) r) it behind_it in
        let none : any_there whole at l (branch waits_at entered ∷ r) ≡ false = ap (λ (n : ℕ). any_inside at n l || any_inside at n (branch waits_at entered ∷ r)) (until-frame whole frame at x y stands).ends ∙ both-false (any_inside at (suc at + size x) l) (any_inside at (suc at + size x) (branch waits_at entered ∷ r)) before_it both_it in
        rest-falls whole ticks at frame l (branch waits_at entered) r none (until-frame whole frame at x y stands).goes above

    ends-until : (entered : ℕ) → entered ≤ ticks → (inner : Option ℕ) (stays mid : List Branch) (o : Option Process) → Ends whole ticks (suc at) x (Some at) inner stays mid o → Ends whole ticks at (Disrupt x y) frame inner stays (mid ++ branch waits_at entered ∷ []) (in_wait_of (waited (ticks - entered) y) o)
    ends-until entered le inner stays mid o (together e f g) =
        together e (ap (in_wait_of (waited (ticks - entered) y)) f)
        (λ l r ol or. ap (rest_behind whole ticks inner l) (append_assoc mid (branch waits_at entered ∷ []) r)
        ∙ g l (branch waits_at entered ∷ r) (narrower at (at + size (Disrupt x y)) (suc at) (suc at + size x) l (omega arith) (omega arith) ol)
        (outside-append (suc at) (suc at + size x) (branch waits_at entered ∷ []) r (last-out entered) (narrower at (at + size (Disrupt x y)) (suc at) (suc at + size x) r (omega arith) (omega arith) or))
        ∙ goes_too entered l r ol or)
    ends-until entered le inner stays mid o (continues rest term f k e) =
        continues (rest ++ branch waits_at entered ∷ []) (Disrupt term (waited (ticks - entered) y))
        (λ l r ol or. ap (rest_behind whole ticks inner (l ++ stays)) (append_assoc mid (branch waits_at entered ∷ []) r)
        ∙ f l (branch waits_at entered ∷ r) (narrower at (at + size (Disrupt x y)) (suc at) (suc at + size x) l (omega arith) (omega arith) ol)
        (outside-append (suc at) (suc at + size x) (branch waits_at entered ∷ []) r (last-out entered) (narrower at (at + size (Disrupt x y)) (suc at) (suc at + size x) r (omega arith) (omega arith) or))
        ∙ sym (append_assoc rest (branch waits_at entered ∷ []) r))
        (subst (λ (l : List Branch). Reads ticks at (Disrupt x y) l (Some (Disrupt term (waited (ticks - entered) y)))) (append_assoc stays rest (branch waits_at entered ∷ [])) (until entered le k))
        (ap (in_wait_of (waited (ticks - entered) y)) e)

    -- a branch of the left side
    context-until : (r : Process) (b : Branch) (pre mid : List Branch) (entered : ℕ) → entered ≤ ticks → Context whole ticks (suc at) x (Some at) (Some r) b pre mid → Context whole ticks at (Disrupt x y) frame (Some (Disrupt r (waited (ticks - entered) y))) b pre (mid ++ branch waits_at entered ∷ [])
    context-until r b pre mid entered le k = record {
      place = k.place;
      here = k.here;
      term = k.term;
      is = k.is;
      plug = until_it k.plug (waited (ticks - entered) y);
      stays = k.stays;
      entered = k.entered;
      keeps = λ l o. k.keeps l (narrower at (at + size (Disrupt x y)) (suc at) (suc at + size x) l (omega arith) (omega arith) o);
      grows = λ row q h.
          (let g = k.grows row q h in
          let last = branch waits_at entered ∷ [] in
          let rows : (k.stays ++ (row ++ mid)) ++ (branch waits_at entered ∷ []) ≡ k.stays ++ (row ++ (mid ++ (branch waits_at entered ∷ []))) = append_assoc k.stays (row ++ mid) last ∙ ap (λ (l : List Branch). k.stays ++ l) (append_assoc row mid last) in
          record {
            term = Disrupt g.term (waited (ticks - entered) y);
            is = ap (in_wait_of (waited (ticks - entered) y)) g.is;
            reads = subst (λ (l : List Branch). Reads ticks at (Disrupt x y) l (Some (Disrupt g.term (waited (ticks - entered) y)))) rows (until entered le g.reads);
          });
      ends = ends-until entered le k.place.frame k.stays mid (k.plug None) k.ends;
      offering = λ store. offering-until whole ticks r pre k.plug (waited (ticks - entered) y) (waited (ticks - b.entered) k.term) store (k.offering store);
    }

    -- the right side, before which all of the left goes
    context-transfers : (r : Process) (row : List Branch) (entered : ℕ) → entered ≤ ticks → Reads ticks (suc at) x row (Some r) → Context whole ticks at (Disrupt x y) frame (Some (Disrupt r (waited (ticks - entered) y))) (branch waits_at entered) row []
    context-transfers r row entered le k = record {
      place = node (op.Waits at) frame;
      here = (waits_there whole at x y frame stands).0;
      term = y;
      is = (waits_there whole at x y frame stands).1;
      plug = λ o. o;
      stays = [];
      entered = le;
      keeps = λ l o.
          without-append at waits_at l row
          ∙ ap (λ (m : List Branch). m ++ without at waits_at row) (without-none at waits_at l (o at waits_at (omega arith) (omega arith)))
          ∙ ap (λ (m : List Branch). l ++ m) (without-all at waits_at row (in_range ticks k));
      grows = λ new q h. record {
        term = q;
        is = refl;
        reads = subst (λ (l : List Branch). Reads ticks at (Disrupt x y) l (Some q)) (sym (append-nil new)) (passes (suc waits_at) y transfers h);
      };
      ends = together refl refl (λ l r f g. refl);
      offering = λ store. record {
        term = Disrupt r (waited (ticks - entered) y);
        is = refl;
        first = map (in_wait (waited (ticks - entered) y)) (offers r store);
        last = [];
        are = ap (λ (l : List Offered). map (in_wait (waited (ticks - entered) y)) (offers r store) ++ l) (sym (map-id (offers (waited (ticks - entered) y) store)) ∙ sym (append-nil (map (with_left (λ o. o)) (offers (waited (ticks - entered) y) store))));
        counted_first = length-mapped (in_wait (waited (ticks - entered) y)) (offers r store) ∙ counts ticks whole store (Some at) k (stands_until whole at x y frame stands);
      };
    }

    covers-until : Covers whole (Some at) (suc at) x
    covers-until = (let e = (until-frame whole frame at x y stands).ends in (omega arith, omega arith))

  covers-frame : (at : ℕ) (w x : Process) (at-z : ℕ) (z : Process) → IsFrame whole at (suc at + size x) at-z false → Covers whole (Some at) (suc at) x
  covers-frame at w x at-z z is = (let e = is.ends in (omega arith, omega arith))

  -- each branch of a row has its context
  pub context : (frame : Option ℕ) {at : ℕ} {w : Process} {row : List Branch} {t : Option Process} → Reads ticks at w row t → Stands whole at w (table w at frame) → Covers whole frame at w → (pre : List Branch) (b : Branch) (post : List Branch) → row ≡ pre ++ (b ∷ post) → Context whole ticks at w frame t b pre post
  context frame ended s c pre b post e = not_empty pre b post e
  context frame (waits {at = at} {term = w} entered h) s c pre b post e =
      let a = alone (branch at entered) b pre post e in
      let t = Some (waited (ticks - entered) w) in
      subst (λ (q : Branch). Context whole ticks at w frame (Some (waited (ticks - entered) w)) q pre post) a.1.0
      (subst (λ (q : List Branch). Context whole ticks at w frame (Some (waited (ticks - entered) w)) (branch at entered) q post) (sym a.0)
      (subst (λ (q : List Branch). Context whole ticks at w frame (Some (waited (ticks - entered) w)) (branch at entered) [] q) (sym a.1.1)
      (waiting at w frame entered h s)))
  context frame (passes {at = at} {term = w} at-x x {r = r} p k) s c pre b post e =
      let range = passes-range p in
      let lower = range.0 in
      context-passes frame r b pre post p (context frame k (passes-stands whole frame p s) (covers-within whole frame at w at-x x (omega arith) range.1 c) pre b post e)
  context frame (follows {at = at} {term = w} x at-z z {r = r} p k) s c pre b post e =
      let is = follows-frame whole frame p s in
      context-follows frame r b pre post p is (context (Some at) k (follows-stands whole frame p s) (covers-frame at w x at-z z is) pre b post e)
  context frame (both {at = at} {x = x} {y = y} {one = one-row} {other = other-row} {s = one-left} {t = other-left} k l) s c pre b post e =
      by_side (split_at one-row other-row pre b post e)
      (λ mid h. context frame k (par-first whole frame at x y s) (covers-within whole frame at (Par x y) (suc at) x (omega arith) (omega arith) c) pre b mid h)
      (λ mid h. context frame l (par-second whole frame at x y s) (covers-within whole frame at (Par x y) (suc at + size x) y (omega arith) (omega arith) c) mid b post h)
    where
      by_side : SplitAt one-row other-row pre b post →
          ((mid : List Branch) → one-row ≡ pre ++ (b ∷ mid) → Context whole ticks (suc at) x frame one-left b pre mid) →
          ((mid : List Branch) → other-row ≡ mid ++ (b ∷ post) → Context whole ticks (suc at + size x) y frame other-left b mid post) →
          Context whole ticks at (Par x y) frame (beside one-left other-left) b pre post
      by_side (inl h) f g = subst (λ (q : List Branch). Context whole ticks at (Par x y) frame (beside one-left other-left) b pre q) (sym h.1.1) (context-left at x y frame c one-left other-left b pre h.0 other-row l (f h.0 h.1.0))
      by_side (inr h) f g = subst (λ (q : List Branch). Context whole ticks at (Par x y) frame (beside one-left other-left) b q post) (sym h.1.0) (context-right at x y frame c one-left other-left b one-row h.0 post (par-first whole frame at x y s) k (g h.0 h.1.1))
  context frame (until {at = at} {x = x} {y = y} {row = row} {r = r} entered le k) s c pre b post e =
      by_side (split_at row (branch (suc at + size x) entered ∷ []) pre b post e)
      (λ mid h. context (Some at) k (stands_until whole at x y frame s) (covers-until at x y frame s) pre b mid h)
    where
      by_side : SplitAt row (branch (suc at + size x) entered ∷ []) pre b post →
          ((mid : List Branch) → row ≡ pre ++ (b ∷ mid) → Context whole ticks (suc at) x (Some at) (Some r) b pre mid) →
          Context whole ticks at (Disrupt x y) frame (Some (Disrupt r (waited (ticks - entered) y))) b pre post
      by_side (inl h) f = subst (λ (q : List Branch). Context whole ticks at (Disrupt x y) frame (Some (Disrupt r (waited (ticks - entered) y))) b pre q) (sym h.1.1) (context-until at x y frame s r b pre h.0 entered le (f h.0 h.1.0))
      by_side (inr h) f =
          let a = alone (branch (suc at + size x) entered) b h.0 post h.1.1 in
          let same : pre ≡ row = h.1.0 ∙ ap (λ (m : List Branch). row ++ m) a.0 ∙ append-nil row in
          subst (λ (q : Branch). Context whole ticks at (Disrupt x y) frame (Some (Disrupt r (waited (ticks - entered) y))) q pre post) a.1.0
          (subst (λ (q : List Branch). Context whole ticks at (Disrupt x y) frame (Some (Disrupt r (waited (ticks - entered) y))) (branch (suc at + size x) entered) q post) (sym same)
          (subst (λ (q : List Branch). Context whole ticks at (Disrupt x y) frame (Some (Disrupt r (waited (ticks - entered) y))) (branch (suc at + size x) entered) row q) (sym a.1.1)
          (context-transfers at x y frame s r row entered le k)))
