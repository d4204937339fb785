-- What stands behind, found frame by frame, and what becomes of a row whose branch goes on or ends.
use Rattle.std.proofs.Common.{◌≡◌, ℕ, zero, suc, ◌+◌, ◌<◌, Bool, true, false, ◌&&◌, ◌||◌, not, ◌≤◌, take, remove, set, List, [], ◌∷◌, ◌++◌, drop, length, slice_get, get_or, Option, Some, None, IfSome, refl, ap, sym, subst, ◌∙◌, arith}
use Rattle.std.specs.Option.{option_to_list}
use Rattle.std.proofs.lemmas.Option.{slice_get-get_or}
use Rattle.tb_process_steps.specs.Processes.{Process}
use Rattle.tb_code.specs.Positions.{positions, op_at, is_wait, Begins}
use Rattle.tb_code.specs.declared.node.Node.{Node}
use Rattle.tb_code.specs.declared.node.Op.{Op}
use Rattle.tb_code.specs.declared.node.Op.TheVariants as op
use Rattle.tb_walk.specs.Helpers.Reads.{any_inside, branch}
use Rattle.tb_walk.specs.Helpers.Rests.{any_there, bound_by, next_by, falls_by, frame_above, kept_by, or_rest, rest_behind}
use Rattle.tb_walk.specs.Helpers.Takings.{EndsTo, IsSettled, SettlesTo}
use Rattle.tb_walk.specs.declared.branch.Branch.{Branch}
use Rattle.tb_walk.specs.declared.settle.Step.TheVariants as step
use Rattle.tb_code.proofs.Parts.{op_here}

-- where none waits, all branches before stay

pub keeps_all : (o : Op) (at : ℕ) (row : List Branch) → is_wait o ≡ false → kept_by o at row ≡ row
keeps_all (op.At atom) at row e = refl
keeps_all (op.Seq right) at row e = refl
keeps_all (op.Alt right) at row e = refl
keeps_all (op.Star right) at row e = refl
keeps_all (op.Par right) at row e = refl
keeps_all (op.Disrupt waits) at row e = refl
keeps_all (op.Waits disrupt) at row e = (let t : true ≡ false = e in cc)
keeps_all (op.If test right) at row e = refl
keeps_all (op.When test) at row e = refl
keeps_all (op.Let settings) at row e = refl

and-not : (a b : Bool) → b ≡ true → (a && not b) ≡ false
and-not true b e = rw e refl
and-not false b e = refl

pub rest-none : (whole : Process) (ticks : ℕ) (pre post : List Branch) → rest_behind whole ticks None pre post ≡ post
rest-none whole ticks pre [] = refl
rest-none whole ticks pre (b ∷ post) = refl

-- nothing is entered while another stands there
pub rest-inside : (whole : Process) (ticks n : ℕ) (pre post : List Branch) → any_there whole n pre post ≡ true → rest_behind whole ticks (Some n) pre post ≡ post
rest-inside whole ticks n pre [] e = rw e refl
rest-inside whole ticks n pre (b ∷ post) e = rw (and-not (falls_by (op_at whole n)) (any_there whole n pre (b ∷ post)) e, e) refl

pub rest-enters : (whole : Process) (ticks n : ℕ) (pre post : List Branch) → any_there whole n pre post ≡ false → falls_by (op_at whole n) ≡ false → rest_behind whole ticks (Some n) pre post ≡ branch (next_by (op_at whole n) n) ticks ∷ post
rest-enters whole ticks n pre [] e f = rw e refl
rest-enters whole ticks n pre (b ∷ post) e f = rw (f, e) refl

-- all of a left side has ended
pub rest-falls : (whole : Process) (ticks n : ℕ) (frame : Option ℕ) (pre : List Branch) (b : Branch) (post : List Branch) → any_there whole n pre (b ∷ post) ≡ false → falls_by (op_at whole n) ≡ true → frame_above whole (Some n) ≡ frame → rest_behind whole ticks (Some n) pre (b ∷ post) ≡ rest_behind whole ticks frame pre post
rest-falls whole ticks n frame pre b post e f g = rw (f, e, g) refl

pub one_more : (xs : List Branch) (i : ℕ) → i < length xs → (b : Branch) × (drop i xs ≡ b ∷ drop (i + 1) xs)
one_more [] i h = absurd (omega arith)
one_more (x ∷ xs) zero h = (x, refl)
one_more (x ∷ xs) (suc i) h =
    let k = one_more xs i (omega arith) in
    let e : suc i + 1 ≡ suc (i + 1) = omega arith in
    (k.0, k.1 ∙ ap (λ (n : ℕ). k.0 ∷ drop n (x ∷ xs)) (sym e))

module _ (whole : Process) (ticks : ℕ) (frame above : Option ℕ) (pre post rest : List Branch) (so_far : rest_behind whole ticks above pre rest ≡ rest_behind whole ticks frame pre post) where
  pub none_above : above ≡ None → rest_behind whole ticks frame pre post ≡ rest
  none_above e = sym so_far ∙ ap (λ (o : Option ℕ). rest_behind whole ticks o pre rest) e ∙ rest-none whole ticks pre rest

  module _ (at bound : ℕ) (is : above ≡ Some at) (b : bound ≡ bound_by (op_at whole at) at) (there : Bool) (t : there ≡ (any_inside at bound pre || any_inside at bound rest)) where
    any_is : any_there whole at pre rest ≡ there
    any_is = ap (λ (n : ℕ). any_inside at n pre || any_inside at n rest) (sym b) ∙ sym t

    pub some_there : there ≡ true → rest_behind whole ticks frame pre post ≡ rest
    some_there e = sym so_far ∙ ap (λ (o : Option ℕ). rest_behind whole ticks o pre rest) is ∙ rest-inside whole ticks at pre rest (any_is ∙ e)

    pub enters_there : (falls : Bool) (next : ℕ) → there ≡ false → falls ≡ falls_by (op_at whole at) → falls ≡ false → next ≡ next_by (op_at whole at) at → rest_behind whole ticks frame pre post ≡ branch next ticks ∷ rest
    enters_there falls next e f g n =
        sym so_far ∙ ap (λ (o : Option ℕ). rest_behind whole ticks o pre rest) is ∙ rest-enters whole ticks at pre rest (any_is ∙ e) (sym f ∙ g)
        ∙ ap (λ (m : ℕ). branch m ticks ∷ rest) (sym n)

    pub falls_there : (falls : Bool) (c : Branch) (more : List Branch) → there ≡ false → falls ≡ falls_by (op_at whole at) → falls ≡ true → rest ≡ c ∷ more → rest_behind whole ticks (frame_above whole (Some at)) pre more ≡ rest_behind whole ticks frame pre post
    falls_there falls c more e f g h =
        let none : any_there whole at pre (c ∷ more) ≡ false = subst (λ (l : List Branch). any_there whole at pre l ≡ false) h (any_is ∙ e) in
        sym (ap (rest_behind whole ticks above pre) h ∙ ap (λ (o : Option ℕ). rest_behind whole ticks o pre (c ∷ more)) is ∙ rest-falls whole ticks at (frame_above whole (Some at)) pre c more none (sym f ∙ g) refl)
        ∙ so_far

pub above_less : (o : Option ℕ) (at n : ℕ) → at < n → IfSome o (λ f. f < at) → IfSome o (λ f. f < n)
above_less None at n h k = tt
above_less (Some f) at n h k = omega arith

pub not_true : (b : Bool) → not b ≡ true → b ≡ false
not_true true e = cc
not_true false e = refl

pub not_false : (b : Bool) → not b ≡ false → b ≡ true
not_false true e = refl
not_false false e = cc

-- a row without some branches behind the first ones

pub removed_behind : (row : List Branch) (at gone : ℕ) → at + 1 + gone < length row → remove (take (at + 1) row ++ drop (at + 1 + gone) row) (at + 1) ≡ take (at + 1) row ++ drop (at + 1 + (gone + 1)) row
removed_behind row at gone h = removed (take (at + 1) row) (drop (at + 1 + gone) row) (drop (at + 1 + (gone + 1)) row) (at + 1) (long row (at + 1) (omega arith)) (next row (at + 1 + gone) h ∙ ap (λ (n : ℕ). (head_of row (at + 1 + gone) h) ∷ drop n row) (omega arith))
  where
    long : (xs : List Branch) (n : ℕ) → n ≤ length xs → length (take n xs) ≡ n
    long xs zero h = refl
    long [] (suc n) h = absurd (omega arith)
    long (x ∷ xs) (suc n) h = ap suc (long xs n (omega arith))

    head_of : (xs : List Branch) (n : ℕ) → n < length xs → Branch
    head_of xs n h = (one_more xs n h).0

    next : (xs : List Branch) (n : ℕ) → (h : n < length xs) → drop n xs ≡ head_of xs n h ∷ drop (n + 1) xs
    next xs n h = (one_more xs n h).1

    removed : (xs ys zs : List Branch) (n : ℕ) {x : Branch} → length xs ≡ n → ys ≡ x ∷ zs → remove (xs ++ ys) n ≡ xs ++ zs
    removed [] ys zs zero e f = ap (λ (l : List Branch). remove l 0) f
    removed [] ys zs (suc n) e f = absurd (omega arith)
    removed (x ∷ xs) ys zs zero e f = absurd (omega arith)
    removed (x ∷ xs) ys zs (suc n) e f = ap (λ (l : List Branch). x ∷ l) (removed xs ys zs n (omega arith) f)

-- the branch goes on as another, or leaves, where some behind it have gone

put_suc : (row more : List Branch) (at : ℕ) (b : Branch) → at < length row → set (take (suc at) row ++ more) at b ≡ take at row ++ (b ∷ more)
put_suc [] more at b h = absurd (omega arith)
put_suc (c ∷ row) more zero b h = refl
put_suc (c ∷ row) more (suc at) b h = ap (λ (l : List Branch). c ∷ l) (put_suc row more at b (omega arith))

pub put_there : (row more : List Branch) (at : ℕ) (b : Branch) → at < length row → set (take (at + 1) row ++ more) at b ≡ take at row ++ (b ∷ more)
put_there row more at b h = (let e : at + 1 ≡ suc at = omega arith in ap (λ (n : ℕ). set (take n row ++ more) at b) e ∙ put_suc row more at b h)

leave_suc : (row more : List Branch) (at : ℕ) → at < length row → remove (take (suc at) row ++ more) at ≡ take at row ++ more
leave_suc [] more at h = absurd (omega arith)
leave_suc (c ∷ row) more zero h = refl
leave_suc (c ∷ row) more (suc at) h = ap (λ (l : List Branch). c ∷ l) (leave_suc row more at (omega arith))

pub leave_there : (row more : List Branch) (at : ℕ) → at < length row → remove (take (at + 1) row ++ more) at ≡ take at row ++ more
leave_there row more at h = (let e : at + 1 ≡ suc at = omega arith in ap (λ (n : ℕ). remove (take n row ++ more) at) e ∙ leave_suc row more at h)

pub dropped : (row : List Branch) (at gone : ℕ) → drop gone (drop (suc at) row) ≡ drop (at + 1 + gone) row
dropped [] at gone = (let e : at + 1 + gone ≡ suc (at + gone) = omega arith in none gone ∙ ap (λ (n : ℕ). drop {A = Branch} n []) (sym e))
  where
    none : (n : ℕ) → drop {A = Branch} n [] ≡ []
    none zero = refl
    none (suc n) = refl
dropped (c ∷ row) zero gone = (let e : 0 + 1 + gone ≡ suc gone = omega arith in ap (λ (n : ℕ). drop n (c ∷ row)) (sym e))
dropped (c ∷ row) (suc at) gone = (let e : suc at + 1 + gone ≡ suc (at + 1 + gone) = omega arith in dropped row at gone ∙ ap (λ (n : ℕ). drop n (c ∷ row)) (sym e))

-- a row with another branch in the place of one, and without it

pub row_put : (row : List Branch) (at : ℕ) (b : Branch) → at < length row → set row at b ≡ take at row ++ (b ∷ drop (suc at) row)
row_put [] at b h = absurd (omega arith)
row_put (c ∷ row) zero b h = refl
row_put (c ∷ row) (suc at) b h = ap (λ (l : List Branch). c ∷ l) (row_put row at b (omega arith))

pub row_less : (row : List Branch) (at : ℕ) → at < length row → remove row at ≡ take at row ++ drop (suc at) row
row_less [] at h = absurd (omega arith)
row_less (c ∷ row) zero h = refl
row_less (c ∷ row) (suc at) h = ap (λ (l : List Branch). c ∷ l) (row_less row at (omega arith))

-- what becomes of a row where the branch at an index has ended

module _ (whole : Process) (ticks : ℕ) (row : List Branch) (at : ℕ) where
  abbrev ended_row : Option ℕ → List Branch
  ended_row frame = take at row ++ rest_behind whole ticks frame (take at row) (drop (suc at) row)

  module _ (pre post : List Branch) (p : pre ≡ take at row) (q : post ≡ drop (suc at) row) where
    rest_same : (frame : Option ℕ) → rest_behind whole ticks frame pre post ≡ rest_behind whole ticks frame (take at row) (drop (suc at) row)
    rest_same frame = ap (λ (l : List Branch). rest_behind whole ticks frame l post) p ∙ ap (rest_behind whole ticks frame (take at row)) q

    pub falls_so : (frame : Option ℕ) (gone : ℕ) (next : Option Branch) → rest_behind whole ticks frame pre post ≡ option_to_list next ++ drop gone post →
        take at row ++ (option_to_list next ++ drop (at + 1 + gone) row) ≡ ended_row frame
    falls_so frame gone next e =
        ap (λ (l : List Branch). take at row ++ (option_to_list next ++ l)) (sym (dropped row at gone) ∙ ap (drop gone) (sym q))
        ∙ ap (λ (l : List Branch). take at row ++ l) (sym e ∙ rest_same frame)

    module _ (frame bound : ℕ) (b : bound ≡ bound_by (op_at whole frame) frame) (there : Bool) (t : there ≡ (any_inside frame bound pre || any_inside frame bound post)) where
      there_is : any_there whole frame pre post ≡ there
      there_is = ap (λ (n : ℕ). any_inside frame n pre || any_inside frame n post) (sym b) ∙ sym t

      pub leaves_so : at < length row → there ≡ true → remove row at ≡ ended_row (Some frame)
      leaves_so h e =
          row_less row at h
          ∙ ap (λ (l : List Branch). take at row ++ l) (sym q ∙ sym (rest-inside whole ticks frame pre post (there_is ∙ e)) ∙ rest_same (Some frame))

      pub enters_so : at < length row → (falls : Bool) (next : ℕ) → there ≡ false → falls ≡ falls_by (op_at whole frame) → falls ≡ false → next ≡ next_by (op_at whole frame) frame → set row at (branch next ticks) ≡ ended_row (Some frame)
      enters_so h falls next e f g n =
          row_put row at (branch next ticks) h
          ∙ ap (λ (l : List Branch). take at row ++ (branch next ticks ∷ l)) (sym q)
          ∙ ap (λ (m : ℕ). take at row ++ (branch m ticks ∷ post)) n
          ∙ ap (λ (l : List Branch). take at row ++ l) (sym (rest-enters whole ticks frame pre post (there_is ∙ e) (sym f ∙ g)) ∙ rest_same (Some frame))

  pub none_so : at < length row → remove row at ≡ ended_row None
  none_so h = row_less row at h ∙ ap (λ (l : List Branch). take at row ++ l) (sym (rest-none whole ticks (take at row) (drop (suc at) row)))

-- the same by the frame of the branch that is read at its index
pub ends_so : (whole : Process) (ticks : ℕ) (row : List Branch) (at : ℕ) (d : Branch) (n : Node) (nodes : List Node) (frame : Option ℕ) (new : List Branch) →
    nodes ≡ positions whole → at < length row → slice_get nodes (get_or row at d).position ≡ Some n → n.frame ≡ frame → new ≡ take at row ++ rest_behind whole ticks frame (take at row) (drop (suc at) row) →
    (b : Branch) → (m : Node) → slice_get row at ≡ Some b → slice_get (positions whole) b.position ≡ Some m → new ≡ take at row ++ rest_behind whole ticks m.frame (take at row) (drop (suc at) row)
ends_so whole ticks row at d n nodes frame new numbered within node-here ef e b m there node-there =
    let same : get_or row at d ≡ b = (let t : ◌≡◌ {A = Option Branch} (Some (get_or row at d)) (Some b) = sym (slice_get-get_or row at d within) ∙ there in cc) in
    let found : slice_get nodes (get_or row at d).position ≡ Some m = ap (λ (l : List Node). slice_get l (get_or row at d).position) numbered ∙ ap (λ (c : Branch). slice_get (positions whole) c.position) same ∙ node-there in
    let node-same : n ≡ m = (let t : ◌≡◌ {A = Option Node} (Some n) (Some m) = sym node-here ∙ found in cc) in
    e
    ∙ ap (λ (f : Option ℕ). take at row ++ rest_behind whole ticks f (take at row) (drop (suc at) row)) (sym ef)
    ∙ ap (λ (k : Node). take at row ++ rest_behind whole ticks k.frame (take at row) (drop (suc at) row)) node-same

-- the branch doesn't wait
abbrev pub IsBegun : Process → List Branch → ℕ → Type 0
IsBegun whole row at = (b : Branch) → slice_get row at ≡ Some b → Begins whole b.position

module _ (whole : Process) (ticks : ℕ) (row : List Branch) (at : ℕ) where
  settles : (inside new : List Branch) → IsBegun whole row at →
      ((b : Branch) → (n : Node) → slice_get row at ≡ Some b → slice_get (positions whole) b.position ≡ Some n → new ≡ take at row ++ or_rest inside (drop (suc at) row) (rest_behind whole ticks n.frame (take at row) (drop (suc at) row))) →
      SettlesTo whole ticks row at inside new
  settles inside new begun e = λ b n f g.
      e b n f g
      ∙ ap (λ (l : List Branch). l ++ or_rest inside (drop (suc at) row) (rest_behind whole ticks n.frame l (drop (suc at) row)))
      (sym (keeps_all n.op b.position (take at row) (ap is_wait (sym (op_here whole (positions whole) b.position n refl g)) ∙ begun b f)))

  pub end_settles : (new : List Branch) → IsBegun whole row at → EndsTo whole ticks row at new → SettlesTo whole ticks row at [] new
  end_settles new begun e = settles [] new begun e

  pub put_settles : (one : Branch) (new : List Branch) → IsBegun whole row at → at < length row → new ≡ set row at one → SettlesTo whole ticks row at (one ∷ []) new
  put_settles one new begun within e = settles (one ∷ []) new begun (λ b n f g. e ∙ row_put row at one within)

  pub settled_on : (one : Branch) → IsBegun whole row at → at < length row → IsSettled whole ticks row at (one ∷ []) (step.Put at one)
  settled_on one begun within = record { within = within; after = put_settles one (set row at one) begun within refl }
