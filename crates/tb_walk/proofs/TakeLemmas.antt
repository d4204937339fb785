-- The row that is left of the part at a position, by the row that is left of a part of it.
use Rattle.std.proofs.Common.{◌≡◌, ℕ, suc, ◌+◌, ◌<◌, ◌≤◌, Bool, true, false, nat_lt, if◌then◌else◌, List, [], ◌∷◌, ◌++◌, refl, ap, sym, subst, ◌∙◌, arith}
use Rattle.std.proofs.lemmas.Bool.{ltb-true, lt-ltb}
use Rattle.tb_terms.specs.declared.expr.Expr.{Expr}
use Rattle.tb_body.specs.declared.tree.Setting.{Setting}
use Rattle.tb_process_steps.specs.Processes.{Process, At, Seq, Alt, Star, Par, If, When, Let}
use Rattle.tb_code.specs.Entries.{followed, outset}
use Rattle.tb_code.specs.Positions.{size, part, op_at, root, is_wait, Begins, IsTwo, IsWait, IsOne}
use Rattle.tb_code.specs.declared.behind.Behind.{Behind}
use Rattle.tb_code.specs.declared.behind.Behind.TheVariants as behind
use Rattle.tb_code.specs.declared.node.Op.{Op}
use Rattle.tb_code.specs.declared.node.Op.TheVariants as op
use Rattle.tb_code.proofs.EntryLemmas.{outset_begins}
use Rattle.tb_code.proofs.Parts.{root_begins}
use Rattle.tb_walk.specs.Helpers.Places.{root_at, outset_at}
use Rattle.tb_walk.specs.Helpers.Reads.{branch, or_entered}
use Rattle.tb_walk.specs.Helpers.Partings.{row_by, branch_by, AreRows, GoesOn}
use Rattle.tb_walk.specs.declared.branch.Branch.{Branch}

pub or-twice : (row : List Branch) (next : Branch) (last : List Branch) → or_entered (or_entered row (next ∷ [])) last ≡ or_entered row (next ∷ [])
or-twice [] next last = refl
or-twice (b ∷ row) next last = refl

-- which side an atom is on

pub on_first_side : {A : Type 0} (to bound : ℕ) (x y : A) → to < bound → (if nat_lt to bound then x else y) ≡ x
on_first_side to bound x y h = rw (lt-ltb to bound h) refl

pub on_second_side : {A : Type 0} (to bound : ℕ) (x y : A) → bound ≤ to → (if nat_lt to bound then x else y) ≡ y
on_second_side to bound x y h = by_cases (nat_lt to bound) refl
  where
    by_cases : (b : Bool) → nat_lt to bound ≡ b → (if nat_lt to bound then x else y) ≡ y
    by_cases true e = (let k = ltb-true to bound e in absurd (omega arith))
    by_cases false e = rw e refl

module _ (whole : Process) (at first : ℕ) (f : first ≡ suc at) (to : ℕ) where
  module _ (ticks entered : ℕ) where
    -- what is left of the part of a position
    abbrev pub left_at : ℕ → List Branch
    left_at position = row_by ticks entered (root_at whole position) (part whole position) to

    -- the same where it begins there
    abbrev pub own_at : ℕ → List Branch
    own_at position = row_by ticks entered position (part whole position) to

    pub here_by : (o : Op) → op_at whole at ≡ o → left_at at ≡ row_by ticks entered (root o at) (part whole at) to
    here_by o is = ap (λ (p : Op). row_by ticks entered (root p at) (part whole at) to) is

    begun : (position : ℕ) → Begins whole position → own_at position ≡ left_at position
    begun position e = ap (λ (n : ℕ). row_by ticks entered n (part whole position) to) (sym (root_begins (op_at whole position) position e))

    at-first : Begins whole (suc at) → own_at (suc at) ≡ left_at first
    at-first e = begun (suc at) e ∙ ap left_at (sym f)

    at-right : (make : Process → Process → Process) (right : ℕ) → (two : IsTwo whole make at right) → row_by ticks entered (suc at + size (part whole (suc at))) (part whole right) to ≡ left_at right
    at-right make right two = ap (λ (p : ℕ). row_by ticks entered p (part whole right) to) (sym two.behind) ∙ begun right two.second_begins

    pub by_seq : (right : ℕ) → IsTwo whole Seq at right → own_at at ≡ or_entered (left_at first) (branch right ticks ∷ [])
    by_seq right two =
        ap (λ (p : Process). row_by ticks entered at p to) two.here
        ∙ ap (λ (n : ℕ). or_entered (own_at (suc at)) (branch n ticks ∷ [])) (sym two.behind)
        ∙ ap (λ (l : List Branch). or_entered l (branch right ticks ∷ [])) (at-first two.first_begins)

    sides : (make : Process → Process → Process) (right : ℕ) (g h : List Branch → List Branch) → (two : IsTwo whole make at right) →
        (if nat_lt to (suc at + size (part whole (suc at))) then g (own_at (suc at)) else h (row_by ticks entered (suc at + size (part whole (suc at))) (part whole right) to))
        ≡ (if nat_lt to right then g (left_at first) else h (left_at right))
    sides make right g h two =
        ap (λ (l : List Branch). if nat_lt to (suc at + size (part whole (suc at))) then g (own_at (suc at)) else h l) (at-right make right two)
        ∙ ap (λ (n : ℕ). if nat_lt to n then g (own_at (suc at)) else h (left_at right)) (sym two.behind)
        ∙ ap (λ (l : List Branch). if nat_lt to right then g l else h (left_at right)) (at-first two.first_begins)

    pub by_alt : (right : ℕ) → IsTwo whole Alt at right → own_at at ≡ (if nat_lt to right then left_at first else left_at right)
    by_alt right two = ap (λ (p : Process). row_by ticks entered at p to) two.here ∙ sides Alt right (λ l. l) (λ l. l) two

    pub by_star : (right : ℕ) → IsTwo whole Star at right → own_at at ≡ (if nat_lt to right then or_entered (left_at first) (branch at ticks ∷ []) else left_at right)
    by_star right two = ap (λ (p : Process). row_by ticks entered at p to) two.here ∙ sides Star right (λ l. or_entered l (branch at ticks ∷ [])) (λ l. l) two

    pub by_par : (right : ℕ) → IsTwo whole Par at right → own_at at ≡ (if nat_lt to right then left_at first ++ branch right entered ∷ [] else branch first entered ∷ left_at right)
    by_par right two =
        ap (λ (p : Process). row_by ticks entered at p to) two.here
        ∙ sides Par right (λ l. l ++ branch (suc at + size (part whole (suc at))) entered ∷ []) (λ l. branch (suc at) entered ∷ l) two
        ∙ ap (λ (n : ℕ). if nat_lt to right then left_at first ++ branch n entered ∷ [] else branch (suc at) entered ∷ left_at right) (sym two.behind)
        ∙ ap (λ (n : ℕ). if nat_lt to right then left_at first ++ branch right entered ∷ [] else branch n entered ∷ left_at right) (sym f)

    pub by_wait : (disrupt : ℕ) → IsWait whole at disrupt → row_by ticks entered (suc at) (part whole at) to ≡ left_at first
    by_wait disrupt wait = ap (λ (p : Process). row_by ticks entered (suc at) p to) wait.here ∙ at-first wait.first_begins

    pub by_if : (test : Expr) (right : ℕ) → IsTwo whole (If test) at right → own_at at ≡ (if nat_lt to right then left_at first else left_at right)
    by_if test right two = ap (λ (p : Process). row_by ticks entered at p to) two.here ∙ sides (If test) right (λ l. l) (λ l. l) two

    pub by_when : (test : Expr) → IsOne whole (When test) at → own_at at ≡ left_at first
    by_when test one = ap (λ (p : Process). row_by ticks entered at p to) one.here ∙ at-first one.first_begins

    pub by_let : (settings : List Setting) → IsOne whole (Let settings) at → own_at at ≡ left_at first
    by_let settings one = ap (λ (p : Process). row_by ticks entered at p to) one.here ∙ at-first one.first_begins

    -- the side in which the atom stands
    pub of_side : (right : ℕ) (side : ℕ) → side ≡ (if nat_lt to right then first else right) → (if nat_lt to right then left_at first else left_at right) ≡ left_at side
    of_side right side e = by_cases (nat_lt to right) refl
      where
        by_cases : (b : Bool) → nat_lt to right ≡ b → (if nat_lt to right then left_at first else left_at right) ≡ left_at side
        by_cases true h = rw h (ap left_at (sym (e ∙ ap (λ (b : Bool). if b then first else right) h)))
        by_cases false h = rw h (ap left_at (sym (e ∙ ap (λ (b : Bool). if b then first else right) h)))

-- what comes of a part, by what comes of its own

rows_as : (rows same : ℕ → ℕ → List Branch) (result : Behind) → ((ticks entered : ℕ) → rows ticks entered ≡ same ticks entered) → AreRows same result → AreRows rows result
rows_as rows same behind.Ended e g = λ ticks entered. e ticks entered ∙ g ticks entered
rows_as rows same (behind.Entered position) e g = λ ticks entered. e ticks entered ∙ g ticks entered
rows_as rows same behind.Parted e g = tt

pub goes_atom : (at atom age : ℕ) (so_far : Behind) → GoesOn at (At atom age) at so_far so_far
goes_atom at atom age behind.Ended = λ ticks entered. refl
goes_atom at atom age (behind.Entered next) = λ ticks entered. refl
goes_atom at atom age behind.Parted = refl

pub goes_parted : (at : ℕ) (w : Process) (to : ℕ) (so_far result : Behind) → result ≡ behind.Parted → GoesOn at w to so_far result
goes_parted at w to behind.Ended result e = subst (λ (b : Behind). AreRows (λ ticks entered. row_by ticks entered at w to) b) (sym e) tt
goes_parted at w to (behind.Entered next) result e = subst (λ (b : Behind). AreRows (λ ticks entered. or_entered (row_by ticks entered at w to) (branch next ticks ∷ [])) b) (sym e) tt
goes_parted at w to behind.Parted result e = e

module _ (at at-x : ℕ) (w x : Process) (to : ℕ) where
  pub goes_same : (so_far result : Behind) → ((ticks entered : ℕ) → row_by ticks entered at w to ≡ row_by ticks entered at-x x to) → GoesOn at-x x to so_far result → GoesOn at w to so_far result
  goes_same behind.Ended result e g = rows_as (λ ticks entered. row_by ticks entered at w to) (λ ticks entered. row_by ticks entered at-x x to) result e g
  goes_same (behind.Entered next) result e g =
      rows_as (λ ticks entered. or_entered (row_by ticks entered at w to) (branch next ticks ∷ [])) (λ ticks entered. or_entered (row_by ticks entered at-x x to) (branch next ticks ∷ [])) result
      (λ ticks entered. ap (λ (l : List Branch). or_entered l (branch next ticks ∷ [])) (e ticks entered)) g
  goes_same behind.Parted result e g = g

  pub goes_first : (next : ℕ) (so_far result : Behind) → ((ticks entered : ℕ) → row_by ticks entered at w to ≡ or_entered (row_by ticks entered at-x x to) (branch next ticks ∷ [])) →
      GoesOn at-x x to (followed (behind.Entered next) so_far) result → GoesOn at w to so_far result
  goes_first next behind.Ended result e g = rows_as (λ ticks entered. row_by ticks entered at w to) (λ ticks entered. or_entered (row_by ticks entered at-x x to) (branch next ticks ∷ [])) result e g
  goes_first next (behind.Entered last) result e g =
      rows_as (λ ticks entered. or_entered (row_by ticks entered at w to) (branch last ticks ∷ [])) (λ ticks entered. or_entered (row_by ticks entered at-x x to) (branch next ticks ∷ [])) result
      (λ ticks entered. ap (λ (l : List Branch). or_entered l (branch last ticks ∷ [])) (e ticks entered) ∙ or-twice (row_by ticks entered at-x x to) (branch next ticks) (branch last ticks ∷ [])) g
  goes_first next behind.Parted result e g = g

-- a branch of which it is known what comes doesn't wait

not_parted : (at : ℕ) (x : Process) (to : ℕ) (result : Behind) (o : Op) → GoesOn at x to (outset o) result → (result ≡ behind.Parted → ⊥) → is_wait o ≡ false
not_parted at x to result (op.At atom) g n = refl
not_parted at x to result (op.Seq right) g n = refl
not_parted at x to result (op.Alt right) g n = refl
not_parted at x to result (op.Star right) g n = refl
not_parted at x to result (op.Par right) g n = refl
not_parted at x to result (op.Disrupt waits) g n = refl
not_parted at x to result (op.Waits disrupt) g n = absurd (n g)
not_parted at x to result (op.If test right) g n = refl
not_parted at x to result (op.When test) g n = refl
not_parted at x to result (op.Let settings) g n = refl

module _ (whole : Process) (ticks : ℕ) (b : Branch) (to : ℕ) (result : Behind) (g : GoesOn (root_at whole b.position) (part whole b.position) to (outset_at whole b.position) result) where
  -- what is left of the part of a branch

  ends : Begins whole b.position → GoesOn (root_at whole b.position) (part whole b.position) to behind.Ended result
  ends n = subst (λ (o : Behind). GoesOn (root_at whole b.position) (part whole b.position) to o result) (outset_begins (op_at whole b.position) n) g

  pub ended_begins : result ≡ behind.Ended → Begins whole b.position
  ended_begins e = not_parted (root_at whole b.position) (part whole b.position) to result (op_at whole b.position) g (λ f. (let t : behind.Ended ≡ behind.Parted = sym e ∙ f in cc))

  pub entered_begins : (position : ℕ) → result ≡ behind.Entered position → Begins whole b.position
  entered_begins position e = not_parted (root_at whole b.position) (part whole b.position) to result (op_at whole b.position) g (λ f. (let t : behind.Entered position ≡ behind.Parted = sym e ∙ f in cc))

  pub left_ended : result ≡ behind.Ended → branch_by whole ticks b to ≡ []
  left_ended e = subst (GoesOn (root_at whole b.position) (part whole b.position) to behind.Ended) e (ends (ended_begins e)) ticks b.entered

  pub left_entered : (position : ℕ) → result ≡ behind.Entered position → branch_by whole ticks b to ≡ branch position ticks ∷ []
  left_entered position e = subst (GoesOn (root_at whole b.position) (part whole b.position) to behind.Ended) e (ends (entered_begins position e)) ticks b.entered
