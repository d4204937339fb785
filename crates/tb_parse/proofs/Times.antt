-- The loop that collects time conditions agrees with the recursion that defines them.
use Rattle.std.proofs.Common.{◌≡◌, ℕ, ◌+◌, ◌-◌, ◌<◌, ◌≤◌, Bool, true, false, List, [], ◌∷◌, ◌++◌, refl, sym, ap, subst, ◌∙◌, arith, append_assoc, append-nil, if◌then◌else◌}
use Rattle.tb_syntax.specs.declared.proc.TimeDef.{TimeDef}
use Rattle.tb_parse.specs.Helpers.Parsing.{Outcome, Found, Stops, after, mapped, begins, is_time, time, times}
use Rattle.tb_parse.specs.Helpers.Reading.{Ahead, runs}
use Rattle.tb_parse.proofs.Turns.{one_more, no_more}

-- the time conditions so far, before those of the remaining turns
abbrev pub TimesSoFar : ℕ → ℕ → Ahead → List TimeDef → ℕ → Ahead → Type 0
TimesSoFar inner room start found turn ahead =
    runs (times inner room) start ≡ mapped (λ xs. found ++ xs) (runs (times inner (room - turn)) ahead)

mapped_none : (o : Outcome (List TimeDef)) → o ≡ mapped (λ xs. [] ++ xs) o
mapped_none (Found xs at ks) = refl
mapped_none (Stops at) = refl

mapped_push : (found : List TimeDef) (x : TimeDef) (o : Outcome (List TimeDef)) → mapped (λ xs. found ++ xs) (mapped (λ xs. x ∷ xs) o) ≡ mapped (λ xs. (found ++ x ∷ []) ++ xs) o
mapped_push found x (Found xs at ks) = ap (λ ys. Found ys at ks) (sym (append_assoc found (x ∷ []) xs))
mapped_push found x (Stops at) = refl

pub times_begin : (inner room : ℕ) (start : Ahead) {none : List TimeDef} → none ≡ [] → TimesSoFar inner room start none 0 start
times_begin inner room start {none} is_none =
    let e : room ≡ room - 0 = omega arith in
    let begins : TimesSoFar inner room start [] 0 start = mapped_none (runs (times inner room) start) ∙ ap (λ n. mapped (λ xs. [] ++ xs) (runs (times inner n) start)) e in
    subst (λ (xs : List TimeDef). TimesSoFar inner room start xs 0 start) (sym is_none) begins

module _ (inner room : ℕ) (start : Ahead) (found : List TimeDef) (turn : ℕ) (ahead : Ahead) where
  abbrev from : ℕ → Outcome (List TimeDef)
  from n = mapped (λ xs. found ++ xs) (runs (times inner n) ahead)

  -- what comes in one turn more
  abbrev step : Outcome TimeDef → Outcome (List TimeDef)
  step o = after o (λ first at ks. mapped (λ rest. first ∷ rest) (times inner (room - (turn + 1)) at ks))

  goes : turn < room → TimesSoFar inner room start found turn ahead → begins is_time ahead.kinds ≡ true
      → runs (times inner room) start ≡ mapped (λ xs. found ++ xs) (step (runs (time inner) ahead))
  unfolding times
  goes below so_far present = one_more from room turn below so_far ∙ ap (λ b. mapped (λ xs. found ++ xs) (if b then step (runs (time inner) ahead) else Found [] ahead.at ahead.kinds)) present

  pub times_stop : {position : ℕ} {is : Bool} → turn < room → TimesSoFar inner room start found turn ahead → is ≡ begins is_time ahead.kinds → is ≡ true
      → runs (time inner) ahead ≡ Stops position → runs (times inner room) start ≡ Stops position
  times_stop below so_far e present stops = goes below so_far (sym e ∙ present) ∙ ap (λ (o : Outcome TimeDef). mapped (λ xs. found ++ xs) (step o)) stops

  pub times_more : {x : TimeDef} {new : Ahead} {all : List TimeDef} {is : Bool} → turn < room → TimesSoFar inner room start found turn ahead → is ≡ begins is_time ahead.kinds → is ≡ true
      → runs (time inner) ahead ≡ Found x new.at new.kinds → all ≡ found ++ x ∷ [] → TimesSoFar inner room start all (turn + 1) new
  times_more {x} {new} below so_far e present is is_all =
      let one = goes below so_far (sym e ∙ present) ∙ ap (λ (o : Outcome TimeDef). mapped (λ xs. found ++ xs) (step o)) is ∙ mapped_push found x (runs (times inner (room - (turn + 1))) new) in
      subst (λ (xs : List TimeDef). TimesSoFar inner room start xs (turn + 1) new) (sym is_all) one

  pub times_last : {is : Bool} → turn < room → TimesSoFar inner room start found turn ahead → is ≡ begins is_time ahead.kinds → is ≡ false
      → runs (times inner room) start ≡ Found found ahead.at ahead.kinds
  unfolding times
  times_last below so_far e absent = one_more from room turn below so_far
      ∙ ap (λ b. mapped (λ xs. found ++ xs) (if b then step (runs (time inner) ahead) else Found [] ahead.at ahead.kinds)) (sym e ∙ absent)
      ∙ ap (λ xs. Found xs ahead.at ahead.kinds) (append-nil found)

  pub times_end : {position : ℕ} → room ≤ turn → TimesSoFar inner room start found turn ahead → position ≡ ahead.at → runs (times inner room) start ≡ Stops position
  unfolding times
  times_end done so_far is_position = no_more from room turn done so_far ∙ ap (λ p. Stops p) (sym is_position)
