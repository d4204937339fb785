-- The loop that joins the elements of `*` from the left agrees with the recursion that defines them.
use Rattle.std.proofs.Common.{◌≡◌, ℕ, ◌+◌, ◌-◌, ◌<◌, ◌≤◌, Bool, true, false, sym, ap, ◌∙◌, arith, if◌then◌else◌}
use Rattle.tb_lex.specs.declared.symbol.Symbol.TheVariants.{Star}
use Rattle.tb_syntax.specs.declared.proc.Proc.{Proc}
use Rattle.tb_syntax.specs.declared.proc.Proc.TheVariants as tree
use Rattle.tb_parse.specs.declared.built.Built.{Built}
use Rattle.tb_parse.specs.Helpers.Parsing.{Outcome, Found, Stops, after, mapped, begins, is_sign, prim, turns, leftward}
use Rattle.tb_parse.specs.Helpers.Heights.{built, as_built, both}
use Rattle.tb_parse.specs.Helpers.Reading.{Ahead, runs, next, eaten}
use Rattle.tb_parse.proofs.Trees.{built_turn, seen, unseen}
use Rattle.tb_parse.proofs.Turns.{one_more, no_more}

-- the process so far, with the remaining turns
pub record StarsSoFar (room : ℕ) (start : Ahead) (whole : Built) (turn : ℕ) (ahead : Ahead) : Type 0 where
  pub tree : Proc
  pub is_built : whole ≡ built tree
  pub same : runs (turns (prim room) room) start ≡ runs (leftward (prim room) (room - turn) tree) ahead

pub stars_none : (room : ℕ) (start : Ahead) {position : ℕ} → runs (as_built (prim room)) start ≡ Stops position → runs (as_built (turns (prim room) room)) start ≡ Stops position
unfolding turns
stars_none room start e = ap (λ (o : Outcome Proc). mapped built (after o (leftward (prim room) room))) (unseen built (runs (prim room) start) e)

pub stars_begin : (room : ℕ) (start : Ahead) {x : Built} {new : Ahead} → runs (as_built (prim room)) start ≡ Found x new.at new.kinds → StarsSoFar room start x 0 new
unfolding turns
stars_begin room start {x} {new} e =
    let first = seen built (runs (prim room) start) e in
    let n : room ≡ room - 0 = omega arith in
    record {
      tree = first.0;
      is_built = first.1;
      same = ap (λ (o : Outcome Proc). after o (leftward (prim room) room)) first.2 ∙ ap (λ n. runs (leftward (prim room) n first.0) new) n;
    }

module _ (room : ℕ) (start : Ahead) (whole : Built) (turn : ℕ) (ahead : Ahead) (so_far : StarsSoFar room start whole turn ahead) where
  abbrev from : ℕ → Outcome Proc
  from n = runs (leftward (prim room) n so_far.tree) ahead

  abbrev behind_one : Outcome Proc → Outcome Proc
  behind_one o = after o (λ y. leftward (prim room) (room - (turn + 1)) (tree.Star so_far.tree y))

  -- what comes of one turn
  abbrev step : Bool → Outcome Proc
  step more = if more then behind_one (runs (prim room) (next ahead)) else Found so_far.tree ahead.at ahead.kinds

  goes : turn < room → runs (turns (prim room) room) start ≡ step (begins (is_sign Star) ahead.kinds)
  unfolding leftward
  goes below = one_more from room turn below so_far.same

  pub stars_last : {more : Bool} {behind : Ahead} → turn < room → more ≡ begins (is_sign Star) ahead.kinds → behind ≡ eaten (is_sign Star) ahead → more ≡ false
      → runs (as_built (turns (prim room) room)) start ≡ Found whole behind.at behind.kinds
  stars_last {more} {behind} below is_more is_behind absent =
      let none = sym is_more ∙ absent in
      let same : behind ≡ ahead = is_behind ∙ ap (λ b. if b then next ahead else ahead) none in
      ap (mapped built) (goes below ∙ ap step none) ∙ ap (λ (b : Built). Found b ahead.at ahead.kinds) (sym so_far.is_built) ∙ ap (λ (r : Ahead). Found whole r.at r.kinds) (sym same)

  went : {more : Bool} {behind : Ahead} → turn < room → more ≡ begins (is_sign Star) ahead.kinds → behind ≡ eaten (is_sign Star) ahead → more ≡ true
      → runs (turns (prim room) room) start ≡ behind_one (runs (prim room) behind)
  went {more} {behind} below is_more is_behind present =
      let some = sym is_more ∙ present in
      let same : behind ≡ next ahead = is_behind ∙ ap (λ b. if b then next ahead else ahead) some in
      goes below ∙ ap step some ∙ ap (λ (r : Ahead). behind_one (runs (prim room) r)) (sym same)

  pub stars_stop : {more : Bool} {behind : Ahead} {position : ℕ} → turn < room → more ≡ begins (is_sign Star) ahead.kinds → behind ≡ eaten (is_sign Star) ahead → more ≡ true
      → runs (as_built (prim room)) behind ≡ Stops position → runs (as_built (turns (prim room) room)) start ≡ Stops position
  stars_stop {more} {behind} below is_more is_behind present e =
      ap (mapped built) (went below is_more is_behind present ∙ ap behind_one (unseen built (runs (prim room) behind) e))

  pub stars_more : {more : Bool} {behind new : Ahead} {y made : Built} → turn < room → more ≡ begins (is_sign Star) ahead.kinds → behind ≡ eaten (is_sign Star) ahead → more ≡ true
      → runs (as_built (prim room)) behind ≡ Found y new.at new.kinds → made ≡ both tree.Star whole y → StarsSoFar room start made (turn + 1) new
  stars_more {more} {behind} {new} {y} {made} below is_more is_behind present e is_made =
      let last = seen built (runs (prim room) behind) e in
      record {
        tree = tree.Star so_far.tree last.0;
        is_built = is_made ∙ ap (λ b. both tree.Star b y) so_far.is_built ∙ ap (λ b. both tree.Star (built so_far.tree) b) last.1 ∙ sym (built_turn so_far.tree last.0);
        same = went below is_more is_behind present ∙ ap behind_one last.2;
      }

  pub stars_end : {position : ℕ} → room ≤ turn → position ≡ ahead.at → runs (as_built (turns (prim room) room)) start ≡ Stops position
  unfolding leftward
  stars_end done is_position = ap (mapped built) (no_more from room turn done so_far.same) ∙ ap (λ p. Stops p) (sym is_position)
