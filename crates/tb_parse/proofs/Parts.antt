-- The loop that collects parts between commas agrees with the recursion that defines them.
use Rattle.std.proofs.Common.{◌≡◌, ℕ, ◌+◌, ◌-◌, ◌<◌, ◌≤◌, Bool, true, false, List, [], ◌∷◌, ◌++◌, refl, sym, ap, subst, ◌∙◌, arith, append_assoc, if◌then◌else◌}
use Rattle.tb_lex.specs.declared.symbol.Symbol.TheVariants.{Comma}
use Rattle.tb_parse.specs.Helpers.Parsing.{Outcome, Found, Stops, Parser, after, mapped, begins, is_sign, tail, parted}
use Rattle.tb_parse.specs.Helpers.Reading.{Ahead, runs, next, eaten}
use Rattle.tb_parse.proofs.Turns.{one_more, no_more}

-- the parts so far, before those of the remaining turns
abbrev pub PartsSoFar : {A : Type 0} → Parser A → ℕ → Ahead → List A → ℕ → Ahead → Type 0
PartsSoFar item room start found turn ahead =
    runs (parted item room) start ≡ mapped (λ xs. found ++ xs) (runs (parted item (room - turn)) ahead)

mapped_none : {A : Type 0} (o : Outcome (List A)) → o ≡ mapped (λ xs. [] ++ xs) o
mapped_none (Found xs at ks) = refl
mapped_none (Stops at) = refl

mapped_push : {A : Type 0} (found : List A) (x : A) (o : Outcome (List A)) → mapped (λ xs. found ++ xs) (mapped (λ xs. x ∷ xs) o) ≡ mapped (λ xs. (found ++ x ∷ []) ++ xs) o
mapped_push found x (Found xs at ks) = ap (λ ys. Found ys at ks) (sym (append_assoc found (x ∷ []) xs))
mapped_push found x (Stops at) = refl

pub parts_begin : {A : Type 0} (item : Parser A) (room : ℕ) (start : Ahead) {none : List A} → none ≡ [] → PartsSoFar item room start none 0 start
parts_begin {A} item room start {none} is_none =
    let e : room ≡ room - 0 = omega arith in
    let begins : PartsSoFar item room start [] 0 start = mapped_none (runs (parted item room) start) ∙ ap (λ n. mapped (λ xs. [] ++ xs) (runs (parted item n) start)) e in
    subst (λ (xs : List A). PartsSoFar item room start xs 0 start) (sym is_none) begins

module _ {A : Type 0} (item : Parser A) (room : ℕ) (start : Ahead) (found : List A) (turn : ℕ) (ahead : Ahead) where
  abbrev from : ℕ → Outcome (List A)
  from n = mapped (λ xs. found ++ xs) (runs (parted item n) ahead)

  pub parts_stop : {position : ℕ} → turn < room → PartsSoFar item room start found turn ahead → runs item ahead ≡ Stops position
      → runs (parted item room) start ≡ Stops position
  unfolding parted
  parts_stop below so_far e = one_more from room turn below so_far ∙ ap (λ (o : Outcome A). mapped (λ xs. found ++ xs) (after o (λ x behind rest.
      if begins (is_sign Comma) rest then mapped (λ xs. x ∷ xs) (parted item (room - (turn + 1)) (behind + 1) (tail rest)) else Found (x ∷ []) behind rest))) e

  last_part : {x : A} {new : Ahead} → turn < room → PartsSoFar item room start found turn ahead → runs item ahead ≡ Found x new.at new.kinds
      → begins (is_sign Comma) new.kinds ≡ false → runs (parted item room) start ≡ Found (found ++ x ∷ []) new.at new.kinds
  unfolding parted
  last_part {x} {new} below so_far e absent = one_more from room turn below so_far ∙ ap (λ (o : Outcome A). mapped (λ xs. found ++ xs) (after o (λ x behind rest.
      if begins (is_sign Comma) rest then mapped (λ xs. x ∷ xs) (parted item (room - (turn + 1)) (behind + 1) (tail rest)) else Found (x ∷ []) behind rest))) e
      ∙ ap (λ b. mapped (λ xs. found ++ xs) (if b then mapped (λ xs. x ∷ xs) (parted item (room - (turn + 1)) (new.at + 1) (tail new.kinds)) else Found (x ∷ []) new.at new.kinds)) absent

  more_parts : {x : A} {new : Ahead} → turn < room → PartsSoFar item room start found turn ahead → runs item ahead ≡ Found x new.at new.kinds
      → begins (is_sign Comma) new.kinds ≡ true → PartsSoFar item room start (found ++ x ∷ []) (turn + 1) (next new)
  unfolding parted
  more_parts {x} {new} below so_far e present = one_more from room turn below so_far ∙ ap (λ (o : Outcome A). mapped (λ xs. found ++ xs) (after o (λ x behind rest.
      if begins (is_sign Comma) rest then mapped (λ xs. x ∷ xs) (parted item (room - (turn + 1)) (behind + 1) (tail rest)) else Found (x ∷ []) behind rest))) e
      ∙ ap (λ b. mapped (λ xs. found ++ xs) (if b then mapped (λ xs. x ∷ xs) (parted item (room - (turn + 1)) (new.at + 1) (tail new.kinds)) else Found (x ∷ []) new.at new.kinds)) present
      ∙ mapped_push found x (runs (parted item (room - (turn + 1))) (next new))

  -- the same, where the list and the reader have names of their own
  pub parts_last : {x : A} {new behind : Ahead} {all : List A} {comma : Bool} → turn < room → PartsSoFar item room start found turn ahead
      → runs item ahead ≡ Found x new.at new.kinds → all ≡ found ++ x ∷ [] → comma ≡ begins (is_sign Comma) new.kinds → behind ≡ eaten (is_sign Comma) new
      → comma ≡ false → runs (parted item room) start ≡ Found all behind.at behind.kinds
  parts_last {x} {new} {behind} {all} below so_far e is_all is_comma is_behind absent =
      let none = sym is_comma ∙ absent in
      let same : behind ≡ new = is_behind ∙ ap (λ b. if b then next new else new) none in
      last_part below so_far e none ∙ ap (λ (xs : List A). Found xs new.at new.kinds) (sym is_all) ∙ ap (λ (r : Ahead). Found all r.at r.kinds) (sym same)

  pub parts_more : {x : A} {new behind : Ahead} {all : List A} {comma : Bool} → turn < room → PartsSoFar item room start found turn ahead
      → runs item ahead ≡ Found x new.at new.kinds → all ≡ found ++ x ∷ [] → comma ≡ begins (is_sign Comma) new.kinds → behind ≡ eaten (is_sign Comma) new
      → comma ≡ true → PartsSoFar item room start all (turn + 1) behind
  parts_more {x} {new} {behind} below so_far e is_all is_comma is_behind present =
      let some = sym is_comma ∙ present in
      let same : behind ≡ next new = is_behind ∙ ap (λ b. if b then next new else new) some in
      subst (λ (xs : List A). PartsSoFar item room start xs (turn + 1) behind) (sym is_all)
      (subst (λ (r : Ahead). PartsSoFar item room start (found ++ x ∷ []) (turn + 1) r) (sym same) (more_parts below so_far e some))

  pub parts_end : {position : ℕ} → room ≤ turn → PartsSoFar item room start found turn ahead → position ≡ ahead.at → runs (parted item room) start ≡ Stops position
  unfolding parted
  parts_end done so_far is_position = no_more from room turn done so_far ∙ ap (λ p. Stops p) (sym is_position)
