-- The order in which a search asks the processes, which are in the order of their numbers.
use Rattle.std.proofs.Common.{◌≡◌, ℕ, ◌<◌, ◌≤◌, zero, suc, List, [], ◌∷◌, ◌++◌, take, drop, length, refl, ap, sym, ◌∙◌, arith, rules, Some, None, Bool, true, false, ◌==◌, nat_lt, nat_le, get_or, if◌then◌else◌, Option}
use Rattle.std.proofs.lemmas.Bool.{leb-true, le-leb, eqb-true}
use Rattle.std.proofs.lemmas.List.{drop_all, length-map, get_or-map}
use Rattle.std.specs.List.{AllWithin}
use Rattle.std.specs.List.Sorted.{IsPartitionedBy, IsPartitionPoint}
use Rattle.tb_search.specs.Candidates.{Row, Scene, candidates_from, candidates_in_turn, candidates_or_halt, candidates_while_up, all_candidates, up_to, ascend, row_of, rows_of}
use Rattle.tb_bus.specs.Steps.{first}
use Rattle.tb_search.specs.declared.marks.Marks.{Marks}
use Rattle.tb_search.specs.declared.living.Living.{Living}
use Rattle.tb_search.specs.declared.candidate.Candidate.{Candidate}
use Rattle.tb_search.specs.declared.candidate.Candidate.TheVariants.{Finish}
use Rattle.tb_terms.proofs.SameLemmas.{both-true}

-- the first number is above the bound, and the others ascend from it
pub ascend-first : (below : ℕ) (row : Row) (rows : List Row) → ascend below (row ∷ rows) ≡ true → (below < row.number) × (ascend row.number rows ≡ true)
ascend-first below row rows h = let t = both-true (nat_lt below row.number) (ascend row.number rows) h in (search (rules), t.1)

-- each number is above the bound
pub ascend-above : (below : ℕ) (rows : List Row) (k : ℕ) (d : Row) → ascend below rows ≡ true → k < length rows → below < (get_or rows k d).number
ascend-above below [] k d h l = absurd (omega arith)
ascend-above below (row ∷ rows) zero d h l = (ascend-first below row rows h).0
ascend-above below (row ∷ rows) (suc k) d h l =
    let t = ascend-first below row rows h in
    let above = ascend-above row.number rows k d t.1 (omega arith) in
    omega arith

pub ascend-upto : (below : ℕ) (rows : List Row) (i j : ℕ) (d : Row) → ascend below rows ≡ true → i ≤ j → j < length rows → (get_or rows i d).number ≤ (get_or rows j d).number
ascend-upto below [] i j d h l m = absurd (omega arith)
ascend-upto below (row ∷ rows) zero zero d h l m = omega arith
ascend-upto below (row ∷ rows) (suc i) zero d h l m = absurd (omega arith)
ascend-upto below (row ∷ rows) zero (suc j) d h l m = let above = ascend-above row.number rows j d (ascend-first below row rows h).1 (omega arith) in omega arith
ascend-upto below (row ∷ rows) (suc i) (suc j) d h l m = ascend-upto row.number rows i j d (ascend-first below row rows h).1 (omega arith) (omega arith)

-- the processes with numbers up to a number come first
pub partitioned-by_number : {W : Type 0} (all : List (Living W)) (number : ℕ) → ascend 0 (rows_of all) ≡ true → IsPartitionedBy (λ living. nat_le living.number number) all
partitioned-by_number all number h i j d le within passes =
    let small : (get_or all j d).number ≤ number = leb-true _ _ passes in
    let many = length-map all row_of in
    let between = ascend-upto 0 (rows_of all) i j (row_of d) h le (omega arith) in
    let lower : (get_or (rows_of all) i (row_of d)).number ≡ (get_or all i d).number = ap (λ (row : Row). row.number) (get_or-map row_of all i d (row_of d) (omega arith)) in
    let upper : (get_or (rows_of all) j (row_of d)).number ≡ (get_or all j d).number = ap (λ (row : Row). row.number) (get_or-map row_of all j d (row_of d) (omega arith)) in
    le-leb (get_or all i d).number number (omega arith)

up_to-within : {W : Type 0} (last : ℕ) (all : List (Living W)) (i : ℕ) → i ≤ length all →
    AllWithin (λ living. nat_le living.number last ≡ true) all 0 i → AllWithin (λ living. nat_le living.number last ≡ false) all i (length all) → i ≡ up_to last (rows_of all)
up_to-within last [] i le f g = omega arith
up_to-within last (living ∷ all) zero le f g =
    let e : nat_le living.number last ≡ false = g 0 living (omega arith) (omega arith) in
    rw e refl
up_to-within last (living ∷ all) (suc i) le f g =
    let e : nat_le living.number last ≡ true = f 0 living (omega arith) (omega arith) in
    let rest : i ≡ up_to last (rows_of all) = up_to-within last all i (omega arith) (λ k d l h. f (suc k) d (omega arith) (omega arith)) (λ k d l h. g (suc k) d (omega arith) (omega arith)) in
    rw e (omega arith)

-- the point between the processes up to a number and the others is the number of the former
pub up_to-point : {W : Type 0} (last : ℕ) (all : List (Living W)) (i : ℕ) → i ≤ length all →
    IsPartitionPoint (λ living. nat_le living.number last ≡ true) (λ living. nat_le living.number last ≡ false) all i → i ≡ up_to last (rows_of all)
up_to-point last all i le h = up_to-within last all i le h.0 h.1

-- there are as many rows as processes that are alive
pub nobody-is : {W : Type 0} (all : List (Living W)) → (length (rows_of all) == 0) ≡ (length all == 0)
nobody-is all = ap (λ n. n == 0) (length-map all row_of)

first-append_some : {A : Type 0} (xs ys : List A) (x : A) → Some x ≡ first xs → Some x ≡ first (xs ++ ys)
first-append_some [] ys x e = cc
first-append_some (y ∷ xs) ys x e = e

none-from_first : {A : Type 0} (xs : List A) → None ≡ first xs → xs ≡ []
none-from_first [] e = refl
none-from_first (x ∷ xs) e = cc

-- a candidate that is found after the last starter is the first in turn
pub turn-found : (scene : Scene) (last start : ℕ) (found : Candidate) → start ≡ up_to last scene.rows → Some found ≡ first (candidates_from scene start (drop start scene.rows)) →
    Some found ≡ first (candidates_in_turn scene last)
unfolding candidates_in_turn
turn-found scene last start found e selected =
    let at = up_to last scene.rows in
    first-append_some (candidates_from scene at (drop at scene.rows)) (candidates_from scene 0 (take at scene.rows)) found (rw e at selected)

-- if no candidate is found after the last starter, the first one of the others is the first in turn
pub turn-again : (scene : Scene) (last start : ℕ) → start ≡ up_to last scene.rows → None ≡ first (candidates_from scene start (drop start scene.rows)) →
    first (candidates_from scene 0 (take start scene.rows)) ≡ first (candidates_in_turn scene last)
unfolding candidates_in_turn
turn-again scene last start e miss =
    let at = up_to last scene.rows in
    let nothing : candidates_from scene at (drop at scene.rows) ≡ [] = none-from_first (candidates_from scene at (drop at scene.rows)) (rw e at miss) in
    ap (λ k. first (candidates_from scene 0 (take k scene.rows))) e ∙ sym (ap (λ fs. first (fs ++ candidates_from scene 0 (take at scene.rows))) nothing)

-- if no process is left after the last starter, no candidate is found there
pub none-behind : (scene : Scene) (start : ℕ) → length scene.rows ≤ start → None ≡ first (candidates_from scene start (drop start scene.rows))
none-behind scene start most = rw (drop_all start scene.rows most) refl

or_halt-some : (no_ticks : Bool) (candidates : List Candidate) (found : Candidate) → Some found ≡ first candidates → Some found ≡ first (candidates_or_halt no_ticks candidates)
or_halt-some no_ticks [] found e = cc
or_halt-some no_ticks (f ∷ candidates) found e = e

or_halt-none : (no_ticks : Bool) (candidates : List Candidate) → None ≡ first candidates → first (candidates_or_halt no_ticks []) ≡ first (candidates_or_halt no_ticks candidates)
or_halt-none no_ticks [] e = refl
or_halt-none no_ticks (f ∷ candidates) e = cc

down-by : (down : Bool) (candidates : List Candidate) → down ≡ true → None ≡ first (if down then [] else candidates)
down-by true candidates e = refl
down-by false candidates e = cc

up-by : (down : Bool) (candidates : List Candidate) (found : Option Candidate) → down ≡ false → found ≡ first candidates → found ≡ first (if down then [] else candidates)
up-by true candidates found e f = cc
up-by false candidates found e f = f

while_up-finish : (scene : Scene) (marks : Marks) (rows : List Row) → (length rows == 0) ≡ true → Some Finish ≡ first (candidates_while_up scene marks rows)
while_up-finish scene marks [] f = refl
while_up-finish scene marks (row ∷ rows) f = let nobody : length (row ∷ rows) ≡ 0 = eqb-true _ _ f in absurd (omega arith)

while_up-some : (scene : Scene) (marks : Marks) (rows : List Row) (found : Candidate) → (length rows == 0) ≡ false →
    Some found ≡ first (candidates_in_turn scene marks.last_starter) → Some found ≡ first (candidates_while_up scene marks rows)
while_up-some scene marks [] found f selected = cc
while_up-some scene marks (row ∷ rows) found f selected = or_halt-some marks.no_ticks (candidates_in_turn scene marks.last_starter) found selected

while_up-none : (scene : Scene) (marks : Marks) (rows : List Row) → (length rows == 0) ≡ false →
    None ≡ first (candidates_in_turn scene marks.last_starter) → first (candidates_or_halt marks.no_ticks []) ≡ first (candidates_while_up scene marks rows)
while_up-none scene marks [] f miss = cc
while_up-none scene marks (row ∷ rows) f miss = or_halt-none marks.no_ticks (candidates_in_turn scene marks.last_starter) miss

module _ (scene : Scene) (marks : Marks) where
  -- no candidate is found on a bus that has shut down
  pub first_all-down : marks.down ≡ true → None ≡ first (all_candidates scene marks)
  unfolding all_candidates
  first_all-down e = down-by marks.down (candidates_while_up scene marks scene.rows) e

  -- if no process is left, the bus finishes
  pub first_all-finish : marks.down ≡ false → (length scene.rows == 0) ≡ true → Some Finish ≡ first (all_candidates scene marks)
  unfolding all_candidates
  first_all-finish e f =
      up-by marks.down (candidates_while_up scene marks scene.rows) (Some Finish) e (while_up-finish scene marks scene.rows f)

  -- the first candidate of the processes is the first of all candidates
  pub first_all-some : (found : Candidate) → marks.down ≡ false → (length scene.rows == 0) ≡ false →
      Some found ≡ first (candidates_in_turn scene marks.last_starter) → Some found ≡ first (all_candidates scene marks)
  unfolding all_candidates
  first_all-some found e f selected =
      up-by marks.down (candidates_while_up scene marks scene.rows) (Some found) e (while_up-some scene marks scene.rows found f selected)

  -- if the processes can do nothing, only the halt is left
  pub first_all-none : marks.down ≡ false → (length scene.rows == 0) ≡ false →
      None ≡ first (candidates_in_turn scene marks.last_starter) → first (candidates_or_halt marks.no_ticks []) ≡ first (all_candidates scene marks)
  unfolding all_candidates
  first_all-none e f miss =
      up-by marks.down (candidates_while_up scene marks scene.rows) (first (candidates_or_halt marks.no_ticks [])) e (while_up-none scene marks scene.rows f miss)
