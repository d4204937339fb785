-- What becomes of a row whose branch goes on, and of a walk whose offer is taken.
use Rattle.std.proofs.Common.{◌≡◌, ℕ, zero, suc, ◌<◌, true, List, [], ◌∷◌, ◌++◌, map, take, drop, length, slice_get, get_or, Option, Some, None, refl, ap, sym, subst, ◌∙◌, arith}
use Rattle.std.specs.Option.{ForSome}
use Rattle.std.proofs.lemmas.Option.{slice_get-get_or, slice_get_within}
use Rattle.tb_func.specs.declared.slot.Slot.{Slot}
use Rattle.tb_process_steps.specs.Helpers.Selections.{On}
use Rattle.tb_process_steps.specs.Processes.{Process, fresh}
use Rattle.tb_process_steps.specs.Helpers.OfferViews.{or_own}
use Rattle.tb_process_steps.specs.Offers.{Offered}
use Rattle.tb_process_steps.specs.Walks.{offers_of}
use Rattle.tb_process_steps.proofs.RewriterLemmas.{hit_is}
use Rattle.tb_code.specs.Positions.{size, part, positions, node, root}
use Rattle.tb_code.specs.declared.code.Code.{Code}
use Rattle.tb_code.specs.declared.node.Node.{Node}
use Rattle.tb_code.specs.declared.node.Op.{Op}
use Rattle.tb_code.specs.declared.node.Op.TheVariants as op
use Rattle.tb_code.proofs.Parts.{length-positions, op_here}
use Rattle.tb_walk.specs.Lefts.{left}
use Rattle.tb_walk.specs.Helpers.Reads.{Reads}
use Rattle.tb_walk.specs.Helpers.Partings.{branch_by}
use Rattle.tb_walk.specs.Helpers.Sights.{sighted}
use Rattle.tb_walk.specs.Helpers.Takings.{Picks, IsInRow, IsMadeBy, IsTakenBy, SettlesTo, row_after}
use Rattle.tb_walk.specs.WalkViews.{walking_of, IsOnCode, IsFound, IsLeft, IsMade}
use Rattle.tb_walk.specs.declared.branch.Branch.{Branch}
use Rattle.tb_walk.specs.declared.sight.Sight.{Sight}
use Rattle.tb_walk.specs.declared.taken.Outcome.{Outcome}
use Rattle.tb_walk.specs.declared.taken.Taken.{Taken}
use Rattle.tb_walk.specs.declared.taken.Taken.TheVariants as taken
use Rattle.tb_walk.specs.declared.walk.Walk.{Walk}
use Rattle.tb_walk.proofs.EndingLemmas.{IsBegun}
use Rattle.tb_walk.proofs.LeftLemmas.{left-read}
use Rattle.tb_walk.proofs.Steps.{went}
use Rattle.tb_walk.proofs.WalkLemmas.{are_there, read_left, hits_of, all_of, found_length, is_in_row, one_found, picked}

-- a row round one of its branches

pub row_round : (row : List Branch) (at : ℕ) (b : Branch) → slice_get row at ≡ Some b → row ≡ take at row ++ (b ∷ drop (suc at) row)
row_round [] at b e = (let t : ◌≡◌ {A = Option Branch} None (Some b) = e in cc)
row_round (c ∷ row) zero b e = (let same : c ≡ b = (let t : ◌≡◌ {A = Option Branch} (Some c) (Some b) = e in cc) in ap (λ (d : Branch). d ∷ row) same)
row_round (c ∷ row) (suc at) b e = ap (λ (l : List Branch). c ∷ l) (row_round row at b e)

-- what becomes of a row

-- an offer that is taken

node_there : (whole : Process) (at : ℕ) → at < size whole → (n : Node) × (slice_get (positions whole) at ≡ Some n)
node_there whole at h =
    let none : Node = node (op.At 0) None in
    let l = length-positions whole in
    (get_or (positions whole) at none, slice_get-get_or (positions whole) at none (omega arith))

-- what is left once a branch has gone on
pub record Goes (code : Code) (walk : Walk) (new : List Branch) (own : List Slot) (offered : Offered) : Type 0 where
  pub reads : Reads walk.ticks 0 (fresh code.body.tree) new (left walk.ticks new 0 (fresh code.body.tree))
  pub term : left walk.ticks new 0 (fresh code.body.tree) ≡ offered.residual
  pub store : own ≡ offered.store

pub goes_on : (code : Code) (walk : Walk) (k at : ℕ) (inside new : List Branch) (own : List Slot) (offered : Offered) → IsOnCode code walk →
    Picks (fresh code.body.tree) walk.ticks walk.row walk.store k at inside own →
    SettlesTo (fresh code.body.tree) walk.ticks walk.row at inside new →
    slice_get (offers_of (walking_of code walk)) k ≡ Some offered → Goes code walk new own offered
goes_on code walk k at inside new own offered on p settles here =
    let whole = fresh code.body.tree in
    let there = are_there walk.ticks whole walk.row (left walk.ticks walk.row 0 whole) on.reads at p.one p.here in
    let n = node_there whole p.one.position there.0 in
    let w = went whole walk.ticks walk.row (take at walk.row) p.one (drop (suc at) walk.row) (left walk.ticks walk.row 0 whole) n.0 inside p.takes.left walk.store own k p.rest
    on.reads (row_round walk.row at p.one p.here) n.1 (subst (λ (o : Op). Reads walk.ticks (root o p.one.position) (part whole p.one.position) inside p.takes.left) (op_here whole (positions whole) p.one.position n.0 refl n.1) p.takes.reads) p.takes.selects p.counts in
    let after = settles p.one n.0 p.here n.1 in
    let reads = subst (λ (l : List Branch). Reads walk.ticks 0 whole l w.left) (sym after) w.reads in
    let both : On w.left own ≡ On offered.residual offered.store = sym (hits_of code walk k ∙ w.selects) ∙ hit_is k (offers_of (walking_of code walk)) offered here in
    let same : w.left ≡ offered.residual = cc in
    let store : own ≡ offered.store = cc in
    record {
      reads = read_left walk.ticks whole new w.left reads;
      term = left-read walk.ticks reads ∙ same;
      store = store;
    }

-- an atom that was found is taken, and what comes of it was made
pub made_found : (code : Code) (walk : Walk) (on : IsOnCode code walk) (now : ℕ) (found : List Sight) → map (sighted walk.store) found ≡ all_of code walk now →
    (k : ℕ) (one : Sight) (outcome : Outcome) → slice_get found k ≡ Some one → IsMadeBy (fresh code.body.tree) walk.ticks walk.row one outcome → ForSome (slice_get (offers_of (walking_of code walk)) k) (IsMade code walk outcome)
made_found code walk on now found e k one outcome g t offered here =
    let whole = fresh code.body.tree in
    let p = picked code walk on now found e k one g in
    let inside = branch_by whole walk.ticks p.0 one.position in
    let settled = t.1 p.0 p.1.0 in
    let picks = subst (λ (own : Option (List Slot)). Picks whole walk.ticks walk.row walk.store k one.branch inside (or_own own walk.store)) (sym t.0) p.1.1 in
    let goes = goes_on code walk k one.branch inside (row_after walk.row outcome.step) (or_own outcome.own walk.store) offered on picks settled.after here in
    record { within = settled.within; reads = goes.reads; term = goes.term; store = goes.store }

pub taken_found : (code : Code) (walk : Walk) (on : IsOnCode code walk) (now : ℕ) (found : List Sight) → map (sighted walk.store) found ≡ all_of code walk now →
    (k : ℕ) (one : Sight) (given : Taken) → slice_get found k ≡ Some one → IsTakenBy (fresh code.body.tree) walk.ticks walk.row one given → ForSome (slice_get (offers_of (walking_of code walk)) k) (IsLeft code walk given)
taken_found code walk on now found e k one (taken.Made outcome) g t offered here = made_found code walk on now found e k one outcome g t offered here
taken_found code walk on now found e k one (taken.Ended i) g t offered here = absurd t
taken_found code walk on now found e k one (taken.Entered i position) g t offered here = absurd t

-- what was found at an index

pub within_all : (code : Code) (walk : Walk) (on : IsOnCode code walk) (now : ℕ) (found : List Sight) → map (sighted walk.store) found ≡ all_of code walk now → (k : ℕ) → k < length (offers_of (walking_of code walk)) → k < length found
within_all code walk on now found e k h = (let n = found_length code walk on now found e in omega arith)

pub found_within : (code : Code) (walk : Walk) → IsOnCode code walk → walk.fresh ≡ true → (k : ℕ) → k < length (offers_of (walking_of code walk)) → k < length walk.found
found_within code walk on seen k h = (let all = on.found seen in within_all code walk on all.0 walk.found all.1 k h)

pub in_row_at : (code : Code) (walk : Walk) → IsOnCode code walk → walk.fresh ≡ true → (k : ℕ) (one : Sight) → slice_get walk.found k ≡ Some one → IsInRow (fresh code.body.tree) walk.row one
in_row_at code walk on seen k one g = (let all = on.found seen in is_in_row code walk on all.0 walk.found all.1 k one g)

-- it may be taken by its index
pub found_at : (code : Code) (walk : Walk) (k : ℕ) (inside : List Branch) (one : Sight) → walk.fresh ≡ true → slice_get walk.found k ≡ Some one →
    IsBegun (fresh code.body.tree) walk.row one.branch →
    ((b : Branch) → slice_get walk.row one.branch ≡ Some b → branch_by (fresh code.body.tree) walk.ticks b one.position ≡ inside) →
    ForSome (slice_get (offers_of (walking_of code walk)) k) (IsFound code walk k inside)
found_at code walk k inside one seen g begun leaves offered here = record {
  seen = seen;
  offer = here;
  begins = λ other b i j.
      (let same : one ≡ other = (let t : ◌≡◌ {A = Option Sight} (Some one) (Some other) = sym g ∙ i in cc) in
      begun b (ap (λ (s : Sight). slice_get walk.row s.branch) same ∙ j));
  leaves = λ other b i j.
      (let same : one ≡ other = (let t : ◌≡◌ {A = Option Sight} (Some one) (Some other) = sym g ∙ i in cc) in
      ap (λ (s : Sight). branch_by (fresh code.body.tree) walk.ticks b s.position) (sym same) ∙ leaves b (ap (λ (s : Sight). slice_get walk.row s.branch) same ∙ j));
}

pub record Here (code : Code) (walk : Walk) (k : ℕ) (inside : List Branch) (offered : Offered) : Type 0 where
  pub one : Sight
  pub found : slice_get walk.found k ≡ Some one
  pub in_row : IsInRow (fresh code.body.tree) walk.row one
  pub begun : IsBegun (fresh code.body.tree) walk.row one.branch
  pub goes : (new : List Branch) → SettlesTo (fresh code.body.tree) walk.ticks walk.row one.branch inside new → Goes code walk new (or_own one.own walk.store) offered

pub here_found : (code : Code) (walk : Walk) (k : ℕ) (inside : List Branch) (offered : Offered) → IsOnCode code walk → IsFound code walk k inside offered → Here code walk k inside offered
here_found code walk k inside offered on f =
    let whole = fresh code.body.tree in
    let all = on.found f.seen in
    let within : k < length (offers_of (walking_of code walk)) = slice_get_within (offers_of (walking_of code walk)) k offered f.offer in
    let one = one_found code walk on all.0 walk.found all.1 k within in
    let p = picked code walk on all.0 walk.found all.1 k one.0 one.1 in
    let picks = subst (λ (l : List Branch). Picks whole walk.ticks walk.row walk.store k one.0.branch l (or_own one.0.own walk.store)) (f.leaves one.0 p.0 one.1 p.1.0) p.1.1 in
    record {
      one = one.0;
      found = one.1;
      in_row = is_in_row code walk on all.0 walk.found all.1 k one.0 one.1;
      begun = λ b h. f.begins one.0 b one.1 h;
      goes = λ new settles. goes_on code walk k one.0.branch inside new (or_own one.0.own walk.store) offered on picks settles f.offer;
    }
