-- The loop that collects the members of a chain agrees with the recursion that defines the chain.
use Rattle.std.proofs.Common.{◌≡◌, ℕ, ◌+◌, ◌-◌, ◌<◌, ◌≤◌, Bool, true, false, List, [], ◌∷◌, ◌++◌, refl, sym, ap, subst, ◌∙◌, arith, if◌then◌else◌}
use Rattle.tb_syntax.specs.declared.proc.Proc.{Proc}
use Rattle.tb_parse.specs.declared.built.Built.{Built}
use Rattle.tb_parse.specs.declared.built.Chain.{Chain}
use Rattle.tb_parse.specs.declared.built.Chain.TheVariants as chain
use Rattle.tb_parse.specs.Helpers.Parsing.{Outcome, Found, Stops, Parser, after, mapped, begins, is_sign, tail, rightward, transfer, merge, choice, sequence}
use Rattle.tb_parse.specs.Helpers.Heights.{built, as_built, both, joined, join_of, sign_of, chained, member}
use Rattle.tb_parse.specs.Helpers.Reading.{Ahead, runs, next, eaten}
use Rattle.tb_parse.proofs.Trees.{built_link, seen, unseen}
use Rattle.tb_parse.proofs.Turns.{one_more, no_more}

-- the chain that is left, for so many turns
abbrev pub rest_of : Chain → ℕ → ℕ → Parser Proc
rest_of link room n = rightward (sign_of link) (join_of link) (member link room) n

-- the members so far, joined with what comes in the turns that are left
abbrev pub ChainSoFar : Chain → ℕ → Ahead → List Built → ℕ → Ahead → Type 0
ChainSoFar link room start prefix turn ahead =
    runs (as_built (chained link room)) start ≡ mapped (joined (join_of link) prefix) (runs (as_built (rest_of link room (room - turn))) ahead)

chain_is : (link : Chain) (room : ℕ) (start : Ahead) → runs (as_built (chained link room)) start ≡ runs (as_built (rest_of link room room)) start
unfolding transfer merge choice sequence
chain_is chain.Disrupt room start = refl
chain_is chain.Par room start = refl
chain_is chain.Alt room start = refl
chain_is chain.Seq room start = refl

pub joined_push : (join : Proc → Proc → Proc) (prefix : List Built) (x last : Built) → joined join (prefix ++ x ∷ []) last ≡ joined join prefix (both join x last)
joined_push join [] x last = refl
joined_push join (y ∷ prefix) x last = ap (λ b. both join y b) (joined_push join prefix x last)

mapped_none : (join : Proc → Proc → Proc) (o : Outcome Built) → o ≡ mapped (joined join []) o
mapped_none join (Found b at ks) = refl
mapped_none join (Stops at) = refl

mapped_push : (link : Chain) (prefix : List Built) (p : Proc) (o : Outcome Proc)
    → mapped (joined (join_of link) prefix) (mapped built (mapped (join_of link p) o)) ≡ mapped (joined (join_of link) (prefix ++ built p ∷ [])) (mapped built o)
mapped_push link prefix p (Found q at ks) =
    ap (λ b. Found b at ks) (ap (λ b. joined (join_of link) prefix b) (built_link link p q) ∙ sym (joined_push (join_of link) prefix (built p) (built q)))
mapped_push link prefix p (Stops at) = refl

pub chain_begin : (link : Chain) (room : ℕ) (start : Ahead) {none : List Built} → none ≡ [] → ChainSoFar link room start none 0 start
chain_begin link room start {none} is_none =
    let e : room ≡ room - 0 = omega arith in
    let begins : ChainSoFar link room start [] 0 start = chain_is link room start ∙ mapped_none (join_of link) (runs (as_built (rest_of link room room)) start)
    ∙ ap (λ n. mapped (joined (join_of link) []) (runs (as_built (rest_of link room n)) start)) e in
    subst (λ (xs : List Built). ChainSoFar link room start xs 0 start) (sym is_none) begins

module _ (link : Chain) (room : ℕ) (start : Ahead) (prefix : List Built) (turn : ℕ) (ahead : Ahead) where
  abbrev from : ℕ → Outcome Built
  from n = mapped (joined (join_of link) prefix) (runs (as_built (rest_of link room n)) ahead)

  abbrev behind_one : Bool → Proc → Parser Proc
  behind_one more x at ks = if more then mapped (join_of link x) (rest_of link room (room - (turn + 1)) (at + 1) (tail ks)) else Found x at ks

  -- what comes of one member
  abbrev step : Outcome Proc → Outcome Built
  step o = mapped (joined (join_of link) prefix) (mapped built (after o (λ x at ks. behind_one (begins (is_sign (sign_of link)) ks) x at ks)))

  goes : turn < room → ChainSoFar link room start prefix turn ahead → runs (as_built (chained link room)) start ≡ step (runs (member link room) ahead)
  unfolding rightward
  goes below so_far = one_more from room turn below so_far

  pub chain_stop : {position : ℕ} → turn < room → ChainSoFar link room start prefix turn ahead → runs (as_built (member link room)) ahead ≡ Stops position
      → runs (as_built (chained link room)) start ≡ Stops position
  chain_stop below so_far e = goes below so_far ∙ ap step (unseen built (runs (member link room) ahead) e)

  pub chain_last : {x made : Built} {new behind : Ahead} {more : Bool} → turn < room → ChainSoFar link room start prefix turn ahead
      → runs (as_built (member link room)) ahead ≡ Found x new.at new.kinds → made ≡ joined (join_of link) prefix x → more ≡ begins (is_sign (sign_of link)) new.kinds
      → behind ≡ eaten (is_sign (sign_of link)) new → more ≡ false → runs (as_built (chained link room)) start ≡ Found made behind.at behind.kinds
  chain_last {x} {made} {new} {behind} below so_far e is_made is_more is_behind absent =
      let none = sym is_more ∙ absent in
      let same : behind ≡ new = is_behind ∙ ap (λ b. if b then next new else new) none in
      let one = seen built (runs (member link room) ahead) e in
      goes below so_far ∙ ap step one.2
      ∙ ap (λ more. mapped (joined (join_of link) prefix) (mapped built (behind_one more one.0 new.at new.kinds))) none
      ∙ ap (λ (b : Built). Found b new.at new.kinds) (ap (λ b. joined (join_of link) prefix b) (sym one.1) ∙ sym is_made)
      ∙ ap (λ (r : Ahead). Found made r.at r.kinds) (sym same)

  pub chain_more : {x : Built} {all : List Built} {new behind : Ahead} {more : Bool} → turn < room → ChainSoFar link room start prefix turn ahead
      → runs (as_built (member link room)) ahead ≡ Found x new.at new.kinds → all ≡ prefix ++ x ∷ [] → more ≡ begins (is_sign (sign_of link)) new.kinds
      → behind ≡ eaten (is_sign (sign_of link)) new → more ≡ true → ChainSoFar link room start all (turn + 1) behind
  chain_more {x} {all} {new} {behind} below so_far e is_all is_more is_behind present =
      let some = sym is_more ∙ present in
      let same : behind ≡ next new = is_behind ∙ ap (λ b. if b then next new else new) some in
      let one = seen built (runs (member link room) ahead) e in
      let so_far_more : ChainSoFar link room start (prefix ++ built one.0 ∷ []) (turn + 1) (next new) =
      goes below so_far ∙ ap step one.2
      ∙ ap (λ more. mapped (joined (join_of link) prefix) (mapped built (behind_one more one.0 new.at new.kinds))) some
      ∙ mapped_push link prefix one.0 (runs (rest_of link room (room - (turn + 1))) (next new)) in
      let same_all : prefix ++ built one.0 ∷ [] ≡ all = ap (λ b. prefix ++ b ∷ []) (sym one.1) ∙ sym is_all in
      subst (λ (xs : List Built). ChainSoFar link room start xs (turn + 1) behind) same_all
      (subst (λ (r : Ahead). ChainSoFar link room start (prefix ++ built one.0 ∷ []) (turn + 1) r) (sym same) so_far_more)

  pub chain_end : {position : ℕ} → room ≤ turn → ChainSoFar link room start prefix turn ahead → position ≡ ahead.at → runs (as_built (chained link room)) start ≡ Stops position
  unfolding rightward
  chain_end done so_far is_position = no_more from room turn done so_far ∙ ap (λ p. Stops p) (sym is_position)
