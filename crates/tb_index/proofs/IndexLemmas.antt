-- The facts of an index after a change of its parts.
use Rattle.std.proofs.Common.{◌≡◌, ◌≢◌, ℕ, ◌<◌, ◌≤◌, ◌/◌, Bool, true, false, ◌||◌, ◌==◌, List, [], length, Option, Some, None, refl, ap, ◌∙◌, arith, ⊎_elim, Result, Ok, Err, OnOk, OnErr}
use Rattle.std.proofs.lemmas.Bool.{eqb-true}
use Rattle.std.proofs.lemmas.Nat.Bits.{bit_at-zero}
use Rattle.std.specs.List.{list_any}
use Rattle.tb_index.specs.declared.pairs.Pairs.{Pairs}
use Rattle.tb_index.specs.declared.mark.Mark.{Mark}
use Rattle.tb_index.specs.Marks.{has_mark, wide, meets, open_head}
use Rattle.tb_index.specs.Helpers.Pairs.{has, is_sender, AreOf, AreAdded, AreRemoved, SamePairs, IsFirst, earlier}
use Rattle.tb_index.specs.Helpers.Bits.{bit_in}
use Rattle.tb_index.specs.Helpers.Ties.{is_asked, IsTied}
use Rattle.tb_index.specs.Indexes.{IndexState, sends, receives, is_receiver, is_awake, HasRoom, MayBegin, NobodyPassed, IsNext, IsEmpty, SameIndex, IsSet, IsCleared, IsTurned}
use Rattle.tb_index.proofs.ActiveLemmas as active
use Rattle.tb_index.proofs.ActiveLemmas.{same-number, apart-number}
use Rattle.tb_index.proofs.PairLemmas as pairs

abbrev pub state : Pairs → Pairs → Bool → Pairs → List ℕ → List Mark → IndexState
state sending receiving opened counted awake active = record { sending = sending; receiving = receiving; awake = awake }

pub on-err : {X E : Type 0} {P : Type 0} (result : Result X E) → P → OnErr result P
on-err (Ok value) p = tt
on-err (Err error) p = p

pub undone-pairs : (s s1 s2 : Pairs) (p : ℕ) (old new : List Mark) → AreOf s old p → AreAdded s s1 new p → AreRemoved s1 s2 new old p → SamePairs s s2
undone-pairs s s1 s2 p old new own more less = λ m o. pairs.undone (has s2 m o) (has s1 m o) (has s m o) (has_mark new m) (has_mark new m) (has_mark old m) (o == p)
    (less m o) (more m o) (λ e. ap (has s m) (eqb-true o p e) ∙ own m) (λ e. e)

module _ (s r : Pairs) (q : Bool) (c : Pairs) (a : List ℕ) (l : List Mark) where
  pub empty : ((m : Mark) (p : ℕ) → has s m p ≡ false) → ((m : Mark) (p : ℕ) → has r m p ≡ false) → a ≡ [] → IsEmpty (state s r q c a l)
  unfolding sends receives is_awake
  empty none nobody e = record {
    no_sends = none;
    no_receives = nobody;
    none_awake = λ p. ap (λ (words : List ℕ). bit_in words p == 1) e ∙ ap (λ n. n == 1) (bit_at-zero _);
  }

  pub roomy : (p : ℕ) → HasRoom (state s r q c a l) p → p / 64 < length a
  unfolding HasRoom
  roomy p room = room

  pub turned : (bits : List ℕ) (p : ℕ) (b : Bool) → (bit_in bits p == 1) ≡ b → ((k : ℕ) → k ≢ p → bit_in bits k ≡ bit_in a k) → length bits ≡ length a →
      IsTurned (state s r q c a l) (state s r q c bits l) p b
  unfolding sends receives is_awake HasRoom
  turned bits p b here others long = record {
    same_sends = λ m o. refl;
    same_receives = λ m o. refl;
    own_awake = here;
    other_awake = λ o apart. ap (λ n. n == 1) (others o apart);
    same_room = λ o room. let fits : o / 64 < length a = room in omega arith;
  }

  pub grown : (bits : List ℕ) → ((k : ℕ) → bit_in bits k ≡ bit_in a k) → length a ≤ length bits → SameIndex (state s r q c a l) (state s r q c bits l)
  unfolding sends receives is_awake HasRoom
  grown bits same long = record {
    same_sends = λ m o. refl;
    same_receives = λ m o. refl;
    same_awake = λ o. ap (λ n. n == 1) (same o);
    same_room = λ o room. let fits : o / 64 < length a = room in omega arith;
  }

  pub has-room : (p : ℕ) → p / 64 < length a → HasRoom (state s r q c a l) p
  unfolding HasRoom
  has-room p fits = fits

  pub room-made : {X E : Type 0} (p : ℕ) (result : Result X E) → OnOk result (p / 64 < length a) → OnOk result (HasRoom (state s r q c a l) p)
  unfolding HasRoom
  room-made p result room = room

  pub own-sends : (p : ℕ) (marks : List Mark) → ((m : Mark) → sends (state s r q c a l) m p ≡ has_mark marks m) → AreOf s marks p
  unfolding sends
  own-sends p marks own = own

  pub own-receives : (p : ℕ) (marks : List Mark) → ((m : Mark) → receives (state s r q c a l) m p ≡ has_mark marks m) → AreOf r marks p
  unfolding receives
  own-receives p marks own = own

  pub same-pairs : (s2 r2 : Pairs) (q2 : Bool) (c2 : Pairs) (l2 : List Mark) → SamePairs s s2 → SamePairs r r2 → SameIndex (state s r q c a l) (state s2 r2 q2 c2 a l2)
  unfolding sends receives is_awake HasRoom
  same-pairs s2 r2 q2 c2 l2 sent received = record {
    same_sends = sent;
    same_receives = received;
    same_awake = λ o. refl;
    same_room = λ o room. room;
  }

  pub unchanged : (p : ℕ) (old new gone came : List Mark) → AreOf s old p → AreOf r gone p → old ≡ new → gone ≡ came → IsSet (state s r q c a l) (state s r q c a l) p new came
  unfolding sends receives is_awake HasRoom
  unchanged p old new gone came own its same equal = record {
    own_sends = λ m. own m ∙ ap (λ (marks : List Mark). has_mark marks m) same;
    own_receives = λ m. its m ∙ ap (λ (marks : List Mark). has_mark marks m) equal;
    other_sends = λ m o apart. refl;
    other_receives = λ m o apart. refl;
    same_awake = λ o. refl;
    same_room = λ o room. room;
  }

  module _ (s1 r1 s2 r2 : Pairs) (q2 : Bool) (c2 : Pairs) (l2 : List Mark) (p : ℕ) (old new gone came : List Mark) where
    pub is-set : AreOf s old p → AreOf r gone p → AreAdded s s1 new p → AreAdded r r1 came p → AreRemoved s1 s2 old new p → AreRemoved r1 r2 gone came p →
        IsSet (state s r q c a l) (state s2 r2 q2 c2 a l2) p new came
    unfolding sends receives is_awake HasRoom
    is-set own its more others less fewer = record {
      own_sends = λ m. pairs.set-own (has s2 m p) (has s1 m p) (has s m p) (has_mark new m) (has_mark old m) (p == p) (less m p) (more m p) (same-number p) (own m);
      own_receives = λ m. pairs.set-own (has r2 m p) (has r1 m p) (has r m p) (has_mark came m) (has_mark gone m) (p == p) (fewer m p) (others m p) (same-number p) (its m);
      other_sends = λ m o apart. pairs.set-other (has s2 m o) (has s1 m o) (has s m o) (has_mark new m) (has_mark old m) (o == p) (less m o) (more m o) (apart-number o p apart);
      other_receives = λ m o apart. pairs.set-other (has r2 m o) (has r1 m o) (has r m o) (has_mark came m) (has_mark gone m) (o == p) (fewer m o) (others m o) (apart-number o p apart);
      same_awake = λ o. refl;
      same_room = λ o room. room;
    }

  pub cleared : (s2 r2 : Pairs) (q2 : Bool) (c2 : Pairs) (bits : List ℕ) (l2 : List Mark) (p : ℕ) (old gone : List Mark) → AreOf s old p → AreOf r gone p → AreRemoved s s2 old [] p → AreRemoved r r2 gone [] p →
      bit_in bits p ≡ 0 → ((k : ℕ) → k ≢ p → bit_in bits k ≡ bit_in a k) → length bits ≡ length a → IsCleared (state s r q c a l) (state s2 r2 q2 c2 bits l2) p
  unfolding sends receives is_awake HasRoom
  cleared s2 r2 q2 c2 bits l2 p old gone own its less fewer here others long = record {
    own_sends = λ m. pairs.gone-own (has s2 m p) (has s m p) (has_mark old m) (p == p) (less m p) (same-number p) (own m);
    own_receives = λ m. pairs.gone-own (has r2 m p) (has r m p) (has_mark gone m) (p == p) (fewer m p) (same-number p) (its m);
    own_awake = ap (λ n. n == 1) here;
    other_sends = λ m o apart. pairs.gone-other (has s2 m o) (has s m o) (has_mark old m) (o == p) (less m o) (apart-number o p apart);
    other_receives = λ m o apart. pairs.gone-other (has r2 m o) (has r m o) (has_mark gone m) (o == p) (fewer m o) (apart-number o p apart);
    other_awake = λ o apart. ap (λ n. n == 1) (others o apart);
    same_room = λ o room. let fits : o / 64 < length a = room in omega arith;
  }

  pub next-receiver : (m : Mark) (from : ℕ) (just open_ones : Option ℕ) → IsFirst (has r m) from just → IsFirst (has r (wide m)) from open_ones →
      IsNext (is_receiver (state s r q c a l) m) from (earlier just open_ones)
  unfolding receives
  next-receiver m from just open_ones h g = pairs.first-next _ from (earlier just open_ones) (pairs.first-both (has r m) (has r (wide m)) from just open_ones h g)

  -- if the index doesn't count, no process receives under an open mark
  pub next-closed : IsTied s r q c l → q ≡ false → (m : Mark) (from : ℕ) (just : Option ℕ) → IsFirst (has r m) from just → IsNext (is_receiver (state s r q c a l) m) from just
  unfolding receives
  next-closed tied none m from just h = pairs.first-next _ from just (pairs.first-same (has r m) (λ p. has r m p || has r (wide m) p) from just
      (λ p. ap (λ b. has r m p || b) (⊎_elim
      (λ (told : has r (wide m) p ≡ true). absurd (active.not-both q (tied.told (wide m) p told refl) none))
      (λ (nobody : has r (wide m) p ≡ false). nobody)
      (active.bool-cases (has r (wide m) p))) ∙ pairs.or-false (has r m p)) h)

  next-asked : (from : ℕ) (one other : Option ℕ) → IsFirst (λ n. bit_in a n == 1) from one →
      IsFirst (λ p. list_any (λ (m : Mark). is_sender s c m p) l) from other → IsNext (is_asked s c a l) from (earlier one other)
  unfolding is_asked
  next-asked from one other h g = pairs.first-next _ from (earlier one other) (pairs.first-both (λ n. bit_in a n == 1) (λ p. list_any (λ (m : Mark). is_sender s c m p) l) from one other h g)

  awake-asked : (p : ℕ) → is_awake (state s r q c a l) p ≡ true → is_asked s c a l p ≡ true
  unfolding is_awake is_asked
  awake-asked p e = ap (λ b. b || list_any (λ (m : Mark). is_sender s c m p) l) e

  sender-heard : IsTied s r q c l → (m k : Mark) (p o : ℕ) → has s m p ≡ true → has r k o ≡ true → meets k m ≡ true → is_sender s c k p ≡ true
  sender-heard tied m k p o e f met = ⊎_elim
      (λ (is_open : (k.head == open_head) ≡ true).
      let head : k.head ≡ open_head = eqb-true k.head open_head is_open in
      active.sender-open s c k p head ∙ ap (λ (mark : Mark). has c mark p) (active.open-meets k m head met) ∙ tied.counts (tied.told k o f head) m p e)
      (λ (closed : (k.head == open_head) ≡ false).
      let apart : k.head ≡ open_head → ⊥ = λ head. active.not-both (k.head == open_head) (ap (λ n. n == open_head) head) closed in
      active.sender-closed s c k p apart ∙ ap (λ (mark : Mark). has s mark p) (active.closed-meets k m apart met) ∙ e)
      (active.bool-cases (k.head == open_head))

  -- if some process receives a message of a process, the index names this process
  heard-asked : IsTied s r q c l → (m : Mark) (p o : ℕ) → sends (state s r q c a l) m p ≡ true → is_receiver (state s r q c a l) m o ≡ true → is_asked s c a l p ≡ true
  unfolding sends receives is_asked
  heard-asked tied m p o e f = pairs.or-right (bit_in a p == 1) (list_any (λ (k : Mark). is_sender s c k p) l) (⊎_elim
      (λ (just : has r m o ≡ true). pairs.any-marked (λ (k : Mark). is_sender s c k p) l m (tied.heard m m p o e just (active.meets-self m)) (sender-heard tied m m p o e just (active.meets-self m)))
      (λ (open_one : has r (wide m) o ≡ true). pairs.any-marked (λ (k : Mark). is_sender s c k p) l (wide m) (tied.heard (wide m) m p o e open_one (active.meets-wide m)) (sender-heard tied m (wide m) p o e open_one (active.meets-wide m)))
      (active.or-cases (has r m o) (has r (wide m) o) f))

  begins-asked : IsTied s r q c l → (p : ℕ) → MayBegin (state s r q c a l) p → is_asked s c a l p ≡ true
  begins-asked tied p may = ⊎_elim
      (λ (awake : is_awake (state s r q c a l) p ≡ true). awake-asked p awake)
      (λ (heard : (m : Mark) × (o : ℕ) × (sends (state s r q c a l) m p ≡ true) × (is_receiver (state s r q c a l) m o ≡ true)). heard-asked tied heard.0 p heard.1 heard.2 heard.3)
      may

  none-passed : IsTied s r q c l → (from : ℕ) (found : Option ℕ) → IsNext (is_asked s c a l) from found → NobodyPassed (MayBegin (state s r q c a l)) from found
  none-passed tied from None next = λ p small low may. active.not-both (is_asked s c a l p) (begins-asked tied p may) (next p small low)
  none-passed tied from (Some found) next = (next.0, λ p low less may. active.not-both (is_asked s c a l p) (begins-asked tied p may) (next.2 p low less))

  -- no process that may begin a move is passed over
  pub next-starter : IsTied s r q c l → (from : ℕ) (one other : Option ℕ) → IsFirst (λ n. bit_in a n == 1) from one →
      IsFirst (λ p. list_any (λ (m : Mark). is_sender s c m p) l) from other → NobodyPassed (MayBegin (state s r q c a l)) from (earlier one other)
  next-starter tied from one other h g = none-passed tied from (earlier one other) (next-asked from one other h g)
