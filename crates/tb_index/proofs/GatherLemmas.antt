-- Sets of all processes with a wanted mark.
use Rattle.std.proofs.Common.{◌≡◌, ℕ, Bool, true, false, ◌&&◌, ◌||◌, ◌==◌, List, [], ◌∷◌, ◌⊎◌, inl, inr, ⊎_elim, Option, Some, None, refl, ap, sym, ◌∙◌, arith}
use Rattle.std.proofs.lemmas.Bool.Decides.{nat_tests}
use Rattle.std.specs.List.{list_any}
use Rattle.std.specs.Ordering.{is_eq, nat_cmp}
use Rattle.std.specs.BTreeMap.{is_at}
use Rattle.std.specs.BTreeSet.{BTreeSet, contains}
use Rattle.tb_index.specs.declared.pairs.Pairs.{Pairs}
use Rattle.tb_index.specs.declared.mark.Mark.{Mark}
use Rattle.tb_index.specs.Marks.{wide, meets}
use Rattle.tb_index.specs.Indexes.{sends, receives, IsSender, IsReceiver, AreThose}
use Rattle.tb_index.specs.Helpers.Pairs.{has, in_few, in_many, is_pair, is_among, is_wanted, triple_cmp, AreGathered}
use Rattle.tb_index.proofs.ActiveLemmas as active
use Rattle.tb_index.proofs.PairLemmas as pairs
use Rattle.tb_index.proofs.IndexLemmas.{state}

-- first the processes in slots are gathered, and then those in the ordered set
pub gathered-has : (marked : Pairs) (x y z : BTreeSet ℕ) (sent : Option Mark) → AreGathered x y sent (in_few marked.few.items) → AreGathered y z sent (in_many marked.many) → AreGathered x z sent (has marked)
unfolding has
gathered-has marked x y z sent one two = record {
  kept = λ p e. two.kept p (one.kept p e);
  all = λ m p e w. ⊎_elim
      (λ (few : in_few marked.few.items m p ≡ true). two.kept p (one.all m p few w))
      (λ (many : in_many marked.many m p ≡ true). two.all m p many w)
      (active.or-cases (in_few marked.few.items m p) (in_many marked.many m p) e);
  only = λ p e. ⊎_elim
      (λ (was : contains nat_cmp y p ≡ true). ⊎_elim
      (λ (before : contains nat_cmp x p ≡ true). inl before)
      (λ (t : (m : Mark) × (in_few marked.few.items m p ≡ true) × (is_wanted sent m ≡ true)). inr (t.0, ap (λ b. b || in_many marked.many t.0 p) t.1, t.2))
      (one.only p was))
      (λ (t : (m : Mark) × (in_many marked.many m p ≡ true) × (is_wanted sent m ≡ true)). inr (t.0, pairs.or-right (in_few marked.few.items t.0 p) (in_many marked.many t.0 p) t.1, t.2))
      (two.only p e);
}

triple-at : (a b p c d q : ℕ) → is_eq (triple_cmp (a, b, p) (c, d, q)) ≡ ((a == c) && (b == d)) && (p == q)
triple-at a b p c d q = grind (arith, nat_tests)

-- a triple is the pair of its own mark and process
pair-at : (m : Mark) (p : ℕ) (t : ℕ × ℕ × ℕ) → is_at (triple_cmp (m.count, m.head, p)) t ≡ is_pair (record { count = t.0; head = t.1 }) t.2 m p
pair-at m p t = triple-at m.count m.head p t.0 t.1 t.2

-- one more triple is gathered
pub gathered-triple : (many : BTreeSet (ℕ × ℕ × ℕ)) (first old new : BTreeSet ℕ) (sent : Option Mark) (t : ℕ × ℕ × ℕ) (coming rest : List (ℕ × ℕ × ℕ)) → coming ≡ t ∷ rest →
    AreGathered old new sent (is_pair (record { count = t.0; head = t.1 }) t.2) →
    ((p : ℕ) → contains nat_cmp first p ≡ true → contains nat_cmp old p ≡ true) →
    ((m : Mark) (p : ℕ) → in_many many m p ≡ true → is_wanted sent m ≡ true → (is_among m p coming ≡ true) ⊎ (contains nat_cmp old p ≡ true)) →
    ((p : ℕ) → contains nat_cmp old p ≡ true → (contains nat_cmp first p ≡ true) ⊎ ((m : Mark) × (in_many many m p ≡ true) × (is_wanted sent m ≡ true))) →
    ((m : Mark) (p : ℕ) → is_among m p coming ≡ true → in_many many m p ≡ true) →
    ((p : ℕ) → contains nat_cmp first p ≡ true → contains nat_cmp new p ≡ true)
    × ((m : Mark) (p : ℕ) → in_many many m p ≡ true → is_wanted sent m ≡ true → (is_among m p rest ≡ true) ⊎ (contains nat_cmp new p ≡ true))
    × ((p : ℕ) → contains nat_cmp new p ≡ true → (contains nat_cmp first p ≡ true) ⊎ ((m : Mark) × (in_many many m p ≡ true) × (is_wanted sent m ≡ true)))
    × ((m : Mark) (p : ℕ) → is_among m p rest ≡ true → in_many many m p ≡ true)
gathered-triple many first old new sent t coming rest is one kept all only there = (
  λ p e. one.kept p (kept p e),
  λ m p e w. ⊎_elim
      (λ (was : is_among m p coming ≡ true). ⊎_elim
      (λ (here : is_at (triple_cmp (m.count, m.head, p)) t ≡ true). inr (one.all m p (sym (pair-at m p t) ∙ here) w))
      (λ (later : is_among m p rest ≡ true). inl later)
      (active.or-cases (is_at (triple_cmp (m.count, m.head, p)) t) (is_among m p rest) (sym (ap (is_among m p) is) ∙ was)))
      (λ (had : contains nat_cmp old p ≡ true). inr (one.kept p had))
      (all m p e w),
  λ p e. ⊎_elim
      (λ (was : contains nat_cmp old p ≡ true). only p was)
      (λ (x : (m : Mark) × (is_pair (record { count = t.0; head = t.1 }) t.2 m p ≡ true) × (is_wanted sent m ≡ true)).
      inr (x.0, there x.0 p (ap (is_among x.0 p) is ∙ ap (λ b. b || is_among x.0 p rest) (pair-at x.0 p t ∙ x.1)), x.2))
      (one.only p e),
  λ m p e. there m p (ap (is_among m p) is ∙ pairs.or-right (is_at (triple_cmp (m.count, m.head, p)) t) (is_among m p rest) e),
)

none-in : (found : BTreeSet ℕ) (p : ℕ) → found.keys ≡ [] → contains nat_cmp found p ≡ false
none-in found p e = ap (list_any (is_at (nat_cmp p))) e

module _ (s r : Pairs) (q : Bool) (c : Pairs) (a : List ℕ) (l : List Mark) (empty found : BTreeSet ℕ) (none : empty.keys ≡ []) where
  -- if each mark is wanted, the set has exactly the processes that send
  pub all-senders : AreGathered empty found None (has s) → AreThose (IsSender (state s r q c a l)) found
  unfolding sends
  all-senders gathered p = (
    λ e. ⊎_elim
        (λ (was : contains nat_cmp empty p ≡ true). absurd (active.not-both (contains nat_cmp empty p) was (none-in empty p none)))
        (λ (t : (m : Mark) × (has s m p ≡ true) × (is_wanted None m ≡ true)). (t.0, t.1))
        (gathered.only p e),
    λ sender. gathered.all sender.0 p sender.1 refl,
  )

  -- if the marks that meet a mark are wanted, the set has exactly the processes that receive a message with it
  pub all-receivers : (mark : Mark) → AreGathered empty found (Some mark) (has r) → AreThose (IsReceiver (state s r q c a l) mark) found
  unfolding receives
  all-receivers mark gathered p = (
    λ e. ⊎_elim
        (λ (was : contains nat_cmp empty p ≡ true). absurd (active.not-both (contains nat_cmp empty p) was (none-in empty p none)))
        (λ (t : (m : Mark) × (has r m p ≡ true) × (meets m mark ≡ true)). ⊎_elim
        (λ (open_one : t.0 ≡ wide mark). pairs.or-right (has r mark p) (has r (wide mark) p) (ap (λ (m : Mark). has r m p) (sym open_one) ∙ t.1))
        (λ (just : t.0 ≡ mark). ap (λ b. b || has r (wide mark) p) (ap (λ (m : Mark). has r m p) (sym just) ∙ t.1))
        (active.meets-cases t.0 mark t.2))
        (gathered.only p e),
    λ receiver. ⊎_elim
        (λ (just : has r mark p ≡ true). gathered.all mark p just (active.meets-self mark))
        (λ (open_one : has r (wide mark) p ≡ true). gathered.all (wide mark) p open_one (active.meets-wide mark))
        (active.or-cases (has r mark p) (has r (wide mark) p) receiver),
  )
