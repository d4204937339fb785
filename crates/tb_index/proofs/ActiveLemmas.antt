-- Marks that meet, and which of them are active.
use Rattle.std.proofs.Common.{◌≡◌, ◌≢◌, ℕ, ◌<◌, ◌+◌, ◌++◌, Bool, true, false, not, ◌&&◌, ◌||◌, ◌==◌, List, [], ◌∷◌, length, take, drop, swap_remove, refl, ap, sym, ◌∙◌, subst, arith, ◌⊎◌, inl, inr, ⊎_elim, get_or, zero, suc, cond}
use Rattle.std.proofs.lemmas.Bool.{eqb-true}
use Rattle.std.proofs.lemmas.Bool.Decides.{nat_tests}
use Rattle.std.proofs.lemmas.List.{take_more, get_or_default}
use Rattle.std.proofs.lemmas.List.Folds.{list_any-append, list_any_more, list_any_at}
use Rattle.std.proofs.lemmas.List.Sorted.{IsPermutation-swap_remove, list_any-IsPermutation}
use Rattle.std.specs.List.{list_any}
use Rattle.std.specs.BTreeMap.{is_at}
use Rattle.tb_index.specs.declared.pairs.Pairs.{Pairs}
use Rattle.tb_index.specs.declared.mark.Mark.{Mark}
use Rattle.tb_index.specs.Marks.{is_mark, has_mark, wide, meets, open_head}
use Rattle.tb_index.specs.Helpers.Pairs.{has_count, has_open, has, is_pair, is_sender, triple_cmp, AreOpened, AllOpened, AreOf, AreAdded, AreRemoved, AreCounted, AreCountedStill, AreHeard, SentAreHeard, ReceivedAreHeard, AreKept, SentAreKept, ReceivedAreKept, SamePairs}
use Rattle.tb_index.proofs.PairLemmas as pairs

pub same-number : (p : ℕ) → (p == p) ≡ true
same-number p = grind (arith, nat_tests)

pub apart-number : (o p : ℕ) → o ≢ p → (o == p) ≡ false
apart-number o p apart = grind (arith, nat_tests)

pub or-cases : (a b : Bool) → (a || b) ≡ true → (a ≡ true) ⊎ (b ≡ true)
or-cases true b e = inl refl
or-cases false b e = inr e

pub bool-cases : (b : Bool) → (b ≡ true) ⊎ (b ≡ false)
bool-cases true = inl refl
bool-cases false = inr refl

pub both : (a b : Bool) → a ≡ true → b ≡ true → (a && b) ≡ true
both a b e f = ap (λ c. c && b) e ∙ f

pub not-both : (b : Bool) → b ≡ true → b ≡ false → ⊥
not-both b e f = let t : true ≡ false = sym e ∙ f in cc

pub meets-self : (m : Mark) → meets m m ≡ true
meets-self m = both (m.count == m.count) ((m.head == open_head) || (m.head == m.head)) (same-number m.count) (pairs.or-right (m.head == open_head) (m.head == m.head) (same-number m.head))

pub meets-wide : (m : Mark) → meets (wide m) m ≡ true
meets-wide m = both (m.count == m.count) true (same-number m.count) refl

pub meets-cases : (k m : Mark) → meets k m ≡ true → (k ≡ wide m) ⊎ (k ≡ m)
meets-cases k m e =
    let counts : k.count ≡ m.count = eqb-true k.count m.count (pairs.both-left (k.count == m.count) ((k.head == open_head) || (k.head == m.head)) e) in
    ⊎_elim
    (λ (open_one : (k.head == open_head) ≡ true). let heads : k.head ≡ open_head = eqb-true k.head open_head open_one in inl (λ i. record { count = counts i; head = heads i }))
    (λ (same : (k.head == m.head) ≡ true). let heads : k.head ≡ m.head = eqb-true k.head m.head same in inr (λ i. record { count = counts i; head = heads i }))
    (or-cases (k.head == open_head) (k.head == m.head) (pairs.both-right (k.count == m.count) ((k.head == open_head) || (k.head == m.head)) e))

pub open-meets : (k m : Mark) → k.head ≡ open_head → meets k m ≡ true → k ≡ wide m
open-meets k m is_open e =
    let counts : k.count ≡ m.count = eqb-true k.count m.count (pairs.both-left (k.count == m.count) ((k.head == open_head) || (k.head == m.head)) e) in
    λ i. record { count = counts i; head = is_open i }

pub closed-meets : (k m : Mark) → (k.head ≡ open_head → ⊥) → meets k m ≡ true → k ≡ m
closed-meets k m closed e = ⊎_elim
    (λ (open_one : k ≡ wide m). absurd (closed (ap (λ (mark : Mark). mark.head) open_one)))
    (λ (same : k ≡ m). same)
    (meets-cases k m e)

pub only-mark : (x k : Mark) → has_mark (x ∷ []) k ≡ true → k ≡ x
only-mark x k e = ⊎_elim (λ (same : is_mark k x ≡ true). pairs.same-mark k x same) (λ (no : false ≡ true). absurd (cc)) (or-cases (is_mark k x) false e)

module _ (r : Pairs) (but : List Mark) where
  pub sent-skipped : (x : Mark) (a : List Mark) → has_mark but x ≡ true → SentAreHeard (x ∷ []) but r a
  sent-skipped x a t = λ received sent other e f h m. absurd (not-both (has_mark but sent) (ap (has_mark but) (only-mark x sent e) ∙ t) f)

  pub sent-checked : (x : Mark) (a : List Mark) → ((its : ℕ) → has r x its ≡ true → has_mark a x ≡ true) → ((its : ℕ) → has r (wide x) its ≡ true → has_mark a (wide x) ≡ true) →
      SentAreHeard (x ∷ []) but r a
  sent-checked x a just open_one = λ received sent other e f h m. ⊎_elim
      (λ (same : received ≡ wide x). ap (has_mark a) same ∙ open_one other (ap (λ (k : Mark). has r k other) (sym same) ∙ h))
      (λ (same : received ≡ x). ap (has_mark a) same ∙ just other (ap (λ (k : Mark). has r k other) (sym same) ∙ h))
      (meets-cases received x (ap (λ (k : Mark). meets received k) (sym (only-mark x sent e)) ∙ m))

  -- if the index doesn't count, no process receives under an open mark
  pub sent-untold : (x : Mark) (a : List Mark) (opened : Bool) → AllOpened opened r → opened ≡ false → ((its : ℕ) → has r x its ≡ true → has_mark a x ≡ true) → SentAreHeard (x ∷ []) but r a
  sent-untold x a opened told none just = sent-checked x a just (λ its h. absurd (not-both opened (told (wide x) its h refl) none))

  pub sent-none : (a : List Mark) → SentAreHeard [] but r a
  sent-none a = λ received sent other e f h m. absurd (let t : false ≡ true = e in cc)

  pub sent-more : (marks : List Mark) (i : ℕ) (d : Mark) (a a2 : List Mark) → i < length marks → SentAreHeard (take i marks) but r a → AreKept a a2 →
      SentAreHeard (get_or marks i d ∷ []) but r a2 → SentAreHeard (take (i + 1) marks) but r a2
  sent-more marks i d a a2 less before kept here = subst (λ (some : List Mark). SentAreHeard some but r a2) (sym (take_more marks i d less))
      (λ received sent other e f h m. ⊎_elim
      (λ (t : has_mark (take i marks) sent ≡ true). kept received (before received sent other t f h m))
      (λ (t : has_mark (get_or marks i d ∷ []) sent ≡ true). here received sent other t f h m)
      (or-cases (has_mark (take i marks) sent) (has_mark (get_or marks i d ∷ []) sent) (sym (list_any-append (is_mark sent) (take i marks) (get_or marks i d ∷ [])) ∙ e)))

module _ (s : Pairs) (but : List Mark) where
  pub received-skipped : (x : Mark) (a : List Mark) → has_mark but x ≡ true → ReceivedAreHeard (x ∷ []) but s a
  received-skipped x a t = λ received sent proc e f h m. absurd (not-both (has_mark but received) (ap (has_mark but) (only-mark x received e) ∙ t) f)

  pub received-open : (c : Pairs) (x : Mark) (a : List Mark) → x.head ≡ open_head → AreCounted s c → ((its : ℕ) → has c x its ≡ true → has_mark a x ≡ true) → ReceivedAreHeard (x ∷ []) but s a
  received-open c x a is_open counted many = λ received sent proc e f h m.
      let same : received ≡ x = only-mark x received e in
      ap (has_mark a) same ∙ many proc (ap (λ (k : Mark). has c k proc) (open-meets x sent is_open (ap (λ (k : Mark). meets k sent) (sym same) ∙ m)) ∙ counted sent proc h)

  pub received-closed : (x : Mark) (a : List Mark) → (x.head ≡ open_head → ⊥) → ((its : ℕ) → has s x its ≡ true → has_mark a x ≡ true) → ReceivedAreHeard (x ∷ []) but s a
  received-closed x a closed just = λ received sent proc e f h m.
      let same : received ≡ x = only-mark x received e in
      ap (has_mark a) same ∙ just proc (ap (λ (k : Mark). has s k proc) (closed-meets x sent closed (ap (λ (k : Mark). meets k sent) (sym same) ∙ m)) ∙ h)

  pub received-none : (a : List Mark) → ReceivedAreHeard [] but s a
  received-none a = λ received sent proc e f h m. absurd (let t : false ≡ true = e in cc)

  pub received-more : (marks : List Mark) (i : ℕ) (d : Mark) (a a2 : List Mark) → i < length marks → ReceivedAreHeard (take i marks) but s a → AreKept a a2 →
      ReceivedAreHeard (get_or marks i d ∷ []) but s a2 → ReceivedAreHeard (take (i + 1) marks) but s a2
  received-more marks i d a a2 less before kept here = subst (λ (some : List Mark). ReceivedAreHeard some but s a2) (sym (take_more marks i d less))
      (λ received sent proc e f h m. ⊎_elim
      (λ (t : has_mark (take i marks) received ≡ true). kept received (before received sent proc t f h m))
      (λ (t : has_mark (get_or marks i d ∷ []) received ≡ true). here received sent proc t f h m)
      (or-cases (has_mark (take i marks) received) (has_mark (get_or marks i d ∷ []) received) (sym (list_any-append (is_mark received) (take i marks) (get_or marks i d ∷ [])) ∙ e)))

-- if no process is counted under an open mark, no process sends a message that is received under it
pub unsent-open : (s c : Pairs) (x : Mark) → x.head ≡ open_head → AreCounted s c → ((its : ℕ) → has c x its ≡ false) → (sent : Mark) (proc : ℕ) → has s sent proc ≡ true → meets x sent ≡ false
unsent-open s c x is_open counted nobody sent proc h = ⊎_elim
    (λ (m : meets x sent ≡ true). absurd (not-both (has c x proc) (ap (λ (k : Mark). has c k proc) (open-meets x sent is_open m) ∙ counted sent proc h) (nobody proc)))
    (λ (apart : meets x sent ≡ false). apart)
    (bool-cases (meets x sent))

pub unsent-closed : (s : Pairs) (x : Mark) → (x.head ≡ open_head → ⊥) → ((its : ℕ) → has s x its ≡ false) → (sent : Mark) (proc : ℕ) → has s sent proc ≡ true → meets x sent ≡ false
unsent-closed s x closed nobody sent proc h = ⊎_elim
    (λ (m : meets x sent ≡ true). absurd (not-both (has s x proc) (ap (λ (k : Mark). has s k proc) (closed-meets x sent closed m) ∙ h) (nobody proc)))
    (λ (apart : meets x sent ≡ false). apart)
    (bool-cases (meets x sent))

-- such a mark needn't stay active
pub unsent : (s : Pairs) (x : Mark) (a a2 : List Mark) → ((sent : Mark) (proc : ℕ) → has s sent proc ≡ true → meets x sent ≡ false) →
    ((k : Mark) → is_mark k x ≡ false → has_mark a k ≡ true → has_mark a2 k ≡ true) → SentAreKept a a2 s
unsent s x a a2 nobody others = λ received sent proc e h m. ⊎_elim
    (λ (same : is_mark received x ≡ true). absurd (not-both (meets x sent) (ap (λ (k : Mark). meets k sent) (sym (pairs.same-mark received x same)) ∙ m) (nobody sent proc h)))
    (λ (apart : is_mark received x ≡ false). others received apart e)
    (bool-cases (is_mark received x))

pub unreceived : (r : Pairs) (x : Mark) (a a2 : List Mark) → ((its : ℕ) → has r x its ≡ false) →
    ((k : Mark) → is_mark k x ≡ false → has_mark a k ≡ true → has_mark a2 k ≡ true) → ReceivedAreKept a a2 r
unreceived r x a a2 nobody others = λ received other e h. ⊎_elim
    (λ (same : is_mark received x ≡ true). absurd (not-both (has r x other) (ap (λ (k : Mark). has r k other) (sym (pairs.same-mark received x same)) ∙ h) (nobody other)))
    (λ (apart : is_mark received x ≡ false). others received apart e)
    (bool-cases (is_mark received x))

-- a list has an element with a property, also without an element that doesn't have it
pub any-without : {X : Type 0} (p : X → Bool) (xs : List X) (i : ℕ) (d : X) → i < length xs → p (get_or xs i d) ≡ false → list_any p (take i xs ++ drop (i + 1) xs) ≡ list_any p xs
any-without p [] i d l e = absurd (omega arith)
any-without p (x ∷ xs) zero d l e = sym (ap (λ b. b || list_any p xs) e)
any-without p (x ∷ xs) (suc i) d l e =
    let on : suc i + 1 ≡ suc (i + 1) = omega arith in
    ap (λ n. list_any p (take (suc i) (x ∷ xs) ++ drop n (x ∷ xs))) on ∙ ap (λ b. p x || b) (any-without p xs i d (omega arith) e)

-- the number of terms of a mark
has-count : (marks : List Mark) (k : Mark) → has_mark marks k ≡ true → has_count marks k.count ≡ true
has-count marks k e = pairs.any-marked (λ (m : Mark). k.count == m.count) marks k e (same-number k.count)

pub count-kept : (c c2 : Pairs) (x : Mark) (marks : List Mark) (p : ℕ) → has_count marks x.count ≡ false →
    ((k : Mark) (its : ℕ) → has c2 k its ≡ (has c k its && not (is_pair (wide x) p k its))) → AreCountedStill c c2 marks p
count-kept c c2 x marks p none says = λ k its e own. ⊎_elim
    (λ (gone : is_pair (wide x) p (wide k) its ≡ true).
    let same : its ≡ p = eqb-true its p (pairs.both-right (is_mark (wide k) (wide x)) (its == p) gone) in
    let counts : k.count ≡ x.count = eqb-true k.count x.count (pairs.both-left (k.count == x.count) true (pairs.both-left (is_mark (wide k) (wide x)) (its == p) gone)) in
    absurd (not-both (has_count marks x.count) (ap (has_count marks) (sym counts) ∙ has-count marks k (own same)) none))
    (λ (stays : is_pair (wide x) p (wide k) its ≡ false). says (wide k) its ∙ ap (λ b. has c (wide k) its && not b) stays ∙ pairs.and-true (has c (wide k) its) ∙ e)
    (bool-cases (is_pair (wide x) p (wide k) its))

pub counted-one : (c c2 : Pairs) (x : Mark) (p : ℕ) → ((k : Mark) (its : ℕ) → has c2 k its ≡ (has c k its || is_pair x p k its)) → has c2 x p ≡ true
counted-one c c2 x p says = says x p ∙ pairs.or-right (has c x p) (is_pair x p x p)
    (both (is_mark x x) (p == p) (both (x.count == x.count) (x.head == x.head) (same-number x.count) (same-number x.head)) (same-number p))

pub counted-kept : (c c2 : Pairs) (x : Mark) (p : ℕ) → ((k : Mark) (its : ℕ) → has c2 k its ≡ (has c k its || is_pair x p k its)) → (k : Mark) (its : ℕ) → has c k its ≡ true → has c2 k its ≡ true
counted-kept c c2 x p says k its e = says k its ∙ ap (λ b. b || is_pair x p k its) e

-- the marks of processes after marks were added to one of them
module _ (s0 s1 : Pairs) (p : ℕ) (old new : List Mark) (own : AreOf s0 old p) (more : AreAdded s0 s1 new p) where
  pub added-cases : (k : Mark) (i : ℕ) → has s1 k i ≡ true → (has s0 k i ≡ true) ⊎ ((has_mark new k ≡ true) × (i ≡ p))
  added-cases k i e = ⊎_elim
      (λ (before : has s0 k i ≡ true). inl before)
      (λ (there : (has_mark new k && (i == p)) ≡ true). inr (pairs.both-left (has_mark new k) (i == p) there, eqb-true i p (pairs.both-right (has_mark new k) (i == p) there)))
      (or-cases (has s0 k i) (has_mark new k && (i == p)) (sym (more k i) ∙ e))

  -- some process had the mark before, or it is a new one that the process didn't have
  pub old-or-new : (k : Mark) (i : ℕ) → has s1 k i ≡ true → ((j : ℕ) × (has s0 k j ≡ true)) ⊎ ((has_mark new k ≡ true) × (has_mark old k ≡ false))
  old-or-new k i e = ⊎_elim
      (λ (before : has s0 k i ≡ true). inl (i, before))
      (λ (there : (has_mark new k ≡ true) × (i ≡ p)). ⊎_elim
      (λ (had : has_mark old k ≡ true). inl (p, own k ∙ had))
      (λ (fresh : has_mark old k ≡ false). inr (there.0, fresh))
      (bool-cases (has_mark old k)))
      (added-cases k i e)

  pub come-counted : (c0 c1 : Pairs) → AreCounted s0 c0 → ((k : Mark) (i : ℕ) → has c0 k i ≡ true → has c1 k i ≡ true) →
      ((k : Mark) → has_mark new k ≡ true → has_mark old k ≡ false → has c1 (wide k) p ≡ true) → AreCounted s1 c1
  come-counted c0 c1 counted kept all = λ k i e. ⊎_elim
      (λ (before : has s0 k i ≡ true). kept (wide k) i (counted k i before))
      (λ (there : (has_mark new k ≡ true) × (i ≡ p)). ap (has c1 (wide k)) there.1 ∙ ⊎_elim
      (λ (had : has_mark old k ≡ true). kept (wide k) p (counted k p (own k ∙ had)))
      (λ (fresh : has_mark old k ≡ false). all k there.0 fresh)
      (bool-cases (has_mark old k)))
      (added-cases k i e)

pub come-heard : (s0 s1 r0 r1 : Pairs) (p : ℕ) (old new gone came l l2 : List Mark) → AreOf s0 old p → AreOf r0 gone p → AreAdded s0 s1 new p → AreAdded r0 r1 came p →
    AreHeard s0 r0 l → AreKept l l2 → SentAreHeard new old r1 l2 → ReceivedAreHeard came gone s1 l2 → AreHeard s1 r1 l2
come-heard s0 s1 r0 r1 p old new gone came l l2 own its more others heard kept sent_heard received_heard = λ received sent proc other h g m. ⊎_elim
    (λ (was : (j : ℕ) × (has s0 sent j ≡ true)). ⊎_elim
    (λ (waited : (j : ℕ) × (has r0 received j ≡ true)). kept received (heard received sent was.0 waited.0 was.1 waited.1 m))
    (λ (fresh : (has_mark came received ≡ true) × (has_mark gone received ≡ false)). received_heard received sent proc fresh.0 fresh.1 h m)
    (old-or-new r0 r1 p gone came its others received other g))
    (λ (fresh : (has_mark new sent ≡ true) × (has_mark old sent ≡ false)). sent_heard received sent other fresh.0 fresh.1 g m)
    (old-or-new s0 s1 p old new own more sent proc h)

-- for the same pairs, the same marks must be active
pub same-heard : (s0 s2 r0 r2 : Pairs) (l l2 : List Mark) → SamePairs s0 s2 → SamePairs r0 r2 → AreHeard s0 r0 l → AreKept l l2 → AreHeard s2 r2 l2
same-heard s0 s2 r0 r2 l l2 same equal heard kept = λ received sent proc other h g m.
    kept received (heard received sent proc other (sym (same sent proc) ∙ h) (sym (equal received other) ∙ g) m)

pub same-counted : (s0 s2 c c2 : Pairs) → SamePairs s0 s2 → AreCounted s0 c → ((k : Mark) (i : ℕ) → has c k i ≡ true → has c2 k i ≡ true) → AreCounted s2 c2
same-counted s0 s2 c c2 same counted kept = λ k i h. kept (wide k) i (counted k i (sym (same k i) ∙ h))

-- if there are no marks, none is removed
pub none-removed : (s : Pairs) (marks others : List Mark) (p : ℕ) → marks ≡ [] → AreRemoved s s marks others p
none-removed s marks others p e = λ k i. sym (pairs.and-true (has s k i)) ∙ ap (λ (some : List Mark). has s k i && not ((has_mark some k && not (has_mark others k)) && (i == p))) (sym e)

-- the pairs after marks were removed
module _ (s1 s2 : Pairs) (p : ℕ) (marks others : List Mark) (less : AreRemoved s1 s2 marks others p) where
  pub left : (k : Mark) (i : ℕ) → has s2 k i ≡ true → has s1 k i ≡ true
  left k i e = pairs.gone-less (has s2 k i) (has s1 k i) ((has_mark marks k && not (has_mark others k)) && (i == p)) (less k i) e

  pub left-counted : (c1 c2 : Pairs) → AreCounted s1 c1 → AreCountedStill c1 c2 others p → ((k : Mark) → has s2 k p ≡ true → has_mark others k ≡ true) → AreCounted s2 c2
  left-counted c1 c2 counted still own = λ k i h. still k i (counted k i (left k i h)) (λ (same : i ≡ p). own k (ap (has s2 k) (sym same) ∙ h))

pub left-heard : (s1 s2 r1 r2 : Pairs) (l1 l2 l3 : List Mark) → AreHeard s1 r1 l1 → ((k : Mark) (i : ℕ) → has s2 k i ≡ true → has s1 k i ≡ true) → ((k : Mark) (i : ℕ) → has r2 k i ≡ true → has r1 k i ≡ true) →
    SentAreKept l1 l2 s2 → ReceivedAreKept l2 l3 r2 → AreHeard s2 r2 l3
left-heard s1 s2 r1 r2 l1 l2 l3 heard sent_left received_left sent_kept received_kept = λ received sent proc other h g m.
    received_kept received other (sent_kept received sent proc (heard received sent proc other (sent_left sent proc h) (received_left received other g) m) h m) g

-- one more mark is counted
pub count-more : (marks but : List Mark) (i : ℕ) (d : Mark) (c c2 : Pairs) (p : ℕ) → i < length marks →
    ((m : Mark) → has_mark (take i marks) m ≡ true → has_mark but m ≡ false → has c (wide m) p ≡ true) → ((k : Mark) (its : ℕ) → has c k its ≡ true → has c2 k its ≡ true) →
    (has_mark but (get_or marks i d) ≡ false → has c2 (wide (get_or marks i d)) p ≡ true) →
    (m : Mark) → has_mark (take (i + 1) marks) m ≡ true → has_mark but m ≡ false → has c2 (wide m) p ≡ true
count-more marks but i d c c2 p less before kept here m e f = ⊎_elim
    (λ (t : has_mark (take i marks) m ≡ true). kept (wide m) p (before m t f))
    (λ (t : is_mark m (get_or marks i d) ≡ true).
    let same : m ≡ get_or marks i d = pairs.same-mark m (get_or marks i d) t in
    ap (λ (k : Mark). has c2 (wide k) p) same ∙ here (ap (has_mark but) (sym same) ∙ f))
    (or-cases (has_mark (take i marks) m) (is_mark m (get_or marks i d)) (sym (list_any_more (is_mark m) marks i d less) ∙ e))

pub dropped : (xs ys : List Mark) (place : ℕ) (gone there x : Mark) → place < length xs → gone ≡ get_or xs place gone → there ≡ get_or xs place there → there.count ≡ x.count → there.head ≡ x.head → ys ≡ swap_remove xs place gone →
    (other : Mark) → is_mark other x ≡ false → has_mark xs other ≡ true → has_mark ys other ≡ true
dropped xs ys place gone there x less taken read counts heads left other apart e =
    let here : gone ≡ there = taken ∙ get_or_default xs place gone there less ∙ sym read in
    let same : is_mark other there ≡ is_mark other x = ap (λ n. (other.count == n) && (other.head == there.head)) counts ∙ ap (λ n. (other.count == x.count) && (other.head == n)) heads in
    let not_it : is_mark other gone ≡ false = ap (is_mark other) here ∙ same ∙ apart in
    let whole : has_mark xs other ≡ (is_mark other gone || has_mark (swap_remove xs place gone) other) = list_any-IsPermutation (is_mark other) xs (gone ∷ swap_remove xs place gone) (IsPermutation-swap_remove xs place gone less taken) in
    ap (λ (zs : List Mark). has_mark zs other) left ∙ sym (ap (λ b. b || has_mark (swap_remove xs place gone) other) not_it) ∙ sym whole ∙ e

pub counted-pair : (c : Pairs) (m : Mark) (p : ℕ) (t : ℕ × ℕ × ℕ) → is_at (triple_cmp (m.count, m.head, p)) t ≡ true → has c (record { count = t.0; head = open_head }) t.2 ≡ true → has c (wide m) p ≡ true
counted-pair c m p t e h =
    let same : (((t.0 == m.count) && (t.1 == m.head)) && (t.2 == p)) ≡ true = sym (pairs.same-triple m.count m.head p t.0 t.1 t.2) ∙ e in
    let proc : t.2 ≡ p = eqb-true t.2 p (pairs.both-right ((t.0 == m.count) && (t.1 == m.head)) (t.2 == p) same) in
    let count : t.0 ≡ m.count = eqb-true t.0 m.count (pairs.both-left (t.0 == m.count) (t.1 == m.head) (pairs.both-left ((t.0 == m.count) && (t.1 == m.head)) (t.2 == p) same)) in
    ap (λ n. has c (record { count = n; head = open_head }) p) (sym count) ∙ ap (has c (record { count = t.0; head = open_head })) (sym proc) ∙ h

-- if no mark is open, the index needn't count
pub none-open : (opened : Bool) (marks : List Mark) → has_open marks ≡ false → AreOpened opened marks
none-open opened marks none = λ mark e is_open. absurd (not-both (has_open marks)
    (pairs.any-marked (λ (m : Mark). m.head == open_head) marks mark e (ap (λ n. n == open_head) is_open)) none)

-- after new marks were added, the index still counts if some process receives under an open mark
pub come-opened : (o o2 : Bool) (r0 r1 : Pairs) (p : ℕ) (new : List Mark) → AllOpened o r0 → (o ≡ true → o2 ≡ true) → AreOpened o2 new → AreAdded r0 r1 new p → AllOpened o2 r1
come-opened o o2 r0 r1 p new all kept marks more = λ mark proc e is_open. ⊎_elim
    (λ (before : has r0 mark proc ≡ true). kept (all mark proc before is_open))
    (λ (there : (has_mark new mark && (proc == p)) ≡ true). marks mark (pairs.both-left (has_mark new mark) (proc == p) there) is_open)
    (or-cases (has r0 mark proc) (has_mark new mark && (proc == p)) (sym (more mark proc) ∙ e))

pub sender-open : (s c : Pairs) (m : Mark) (p : ℕ) → m.head ≡ open_head → is_sender s c m p ≡ has c m p
sender-open s c m p is_open = ap (λ n. cond (n == open_head) (has c m p) (has s m p)) is_open

pub sender-closed : (s c : Pairs) (m : Mark) (p : ℕ) → (m.head ≡ open_head → ⊥) → is_sender s c m p ≡ has s m p
sender-closed s c m p closed = ap (λ b. cond b (has c m p) (has s m p)) (apart-number m.head open_head closed)

pub mark-at : (marks : List Mark) (i : ℕ) (d : Mark) → i < length marks → has_mark marks (get_or marks i d) ≡ true
mark-at marks i d less = list_any_at (is_mark (get_or marks i d)) marks i d less
    (both (_ == _) (_ == _) (same-number (get_or marks i d).count) (same-number (get_or marks i d).head))
