-- How the history continues, and the indices of the handles' own entries.
use Rattle.std.proofs.Common.{◌≡◌, ◌⊎◌, ◌≤◌, ◌<◌, ◌+◌, ◌-◌, ◌==◌, ℕ, zero, suc, nat_lt, List, [], ◌∷◌, ◌++◌, length, slice_get, Some, Bool, true, false, ◌||◌, if◌then◌else◌, true≢false, refl, sym, ap, ◌∙◌, subst, inl, inr, ⊎_elim, arith, length-append, append-nil, append_assoc, eqb-true, eq-eqb, ltb-true, ltb-false}
use Rattle.std.proofs.lemmas.List.Folds.{list_any-append}
use Rattle.std.proofs.lemmas.Option.{slice_get_within, slice_get_past}
use mathlib.Core.Logic.{dite}
use native.Mathlib.Decide.{ℕ_discrete, dec_lt}
use Rattle.tb_log.specs.declared.entry.Entry.{Entry}
use Rattle.tb_core.specs.Cores.{says_quiet, ends_quiet}
use Rattle.tb_lock.specs.declared.rights.Rights.{Rights}
use Rattle.tb_lock.specs.Rights.{own, AreAmong, united}
use Rattle.tb_lock.specs.Histories.{Grows, IsSparse, longer, Own, indexed, put_in, merged}
use Rattle.tb_lock.specs.Helpers.Indices.{AreIn, has_index}
use Rattle.tb_lock.proofs.OwnLemmas.{own_fewer, own_both, own_parts, own_joined}

pub grows_refl : (rights : Rights) (log : List Entry) → Grows rights log log
grows_refl rights log = record { rest = []; is = sym (append-nil log); none = refl }

pub grows_more : (rights : Rights) (seen log more : List Entry) → Grows rights seen log → own rights more ≡ [] → Grows rights seen (log ++ more)
grows_more rights seen log more g e = record {
  rest = g.rest ++ more;
  is = ap (λ (xs : List Entry). xs ++ more) g.is ∙ append_assoc seen g.rest more;
  none = own_joined rights g.rest more g.none e;
}

pub grows_fewer : (some rights : Rights) (seen log : List Entry) → AreAmong some rights → Grows rights seen log → Grows some seen log
grows_fewer some rights seen log among g = record { rest = g.rest; is = g.is; none = own_fewer some rights g.rest among g.none }

-- of two prefixes of one log, the shorter is a prefix of the longer
pub beginnings : {A : Type 0} (one other x y : List A) → one ++ x ≡ other ++ y → length one ≤ length other → (mid : List A) × (other ≡ one ++ mid) × (x ≡ mid ++ y)
beginnings [] other x y e short = (other, refl, e)
beginnings (a ∷ one) [] x y e short = absurd (omega arith)
beginnings {A} (a ∷ one) (b ∷ other) x y e short =
    let head : a ≡ b = cc in
    let rest : one ++ x ≡ other ++ y = cc in
    let t = beginnings one other x y rest (omega arith) in
    (t.0, (λ i. sym head i ∷ t.1 i), t.2)

-- so no entry of the longer prefix after the shorter one, and none after the longer one, needs one of the rights
pub grows_to : (rights : Rights) (one other log rest : List Entry) → Grows rights one log → log ≡ other ++ rest → length one ≤ length other → Grows rights one other × (own rights rest ≡ [])
grows_to rights one other log rest g e short =
    let t = beginnings one other g.rest rest (sym g.is ∙ e) short in
    let parts = own_parts rights t.0 rest (ap (own rights) (sym t.2) ∙ g.none) in
    (record { rest = t.0; is = t.1; none = parts.0 }, parts.1)

abbrev Longer : List Entry → List Entry → List Entry → Type 0
Longer one other seen = ((seen ≡ other) × (length one ≤ length other)) ⊎ ((seen ≡ one) × (length other ≤ length one))

longer_by : (one other : List Entry) (b : Bool) → nat_lt (length one) (length other) ≡ b → Longer one other (if b then other else one)
longer_by one other true e = let h = ltb-true (length one) (length other) e in inl (refl, omega arith)
longer_by one other false e = let h = ltb-false (length one) (length other) e in inr (refl, omega arith)

pub longer_is : (one other : List Entry) → Longer one other (longer one other)
longer_is one other = longer_by one other (nat_lt (length one) (length other)) refl

-- if two handles have each seen all entries of their rights, the joined handle has seen all entries of its rights
pub grows_joined : (rights more : Rights) (one other log : List Entry) → Grows rights one log → Grows more other log → Grows (united rights more) (longer one other) log
grows_joined rights more one other log g h =
    ⊎_elim
    (λ (t : (longer one other ≡ other) × (length one ≤ length other)). subst (λ (xs : List Entry). Grows (united rights more) xs log) (sym t.0)
    (record { rest = h.rest; is = h.is; none = own_both rights more h.rest (grows_to rights one other log h.rest g h.is t.1).1 h.none }))
    (λ (t : (longer one other ≡ one) × (length other ≤ length one)). subst (λ (xs : List Entry). Grows (united rights more) xs log) (sym t.0)
    (record { rest = g.rest; is = g.is; none = own_both rights more g.rest g.none (grows_to more other one log g.rest h g.is t.1).1 }))
    (longer_is one other)

-- each of the two had seen all entries of the longer log that need one of its rights
pub grows_first : (rights more : Rights) (one other log : List Entry) → Grows rights one log → Grows more other log → Grows rights one (longer one other)
grows_first rights more one other log g h =
    ⊎_elim
    (λ (t : (longer one other ≡ other) × (length one ≤ length other)). subst (Grows rights one) (sym t.0) (grows_to rights one other log h.rest g h.is t.1).0)
    (λ (t : (longer one other ≡ one) × (length other ≤ length one)). subst (Grows rights one) (sym t.0) (grows_refl rights one))
    (longer_is one other)

pub grows_second : (rights more : Rights) (one other log : List Entry) → Grows rights one log → Grows more other log → Grows more other (longer one other)
grows_second rights more one other log g h =
    ⊎_elim
    (λ (t : (longer one other ≡ other) × (length one ≤ length other)). subst (Grows more other) (sym t.0) (grows_refl more other))
    (λ (t : (longer one other ≡ one) × (length other ≤ length one)). subst (Grows more other) (sym t.0) (grows_to more other one log g.rest h g.is t.1).0)
    (longer_is one other)

-- an entry keeps its index in a longer log
get-longer : (log more : List Entry) (k : ℕ) (entry : Entry) → slice_get log k ≡ Some entry → slice_get (log ++ more) k ≡ Some entry
get-longer [] more k entry e = absurd (cc)
get-longer (x ∷ log) more zero entry e = e
get-longer (x ∷ log) more (suc k) entry e = get-longer log more k entry e

get-within : (log more : List Entry) (k : ℕ) → k < length log → slice_get (log ++ more) k ≡ slice_get log k
get-within [] more k h = absurd (omega arith)
get-within (x ∷ log) more zero h = refl
get-within (x ∷ log) more (suc k) h = get-within log more k (omega arith)

get-end : (log more : List Entry) (entry : Entry) (k : ℕ) → k ≡ length log → slice_get (log ++ entry ∷ more) k ≡ Some entry
get-end [] more entry zero e = refl
get-end [] more entry (suc k) e = absurd (omega arith)
get-end (x ∷ log) more entry zero e = absurd (omega arith)
get-end (x ∷ log) more entry (suc k) e = get-end log more entry k (omega arith)

pub in_more : (log more : List Entry) (from : ℕ) (owns : List Own) → AreIn log from owns → AreIn (log ++ more) from owns
in_more log more from [] h = tt
in_more log more from (own ∷ owns) h = (h.0, get-longer log more own.index own.entry h.1, in_more log more (suc own.index) owns h.2)

pub in_from : (log : List Entry) (from less : ℕ) (owns : List Own) → less ≤ from → AreIn log from owns → AreIn log less owns
in_from log from less [] le h = tt
in_from log from less (own ∷ owns) le h = let low = h.0 in (omega arith, h.1, h.2)

or_cases : (a b : Bool) → (a || b) ≡ true → (a ≡ true) ⊎ (b ≡ true)
or_cases true b e = inl refl
or_cases false b e = inr e

-- the index of an own entry is at least the lower bound, and within the log
pub index_from : (log : List Entry) (from : ℕ) (owns : List Own) (index : ℕ) → AreIn log from owns → has_index index owns ≡ true → from ≤ index
index_from log from [] index h e = absurd (true≢false (sym e))
index_from log from (own ∷ owns) index h e =
    let low = h.0 in
    ⊎_elim
    (λ t. let is = eqb-true own.index index t in omega arith)
    (λ t. let more = index_from log (suc own.index) owns index h.2 t in omega arith)
    (or_cases (own.index == index) (has_index index owns) e)

pub index_within : (log : List Entry) (from : ℕ) (owns : List Own) (index : ℕ) → AreIn log from owns → has_index index owns ≡ true → index < length log
index_within log from [] index h e = absurd (true≢false (sym e))
index_within log from (own ∷ owns) index h e =
    ⊎_elim
    (λ t. let is = eqb-true own.index index t in let within = slice_get_within log own.index own.entry h.1 in omega arith)
    (λ t. index_within log (suc own.index) owns index h.2 t)
    (or_cases (own.index == index) (has_index index owns) e)

pub has_index-append : (index : ℕ) (owns more : List Own) → has_index index (owns ++ more) ≡ (has_index index owns || has_index index more)
has_index-append index owns more = list_any-append (λ (own : Own). own.index == index) owns more

-- added entries are at the end
pub indexed_from : (index : ℕ) (entries : List Entry) (at : ℕ) → has_index at (indexed index entries) ≡ true → index ≤ at
indexed_from index [] at e = absurd (true≢false (sym e))
indexed_from index (entry ∷ entries) at e =
    ⊎_elim
    (λ t. let is = eqb-true index at t in omega arith)
    (λ t. let more = indexed_from (index + 1) entries at t in omega arith)
    (or_cases (index == at) (has_index at (indexed (index + 1) entries)) e)

indexed_at : (before entries : List Entry) (from index : ℕ) → index ≡ length before → from ≤ index → AreIn (before ++ entries) from (indexed index entries)
indexed_at before [] from index is low = tt
indexed_at before (entry ∷ entries) from index is low = (
  low,
  get-end before entries entry index is,
  subst (λ (xs : List Entry). AreIn xs (suc index) (indexed (index + 1) entries)) (append_assoc before (entry ∷ []) entries)
      (indexed_at (before ++ entry ∷ []) entries (suc index) (index + 1) (omega (arith, length-append before (entry ∷ []))) (omega arith)),
)

pub in_noted : (log entries : List Entry) (from : ℕ) (owns : List Own) → from ≤ length log → AreIn log from owns → AreIn (log ++ entries) from (owns ++ indexed (length log) entries)
in_noted log entries from [] low h = indexed_at log entries from (length log) refl low
in_noted log entries from (own ∷ owns) low h =
    let within = slice_get_within log own.index own.entry h.1 in
    (h.0, get-longer log entries own.index own.entry h.1, in_noted log entries (suc own.index) owns (omega arith) h.2)

or_swap : (a b c : Bool) → (a || (b || c)) ≡ (b || (a || c))
or_swap true true c = refl
or_swap true false c = refl
or_swap false true c = refl
or_swap false false c = refl

put_in_by : (index : ℕ) (own other : Own) (others : List Own) → has_index index (put_in own others) ≡ ((own.index == index) || has_index index others) →
    (b : Bool) → has_index index (if b then own ∷ other ∷ others else other ∷ put_in own others) ≡ ((own.index == index) || ((other.index == index) || has_index index others))
put_in_by index own other others more true = refl
put_in_by index own other others more false = ap (λ (b : Bool). (other.index == index) || b) more ∙ or_swap (other.index == index) (own.index == index) (has_index index others)

pub has_index-put_in : (index : ℕ) (own : Own) (owns : List Own) → has_index index (put_in own owns) ≡ ((own.index == index) || has_index index owns)
has_index-put_in index own [] = refl
has_index-put_in index own (other ∷ others) = put_in_by index own other others (has_index-put_in index own others) (nat_lt own.index other.index)

neither : (a b : Bool) → (a || b) ≡ false → (a ≡ false) × (b ≡ false)
neither true b e = absurd (true≢false e)
neither false b e = (refl, e)

in_put_by : (log : List Entry) (from : ℕ) (own other : Own) (others : List Own) → from ≤ own.index → slice_get log own.index ≡ Some own.entry → AreIn log from (other ∷ others) → (other.index == own.index) ≡ false →
    (suc other.index ≤ own.index → AreIn log (suc other.index) (put_in own others)) → (b : Bool) → nat_lt own.index other.index ≡ b → AreIn log from (if b then own ∷ other ∷ others else other ∷ put_in own others)
in_put_by log from own other others low shown h differs more true e = let less = ltb-true own.index other.index e in (low, shown, (omega arith, h.1, h.2))
in_put_by log from own other others low shown h differs more false e =
    let less = ltb-false own.index other.index e in
    let apart : own.index ≡ other.index → ⊥ = λ same. true≢false (sym (eq-eqb other.index own.index (sym same)) ∙ differs) in
    (h.0, h.1, more (omega arith))

-- an entry at an index of its own comes in
pub in_put : (log : List Entry) (from : ℕ) (own : Own) (owns : List Own) → from ≤ own.index → slice_get log own.index ≡ Some own.entry → AreIn log from owns → has_index own.index owns ≡ false → AreIn log from (put_in own owns)
in_put log from own [] low shown h new = (low, shown, tt)
in_put log from own (other ∷ others) low shown h new =
    let t = neither (other.index == own.index) (has_index own.index others) new in
    in_put_by log from own other others low shown h t.0 (λ above. in_put log (suc other.index) own others above shown h.2 t.1) (nat_lt own.index other.index) refl

pub has_index-merged : (index : ℕ) (owns more : List Own) → has_index index (merged owns more) ≡ (has_index index owns || has_index index more)
has_index-merged index [] more = refl
has_index-merged index (own ∷ owns) more =
    has_index-put_in index own (merged owns more) ∙ ap (λ (b : Bool). (own.index == index) || b) (has_index-merged index owns more)
    ∙ or_assoc (own.index == index) (has_index index owns) (has_index index more)
  where
    or_assoc : (a b c : Bool) → (a || (b || c)) ≡ ((a || b) || c)
    or_assoc true b c = refl
    or_assoc false b c = refl

-- the indices of two that share none, together
pub in_merged : (log : List Entry) (from : ℕ) (owns more : List Own) → AreIn log from owns → AreIn log 0 more → ((index : ℕ) → has_index index owns ≡ true → has_index index more ≡ true → ⊥) → AreIn log 0 (merged owns more)
in_merged log from [] more h g apart = g
in_merged log from (own ∷ owns) more h g apart =
    in_put log 0 own (merged owns more) (omega arith) h.1
    (in_merged log (suc own.index) owns more h.2 g (λ index one other. apart index (or_right (own.index == index) (has_index index owns) one) other))
    (nowhere (has_index own.index (merged owns more)) refl)
  where
    or_right : (a b : Bool) → b ≡ true → (a || b) ≡ true
    or_right true b e = refl
    or_right false b e = e

    nowhere : (b : Bool) → has_index own.index (merged owns more) ≡ b → has_index own.index (merged owns more) ≡ false
    nowhere false e = e
    nowhere true e = absurd (⊎_elim
        (λ t. let above = index_from log (suc own.index) owns own.index h.2 t in let no : ⊥ = omega arith in no)
        (λ t. apart own.index (ap (λ (b : Bool). b || has_index own.index owns) (eq-eqb own.index own.index refl)) t)
        (or_cases (has_index own.index owns) (has_index own.index more) (sym (has_index-merged own.index owns more) ∙ e)))

-- quiet is said once where nothing comes between
pub sparse_nil : IsSparse []
sparse_nil index e = absurd (true≢false (sym e))

pub sparse_same : (log : List Entry) → IsSparse log → IsSparse (log ++ [])
sparse_same log h = subst IsSparse (sym (append-nil log)) h

not_both : (a b : Bool) → a ≡ true → (b ≡ true → a ≡ false) → b ≡ false
not_both a true e h = absurd (true≢false (sym e ∙ h refl))
not_both a false e h = refl

pub sparse_more : (log : List Entry) (entry : Entry) → IsSparse log → (says_quiet (Some entry) ≡ true → ends_quiet log ≡ false) → IsSparse (log ++ entry ∷ [])
sparse_more log entry h new index e =
    dite (dec_lt (suc index) (length log))
    (λ within. ap says_quiet (get-within log (entry ∷ []) (suc index) within) ∙ h index (sym (ap says_quiet (get-within log (entry ∷ []) index (omega arith))) ∙ e))
    (λ past. dite (ℕ_discrete (suc index) (length log))
    (λ is. ap says_quiet (get-end log [] entry (suc index) is)
    ∙ not_both (ends_quiet log) (says_quiet (Some entry)) (ap (λ (k : ℕ). says_quiet (slice_get log k)) (last index is) ∙ sym (ap says_quiet (get-within log (entry ∷ []) index (omega arith))) ∙ e) new)
    (λ other. ap says_quiet (slice_get_past (log ++ entry ∷ []) (suc index) (omega (arith, length-append log (entry ∷ []))))))
  where
    last : (index : ℕ) → suc index ≡ length log → length log - 1 ≡ index
    last index is = omega arith
