-- A note for each process that wants it: the indices of these processes, and their inboxes after each received a copy.
use Rattle.std.proofs.Common.{◌≡◌, ℕ, ◌+◌, ◌<◌, ◌≤◌, ◌⊎◌, zero, suc, List, [], ◌∷◌, ◌++◌, length, take, map, refl, ap, sym, subst, ◌∙◌, arith, Bool, true, false, not, ◌&&◌, ◌||◌, slice_set, get_or, nat_lt, if◌then◌else◌, append_assoc, inl, inr}
use Rattle.std.specs.List.{All}
use Rattle.std.proofs.lemmas.Bool.{and_parts, ltb-true, cases_eq, cases_lt}
use Rattle.std.proofs.lemmas.List.{take_more, take_all, length-map, get_or-set_other, get_or_append_left, get_or_default, length_push}
use Rattle.std.proofs.Math.Seq.{get_or-append_seam}
use Rattle.tb_terms.specs.declared.term.Term.{Term}
use Rattle.tb_notes.specs.Inboxes.{HasRoom, Held, nothing, wants, with_note}
use Rattle.tb_bus.specs.Effects.{takes_note}
use Rattle.tb_search.specs.Candidates.{Row, all_take, row_at, row_of, rows_of, wanting}
use Rattle.tb_search.specs.declared.living.Living.{Living}
use Rattle.tb_living.specs.Holdings.{helds_of, held_at, spare_at, bares_of, IsHeldAt, HoldTheSame, CanTake, put, put_each, with_given}
use Rattle.tb_living.proofs.HoldLemmas.{row-held, hold-then, same-long}

-- who wants a note

-- an index at which a process wants the note, where the first of them has this index
pub record IsWanting (note : List Term) (from : ℕ) (rows : List Row) (index : ℕ) : Type 0 where
  pub place : ℕ
  pub stands : index ≡ from + place
  pub within : place < length rows
  pub wants : wants (row_at rows place).inbox note ≡ true

wanting-later : (note : List Term) (from : ℕ) (row : Row) (rows : List Row) (index : ℕ) → IsWanting note (from + 1) rows index → IsWanting note from (row ∷ rows) index
wanting-later note from row rows index t =
    let e : index ≡ from + suc t.place = let f = t.stands in omega arith in
    let within : suc t.place < length (row ∷ rows) = let l = t.within in omega arith in
    record { place = suc t.place; stands = e; within = within; wants = t.wants }

wanting-by : (note : List Term) (from : ℕ) (row : Row) (rows : List Row) (others : List ℕ) (b : Bool) → wants row.inbox note ≡ b → All (IsWanting note (from + 1) rows) others →
    All (IsWanting note from (row ∷ rows)) (if b then from ∷ others else others)
wanting-by note from row rows others false e h k d l = wanting-later note from row rows (get_or others k d) (h k d l)
wanting-by note from row rows others true e h zero d l = record { place = 0; stands = omega arith; within = omega arith; wants = e }
wanting-by note from row rows others true e h (suc k) d l = wanting-later note from row rows (get_or others k d) (h k d (omega arith))

pub wanting-is : (note : List Term) (from : ℕ) (rows : List Row) → All (IsWanting note from rows) (wanting note from rows)
wanting-is note from [] = λ k d l. absurd (omega arith)
wanting-is note from (row ∷ rows) = wanting-by note from row rows (wanting note (from + 1) rows) (wants row.inbox note) refl (wanting-is note (from + 1) rows)

-- the indices ascend
abbrev pub AreApart : List ℕ → Type 0
AreApart indices = (i j : ℕ) → i < j → j < length indices → get_or indices i 0 < get_or indices j 0

apart-by : (note : List Term) (from : ℕ) (row : Row) (rows : List Row) (others : List ℕ) (b : Bool) → All (IsWanting note (from + 1) rows) others → AreApart others → AreApart (if b then from ∷ others else others)
apart-by note from row rows others false h apart i j l m = apart i j l m
apart-by note from row rows others true h apart i zero l m = absurd (omega arith)
apart-by note from row rows others true h apart zero (suc j) l m = let t = h j 0 (omega arith) in let e = t.stands in omega arith
apart-by note from row rows others true h apart (suc i) (suc j) l m = apart i j (omega arith) (omega arith)

pub wanting-apart : (note : List Term) (from : ℕ) (rows : List Row) → AreApart (wanting note from rows)
wanting-apart note from [] = λ i j l m. absurd (omega arith)
wanting-apart note from (row ∷ rows) =
    apart-by note from row rows (wanting note (from + 1) rows) (wants row.inbox note) (wanting-is note (from + 1) rows) (wanting-apart note (from + 1) rows)

-- each has room

implied : (w x : Bool) → w ≡ true → (not w || x) ≡ true → x ≡ true
implied true x e h = h
implied false x e h = cc

takes-at : (note : List Term) (rows : List Row) (place : ℕ) → all_take note rows ≡ true → place < length rows → takes_note note (row_at rows place).inbox ≡ true
takes-at note [] place h l = absurd (omega arith)
takes-at note (row ∷ rows) zero h l = (and_parts (takes_note note row.inbox) (all_take note rows) h).0
takes-at note (row ∷ rows) (suc place) h l = takes-at note rows place (and_parts (takes_note note row.inbox) (all_take note rows) h).1 (omega arith)

wanting-room : (note : List Term) (rows : List Row) (index : ℕ) → all_take note rows ≡ true → IsWanting note 0 rows index → HasRoom (row_at rows index).inbox
wanting-room note rows index h t =
    let same : t.place ≡ index = let e = t.stands in omega arith in
    let held : Held = (row_at rows t.place).inbox in
    let few : length held.notes < 65536 =
    ltb-true (length held.notes) 65536 (implied (wants held note) (nat_lt (length held.notes) 65536) t.wants (takes-at note rows t.place h t.within)) in
    subst (λ at. HasRoom (row_at rows at).inbox) same few

-- one with memory and room

pub wanting-within : {W : Type 0} (note : List Term) (all : List (Living W)) (indices : List ℕ) → indices ≡ wanting note 0 (rows_of all) → All (λ at. at < length all) indices
wanting-within note all indices e k d l =
    let t : IsWanting note 0 (rows_of all) (get_or indices k d) = subst (λ (is : List ℕ). All (IsWanting note 0 (rows_of all)) is) (sym e) (wanting-is note 0 (rows_of all)) k d l in
    let same = t.stands in
    let within = t.within in
    let many = length-map all row_of in
    omega arith

pub all-can : {W : Type 0} (note : List Term) (all now : List (Living W)) (indices : List ℕ) → indices ≡ wanting note 0 (rows_of all) → all_take note (rows_of all) ≡ true → HoldTheSame all now →
    All (λ at. 0 < spare_at now at) indices → All (CanTake now) indices
all-can {W = W} note all now indices e room same spare k d l =
    let at : ℕ = get_or indices k d in
    let t : IsWanting note 0 (rows_of all) at = subst (λ (is : List ℕ). All (IsWanting note 0 (rows_of all)) is) (sym e) (wanting-is note 0 (rows_of all)) k d l in
    let long : length now ≡ length all = same-long all now same.bares in
    let within : at < length all = wanting-within note all indices e k d l in
    let held : (row_at (rows_of all) at).inbox ≡ held_at now at = row-held all at ∙ ap (λ (hs : List Held). get_or hs at nothing) (sym same.helds) in
    record { within = omega arith; room = subst HasRoom held (wanting-room note (rows_of all) at room t); spare = spare k d l }

pub apart-of : (note : List Term) (rows : List Row) (indices : List ℕ) → indices ≡ wanting note 0 rows → AreApart indices
apart-of note rows indices e = subst AreApart (sym e) (wanting-apart note 0 rows)

-- both rest on what is held alone

wanting-by_held : {W : Type 0} (note : List Term) (from : ℕ) (one other : List (Living W)) → helds_of one ≡ helds_of other → wanting note from (rows_of one) ≡ wanting note from (rows_of other)
wanting-by_held note from [] [] e = refl
wanting-by_held note from [] (y ∷ ys) e = cc
wanting-by_held note from (x ∷ xs) [] e = cc
wanting-by_held note from (x ∷ xs) (y ∷ ys) e =
    let head : x.inbox.held ≡ y.inbox.held = cc in
    let tail : helds_of xs ≡ helds_of ys = cc in
    ap (λ is. if wants x.inbox.held note then from ∷ is else is) (wanting-by_held note (from + 1) xs ys tail)
    ∙ ap (λ held. if wants held note then from ∷ wanting note (from + 1) (rows_of ys) else wanting note (from + 1) (rows_of ys)) head

pub wanting-same : {W : Type 0} (note : List Term) (one other : List (Living W)) → helds_of one ≡ helds_of other → wanting note 0 (rows_of one) ≡ wanting note 0 (rows_of other)
wanting-same note one other e = wanting-by_held note 0 one other e

pub all_take-same : {W : Type 0} (note : List Term) (one other : List (Living W)) → helds_of one ≡ helds_of other → all_take note (rows_of one) ≡ all_take note (rows_of other)
all_take-same note [] [] e = refl
all_take-same note [] (y ∷ ys) e = cc
all_take-same note (x ∷ xs) [] e = cc
all_take-same note (x ∷ xs) (y ∷ ys) e =
    let head : x.inbox.held ≡ y.inbox.held = cc in
    let tail : helds_of xs ≡ helds_of ys = cc in
    ap (λ held. takes_note note held && all_take note (rows_of xs)) head ∙ ap (λ rest. takes_note note y.inbox.held && rest) (all_take-same note xs ys tail)

-- memory for each

-- those before an index have memory
pub record HasReserved {W : Type 0} (old new : List (Living W)) (indices : List ℕ) (so_far : ℕ) : Type 0 where
  pub same : HoldTheSame old new
  pub spare : (k d : ℕ) → k < so_far → 0 < spare_at new (get_or indices k d)

spare-by : {W : Type 0} (now new : List (Living W)) (at other : ℕ) → (other ≡ at) ⊎ (other ≡ at → ⊥) → 0 < spare_at now other → 0 < spare_at new at → ((x : ℕ) → (x ≡ at → ⊥) → spare_at new x ≡ spare_at now x) → 0 < spare_at new other
spare-by now new at other (inl e) had has others = subst (λ x. 0 < spare_at new x) (sym e) has
spare-by now new at other (inr ne) had has others = let e = others other ne in omega arith

reserved-by : {W : Type 0} (now new : List (Living W)) (indices : List ℕ) (so_far k d : ℕ) → (k < so_far) ⊎ (so_far ≤ k) → k < so_far + 1 → ((k d : ℕ) → k < so_far → 0 < spare_at now (get_or indices k d)) → so_far < length indices →
    0 < spare_at new (get_or indices so_far 0) → ((x : ℕ) → (x ≡ get_or indices so_far 0 → ⊥) → spare_at new x ≡ spare_at now x) → 0 < spare_at new (get_or indices k d)
reserved-by now new indices so_far k d (inl less) l had within has others =
    spare-by now new (get_or indices so_far 0) (get_or indices k d) (cases_eq (get_or indices k d) (get_or indices so_far 0)) (had k d less) has others
reserved-by now new indices so_far k d (inr le) l had within has others =
    let same : so_far ≡ k = omega arith in
    subst (λ x. 0 < spare_at new x) (get_or_default indices so_far 0 d within ∙ ap (λ i. get_or indices i d) same) has

pub reserved-more : {W : Type 0} (old now new : List (Living W)) (indices : List ℕ) (so_far at : ℕ) → HasReserved old now indices so_far → so_far < length indices → at ≡ get_or indices so_far 0 → HoldTheSame now new →
    0 < spare_at new at → ((x : ℕ) → (x ≡ at → ⊥) → spare_at new x ≡ spare_at now x) → HasReserved old new indices (so_far + 1)
reserved-more old now new indices so_far at h within e same has others = record {
  same = hold-then old now new h.same same;
  spare = λ k d l. reserved-by now new indices so_far k d (cases_lt k so_far) l h.spare within (subst (λ x. 0 < spare_at new x) e has) (λ x ne. others x (λ f. ne (f ∙ e)));
}

-- a copy for each

put_each-last : (note : List Term) (indices : List ℕ) (at : ℕ) (helds : List Held) → put_each note (indices ++ at ∷ []) helds ≡ put_each note indices (put note at helds)
put_each-last note [] at helds = refl
put_each-last note (first ∷ indices) at helds = ap (put note first) (put_each-last note indices at helds)

all-prefix : {A : Type 0} (P : A → Type 0) (xs : List A) (y : A) → All P (xs ++ y ∷ []) → All P xs
all-prefix P xs y h k d l = let long = length_push xs y in subst P (get_or_append_left xs (y ∷ []) d k l) (h k d (omega arith))

all-last : {A : Type 0} (P : A → Type 0) (xs : List A) (y : A) → All P (xs ++ y ∷ []) → P y
all-last P xs y h = let long = length_push xs y in subst P (get_or-append_seam xs y [] y) (h (length xs) y (omega arith))

-- of the copies these are left, and the other processes have theirs
pub record HasPut {W : Type 0} (old new : List (Living W)) (indices : List ℕ) (copies left : List (List Term)) : Type 0 where
  pub few : length left ≤ length indices
  pub bares : bares_of new ≡ bares_of old
  pub can : (k : ℕ) → k < length left → CanTake new (get_or indices k 0)
  pub equal : (note : List Term) → All (λ copy. copy ≡ note) copies → All (λ copy. copy ≡ note) left
  pub helds : (note : List Term) → All (λ copy. copy ≡ note) copies → put_each note (take (length left) indices) (helds_of new) ≡ put_each note indices (helds_of old)

pub put-none : {W : Type 0} (old : List (Living W)) (indices : List ℕ) (copies : List (List Term)) → length copies ≡ length indices → All (CanTake old) indices → HasPut old old indices copies copies
put-none old indices copies e can = record {
  few = omega arith;
  bares = refl;
  can = λ k l. can k 0 (omega arith);
  equal = λ note h. h;
  helds = λ note h. ap (λ is. put_each note is (helds_of old)) (take_all (length copies) indices (omega arith));
}

still-can : {W : Type 0} (now new : List (Living W)) (at other : ℕ) (held : Held) → CanTake now other → (other ≡ at → ⊥) → IsHeldAt now at held new → ((x : ℕ) → (x ≡ at → ⊥) → spare_at new x ≡ spare_at now x) → CanTake new other
still-can {W = W} now new at other held can ne given others =
    let long : length new ≡ length now = same-long now new given.bares in
    let within : other < length now = can.within in
    let same : held_at new other ≡ held_at now other = ap (λ (hs : List Held). get_or hs other nothing) given.helds ∙ get_or-set_other (helds_of now) at other held nothing ne in
    record { within = omega arith; room = subst HasRoom (sym same) can.room; spare = subst (λ n. 0 < n) (sym (others other ne)) can.spare }

pub put-more : {W : Type 0} (old now new : List (Living W)) (indices : List ℕ) (copies left rest : List (List Term)) (copy : List Term) (at : ℕ) → AreApart indices → HasPut old now indices copies left → left ≡ rest ++ copy ∷ [] →
    at ≡ get_or indices (length rest) 0 → IsHeldAt now at (with_note copy (held_at now at)) new → ((x : ℕ) → (x ≡ at → ⊥) → spare_at new x ≡ spare_at now x) → HasPut old new indices copies rest
put-more {W = W} old now new indices copies left rest copy at apart h e is given others =
    let long : length left ≡ length rest + 1 = ap (λ (xs : List (List Term)). length xs) e ∙ length_push rest copy in
    let few : length left ≤ length indices = h.few in
    let within : length rest < length indices = omega arith in
    record {
      few = omega arith;
      bares = given.bares ∙ h.bares;
      can = λ k l. still-can now new at (get_or indices k 0) (with_note copy (held_at now at)) (h.can k (omega arith)) (λ f. let less = apart k (length rest) l within in let g = f ∙ is in omega arith) given others;
      equal = λ note c. all-prefix (λ x. x ≡ note) rest copy (subst (All (λ x. x ≡ note)) e (h.equal note c));
      helds = λ note c.
          let same : copy ≡ note = all-last (λ x. x ≡ note) rest copy (subst (All (λ x. x ≡ note)) e (h.equal note c)) in
          let indices_left : take (length left) indices ≡ take (length rest) indices ++ at ∷ [] =
          ap (λ n. take n indices) long ∙ take_more indices (length rest) 0 within ∙ ap (λ x. take (length rest) indices ++ x ∷ []) (sym is) in
          ap (put_each note (take (length rest) indices)) (given.helds ∙ ap (λ x. slice_set (helds_of now) at (with_note x (held_at now at))) same)
          ∙ sym (put_each-last note (take (length rest) indices) at (helds_of now))
          ∙ ap (λ is. put_each note is (helds_of now)) (sym indices_left)
          ∙ h.helds note c;
    }

pub put-all : {W : Type 0} (old new : List (Living W)) (indices : List ℕ) (copies left : List (List Term)) (note : List Term) → HasPut old new indices copies left → length left ≡ 0 → All (λ copy. copy ≡ note) copies →
    helds_of new ≡ put_each note indices (helds_of old)
put-all old new indices copies left note h e c = sym (ap (λ n. put_each note (take n indices) (helds_of new)) e) ∙ h.helds note c

-- each that wants it gets it

put-seam : (note : List Term) (prefix : List Held) (held : Held) (rest : List Held) → put note (length prefix) (prefix ++ held ∷ rest) ≡ prefix ++ with_note note held ∷ rest
put-seam note [] held rest = refl
put-seam note (first ∷ prefix) held rest = ap (λ hs. first ∷ hs) (put-seam note prefix held rest)

each-by : (note : List Term) (prefix : List Held) (held : Held) (rest after : List Held) (from : ℕ) (others : List ℕ) (b : Bool) → wants held note ≡ b → from ≡ length prefix →
    put_each note others ((prefix ++ held ∷ []) ++ rest) ≡ (prefix ++ held ∷ []) ++ after → put_each note (if b then from ∷ others else others) (prefix ++ held ∷ rest) ≡ prefix ++ with_given note held ∷ after
each-by note prefix held rest after from others false e f h =
    ap (put_each note others) (sym (append_assoc prefix (held ∷ []) rest)) ∙ h ∙ append_assoc prefix (held ∷ []) after
    ∙ ap (λ b. let x : Held = if b then with_note note held else held in prefix ++ x ∷ after) (sym e)
each-by note prefix held rest after from others true e f h =
    ap (λ hs. put note from (put_each note others hs)) (sym (append_assoc prefix (held ∷ []) rest)) ∙ ap (put note from) (h ∙ append_assoc prefix (held ∷ []) after)
    ∙ ap (λ n. put note n (prefix ++ held ∷ after)) f ∙ put-seam note prefix held after
    ∙ ap (λ b. let x : Held = if b then with_note note held else held in prefix ++ x ∷ after) (sym e)

each-wanting : {W : Type 0} (note : List Term) (prefix : List Held) (all : List (Living W)) (from : ℕ) → from ≡ length prefix →
    put_each note (wanting note from (rows_of all)) (prefix ++ helds_of all) ≡ prefix ++ map (with_given note) (helds_of all)
each-wanting note prefix [] from e = refl
each-wanting note prefix (living ∷ all) from e =
    let next : from + 1 ≡ length (prefix ++ living.inbox.held ∷ []) = let l = length_push prefix living.inbox.held in omega arith in
    each-by note prefix living.inbox.held (helds_of all) (map (with_given note) (helds_of all)) from (wanting note (from + 1) (rows_of all)) (wants living.inbox.held note) refl e
    (each-wanting note (prefix ++ living.inbox.held ∷ []) all (from + 1) next)

pub each-given : {W : Type 0} (note : List Term) (all : List (Living W)) (indices : List ℕ) → indices ≡ wanting note 0 (rows_of all) → put_each note indices (helds_of all) ≡ map (with_given note) (helds_of all)
each-given note all indices e = ap (λ is. put_each note is (helds_of all)) e ∙ each-wanting note [] all 0 refl
