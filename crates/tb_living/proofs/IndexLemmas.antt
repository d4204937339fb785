-- The index stays right when one of the running processes changes.
use Rattle.std.proofs.Common.{◌≡◌, ◌≢◌, ◌<◌, ◌≤◌, ◌+◌, ◌++◌, ◌||◌, ◌==◌, ℕ, zero, suc, List, [], ◌∷◌, length, take, map, append-nil, append_assoc, refl, ap, sym, subst, ◌∙◌, arith, Some, Bool, true, false, get_or, slice_get, slice_set, remove, eq-eqb}
use Rattle.std.specs.List.{All}
use Rattle.std.proofs.lemmas.Bool.{and_from, eqb-true, false_from_ne_true, false≢true, or_left, or_right}
use Rattle.std.proofs.lemmas.Option.{none-some, same_Some}
use Rattle.std.proofs.lemmas.List.{take_all, take_more}
use Rattle.std.proofs.lemmas.List.Elements.{All-cons, All-head, All-nil, All-push, All-same, All-tail, All-weaker}
use Rattle.tb_index.specs.Indexes.{HasRoom, IndexState, IsCleared, IsSet, IsTurned, SameIndex, receives, sends}
use Rattle.tb_index.specs.Marks.{has_mark, is_mark}
use Rattle.tb_index.specs.declared.mark.Mark.{Mark}
use Rattle.tb_index.specs.declared.mark.Marks.{Marks}
use Rattle.tb_search.specs.Candidates.{Row, ascend, row_of, rows_of}
use Rattle.tb_search.specs.Indexed.{sent_by, sent_marks}
use Rattle.tb_search.specs.declared.living.Living.{Living}
use Rattle.tb_search.specs.declared.living.Ready.{Ready}
use Rattle.tb_search.proofs.TurnLemmas.{ascend-first}
use Rattle.tb_living.specs.Holdings.{bare, bares_of}
use Rattle.tb_living.specs.Indexes.{IsMarked, IsRightForAll, HasNothing, IsRightFor, IsUnmarked, KeepsOf, found_by, found_marks, is_alive}
use Rattle.tb_living.specs.Lives.{IsBelow}
use Rattle.tb_living.proofs.ReadLemmas.{above-there}

has-own : (marks : List Mark) (k : ℕ) (d : Mark) → k < length marks → has_mark marks (get_or marks k d) ≡ true
has-own [] k d l = absurd (omega arith)
has-own (mark ∷ marks) zero d l =
    or_left (is_mark mark mark) (has_mark marks mark) (and_from (mark.count == mark.count) (mark.head == mark.head) (eq-eqb mark.count mark.count refl) (eq-eqb mark.head mark.head refl))
has-own (mark ∷ marks) (suc k) d l =
    or_right (is_mark (get_or marks k d) mark) (has_mark marks (get_or marks k d)) (has-own marks k d (omega arith))

-- a process is indexed where the index has just its marks
indexed-by : (index : IndexState) (row : Row) → ((mark : Mark) → sends index mark row.number ≡ has_mark (sent_marks row.ready) mark) →
    ((mark : Mark) → receives index mark row.number ≡ has_mark (found_marks row.ready) mark) → IsMarked index row
indexed-by index row sent received = record {
  sent = λ k d l. sent (get_or (sent_marks row.ready) k d) ∙ has-own (sent_marks row.ready) k d l;
  received = λ k d l. received (get_or (found_marks row.ready) k d) ∙ has-own (found_marks row.ready) k d l;
}

-- who is alive

or-true : (b : Bool) → (b || true) ≡ true
or-true true = refl
or-true false = refl

or-first : (b rest : Bool) → b ≡ true → (b || rest) ≡ true
or-first true rest e = refl
or-first false rest e = cc

pub neither : (a b : Bool) → (a || b) ≡ false → (a ≡ false) × (b ≡ false)
neither true b h = absurd (false≢true (sym h))
neither false b h = (refl, h)

alive-here : {W : Type 0} (all : List (Living W)) (at : ℕ) (living : Living W) → slice_get all at ≡ Some living → is_alive living.number all ≡ true
alive-here [] at living here = absurd (none-some living here)
alive-here (first ∷ all) zero living here =
    or-first (first.number == living.number) (is_alive living.number all) (eq-eqb first.number living.number (ap (λ (l : Living _). l.number) (same_Some first living here)))
alive-here (first ∷ all) (suc at) living here = ap (λ rest. (first.number == living.number) || rest) (alive-here all at living here) ∙ or-true (first.number == living.number)

alive-set : {W : Type 0} (number : ℕ) (all : List (Living W)) (at : ℕ) (before after : Living W) → slice_get all at ≡ Some before → after.number ≡ before.number → is_alive number (slice_set all at after) ≡ is_alive number all
alive-set number [] at before after here same = refl
alive-set number (first ∷ all) zero before after here same = ap (λ n. (n == number) || is_alive number all) (same ∙ ap (λ (l : Living _). l.number) (sym (same_Some first before here)))
alive-set number (first ∷ all) (suc at) before after here same = ap (λ rest. (first.number == number) || rest) (alive-set number all at before after here same)

alive-removed : {W : Type 0} (number : ℕ) (all : List (Living W)) (at : ℕ) (before : Living W) → slice_get all at ≡ Some before → (before.number == number) ≡ false → is_alive number (remove all at) ≡ false → is_alive number all ≡ false
alive-removed number [] at before here other h = refl
alive-removed number (first ∷ all) zero before here other h =
    ap (λ b. b || is_alive number all) (ap (λ (l : Living _). l.number == number) (same_Some first before here) ∙ other) ∙ h
alive-removed number (first ∷ all) (suc at) before here other h =
    let parts = neither (first.number == number) (is_alive number (remove all at)) h in
    ap (λ b. b || is_alive number all) parts.0 ∙ alive-removed number all at before here other parts.1

alive-pushed : {W : Type 0} (number : ℕ) (all : List (Living W)) (living : Living W) → is_alive number (all ++ living ∷ []) ≡ false → is_alive number all ≡ false
alive-pushed number [] living h = refl
alive-pushed number (first ∷ all) living h =
    let parts = neither (first.number == number) (is_alive number (all ++ living ∷ [])) h in
    ap (λ b. b || is_alive number all) parts.0 ∙ alive-pushed number all living parts.1

alive-below : {W : Type 0} (number : ℕ) (all : List (Living W)) → All (IsBelow number) all → is_alive number all ≡ false
alive-below number [] below = refl
alive-below number (living ∷ all) below =
    let less : living.number < number = All-head (IsBelow number) living all below in
    let other : (living.number == number) ≡ false = false_from_ne_true (living.number == number) (λ e. let same = eqb-true living.number number e in omega arith) in
    ap (λ b. b || is_alive number all) other ∙ alive-below number all (All-tail (IsBelow number) living all below)

alive-bare : {W : Type 0} (number : ℕ) (all : List (Living W)) → is_alive number (bares_of all) ≡ is_alive number all
alive-bare number [] = refl
alive-bare number (living ∷ all) = ap (λ rest. (living.number == number) || rest) (alive-bare number all)

pub alive-bares : {W : Type 0} (number : ℕ) (old new : List (Living W)) → bares_of new ≡ bares_of old → is_alive number old ≡ is_alive number new
alive-bares number old new e = sym (alive-bare number old) ∙ ap (is_alive number) (sym e) ∙ alive-bare number new

-- what an index keeps

pub keeps-self : (index : IndexState) (number : ℕ) → KeepsOf index index number
keeps-self index number = record { sent = λ mark. refl; received = λ mark. refl; awake = refl; room = λ h. h }

pub keeps-then : (old middle new : IndexState) (number : ℕ) → KeepsOf old middle number → KeepsOf middle new number → KeepsOf old new number
keeps-then old middle new number one other = record {
  sent = λ mark. other.sent mark ∙ one.sent mark;
  received = λ mark. other.received mark ∙ one.received mark;
  awake = other.awake ∙ one.awake;
  room = λ h. other.room (one.room h);
}

pub keeps-same : (old new : IndexState) → SameIndex old new → (number : ℕ) → KeepsOf old new number
keeps-same old new same number = record {
  sent = λ mark. same.same_sends mark number;
  received = λ mark. same.same_receives mark number;
  awake = same.same_awake number;
  room = same.same_room number;
}

pub keeps-set : (old new : IndexState) (number : ℕ) (sent received : List Mark) → IsSet old new number sent received → (other : ℕ) → other ≢ number → KeepsOf old new other
keeps-set old new number sent received set other ne = record {
  sent = λ mark. set.other_sends mark other ne;
  received = λ mark. set.other_receives mark other ne;
  awake = set.same_awake other;
  room = set.same_room other;
}

pub keeps-cleared : (old new : IndexState) (number : ℕ) → IsCleared old new number → (other : ℕ) → other ≢ number → KeepsOf old new other
keeps-cleared old new number cleared other ne = record {
  sent = λ mark. cleared.other_sends mark other ne;
  received = λ mark. cleared.other_receives mark other ne;
  awake = cleared.other_awake other ne;
  room = cleared.same_room other;
}

pub keeps-turned : (old new : IndexState) (number : ℕ) (awake : Bool) → IsTurned old new number awake → (other : ℕ) → other ≢ number → KeepsOf old new other
keeps-turned old new number awake turned other ne = record {
  sent = λ mark. turned.same_sends mark other;
  received = λ mark. turned.same_receives mark other;
  awake = turned.other_awake other ne;
  room = turned.same_room other;
}

pub kept-nothing : (old new : IndexState) (number : ℕ) → KeepsOf old new number → HasNothing old number → HasNothing new number
kept-nothing old new number k h = record { sent = λ mark. k.sent mark ∙ h.sent mark; received = λ mark. k.received mark ∙ h.received mark; asleep = k.awake ∙ h.asleep }

kept-row : (old new : IndexState) (row : Row) → KeepsOf old new row.number → IsMarked old row → IsMarked new row
kept-row old new row k h = record {
  sent = All-weaker (λ (mark : Mark). sends old mark row.number ≡ true) (λ (mark : Mark). sends new mark row.number ≡ true) (λ mark e. k.sent mark ∙ e) (sent_marks row.ready) h.sent;
  received = All-weaker (λ (mark : Mark). receives old mark row.number ≡ true) (λ (mark : Mark). receives new mark row.number ≡ true) (λ mark e. k.received mark ∙ e) (found_marks row.ready) h.received;
}

pub kept-right : {W : Type 0} (old new : IndexState) (living : Living W) → KeepsOf old new living.number → IsRightFor old living → IsRightFor new living
kept-right old new living k h = record {
  sent = λ mark. k.sent mark ∙ h.sent mark;
  received = λ mark. k.received mark ∙ h.received mark;
  room = k.room h.room;
  fresh = λ e. kept-row old new (row_of living) k (h.fresh e);
}

pub all-kept : {W : Type 0} (old new : IndexState) (all : List (Living W)) → ((number : ℕ) → KeepsOf old new number) → IsRightForAll old all → IsRightForAll new all
all-kept old new all k h = record {
  each = All-weaker (IsRightFor old) (IsRightFor new) (λ living it. kept-right old new living (k living.number) it) all h.each;
  others = λ number absent. kept-nothing old new number (k number) (h.others number absent);
}

-- another in the place of one of the living

same-row : (index : IndexState) (one other : Row) → other.number ≡ one.number → other.ready ≡ one.ready → IsMarked index one → IsMarked index other
same-row index one other number ready h = record {
  sent = subst (λ (rs : List Ready). All (λ (mark : Mark). sends index mark other.number ≡ true) (sent_marks rs)) (sym ready)
      (subst (λ n. All (λ (mark : Mark). sends index mark n ≡ true) (sent_marks one.ready)) (sym number) h.sent);
  received = subst (λ (rs : List Ready). All (λ (mark : Mark). receives index mark other.number ≡ true) (found_marks rs)) (sym ready)
      (subst (λ n. All (λ (mark : Mark). receives index mark n ≡ true) (found_marks one.ready)) (sym number) h.received);
}

-- with the same marks, and fresh only where that one was, with the same that it is ready for
pub same-right : {W : Type 0} (index : IndexState) (before after : Living W) → after.number ≡ before.number → after.marks ≡ before.marks → (after.fresh ≡ true → (before.fresh ≡ true) × (after.ready ≡ before.ready)) → IsRightFor index before → IsRightFor index after
same-right {W = W} index before after number marks fresh h = record {
  sent = λ mark. ap (sends index mark) number ∙ h.sent mark ∙ ap (λ ms. has_mark ms.sends.items mark) (sym marks);
  received = λ mark. ap (receives index mark) number ∙ h.received mark ∙ ap (λ ms. has_mark ms.receives.items mark) (sym marks);
  room = subst (HasRoom index) (sym number) h.room;
  fresh = λ e. let was = fresh e in same-row index (row_of before) (row_of after) number (ap (λ v. v.items) was.1) (h.fresh was.0);
}

pub stale-right : {W : Type 0} (index : IndexState) (before after : Living W) → after.number ≡ before.number → after.marks ≡ before.marks → after.fresh ≡ false → IsRightFor index before → IsRightFor index after
stale-right index before after number marks stale h = same-right index before after number marks (λ e. absurd (false≢true (sym stale ∙ e))) h

pub bare-right : {W : Type 0} (index : IndexState) (living : Living W) → IsRightFor index living → IsRightFor index (bare living)
bare-right index living h = same-right index living (bare living) refl refl (λ e. (e, refl)) h

pub filled-right : {W : Type 0} (index : IndexState) (living : Living W) → IsRightFor index (bare living) → IsRightFor index living
filled-right index living h = same-right index (bare living) living refl refl (λ e. (e, refl)) h

-- what holds of one of the living by what an index keeps of it
module _ {W : Type 0} (P : IndexState → Living W → Type 0) (kept : (old new : IndexState) (living : Living W) → KeepsOf old new living.number → P old living → P new living) where
  -- those behind one, where the index keeps what it has of all but this
  above : (old new : IndexState) (number below : ℕ) (all : List (Living W)) → number ≤ below → ascend below (rows_of all) ≡ true → ((other : ℕ) → other ≢ number → KeepsOf old new other) → All (P old) all → All (P new) all
  above old new number below [] le order k h = All-nil (P new)
  above old new number below (living ∷ all) le order k h =
      let t = ascend-first below (row_of living) (rows_of all) order in
      let larger : below < living.number = t.0 in
      All-cons (P new) living all (kept old new living (k living.number (λ e. omega arith)) (All-head (P old) living all h))
      (above old new number living.number all (omega arith) t.1 k (All-tail (P old) living all h))

  pub each-set : (old new : IndexState) (below : ℕ) (all : List (Living W)) (at : ℕ) (before after : Living W) → ascend below (rows_of all) ≡ true → slice_get all at ≡ Some before → ((other : ℕ) → other ≢ before.number → KeepsOf old new other) →
      P new after → All (P old) all → All (P new) (slice_set all at after)
  each-set old new below [] at before after order here k it h = absurd (none-some before here)
  each-set old new below (living ∷ all) zero before after order here k it h =
      let t = ascend-first below (row_of living) (rows_of all) order in
      let number : before.number ≡ living.number = ap (λ (l : Living _). l.number) (sym (same_Some living before here)) in
      All-cons (P new) after all it (above old new before.number living.number all (omega arith) t.1 k (All-tail (P old) living all h))
  each-set old new below (living ∷ all) (suc at) before after order here k it h =
      let t = ascend-first below (row_of living) (rows_of all) order in
      let less : living.number < before.number = above-there living.number all at before t.1 here in
      All-cons (P new) living (slice_set all at after) (kept old new living (k living.number (λ e. omega arith)) (All-head (P old) living all h))
      (each-set old new living.number all at before after t.1 here k it (All-tail (P old) living all h))

  pub each-removed : (old new : IndexState) (below : ℕ) (all : List (Living W)) (at : ℕ) (before : Living W) → ascend below (rows_of all) ≡ true → slice_get all at ≡ Some before → ((other : ℕ) → other ≢ before.number → KeepsOf old new other) →
      All (P old) all → All (P new) (remove all at)
  each-removed old new below [] at before order here k h = absurd (none-some before here)
  each-removed old new below (living ∷ all) zero before order here k h =
      let t = ascend-first below (row_of living) (rows_of all) order in
      let number : before.number ≡ living.number = ap (λ (l : Living _). l.number) (sym (same_Some living before here)) in
      above old new before.number living.number all (omega arith) t.1 k (All-tail (P old) living all h)
  each-removed old new below (living ∷ all) (suc at) before order here k h =
      let t = ascend-first below (row_of living) (rows_of all) order in
      let less : living.number < before.number = above-there living.number all at before t.1 here in
      All-cons (P new) living (remove all at) (kept old new living (k living.number (λ e. omega arith)) (All-head (P old) living all h))
      (each-removed old new living.number all at before t.1 here k (All-tail (P old) living all h))

pub right-set : {W : Type 0} (old new : IndexState) (all set : List (Living W)) (at : ℕ) (before after : Living W) → set ≡ slice_set all at after → ascend 0 (rows_of all) ≡ true → slice_get all at ≡ Some before → after.number ≡ before.number →
    ((other : ℕ) → other ≢ before.number → KeepsOf old new other) → IsRightFor new after → IsRightForAll old all → IsRightForAll new set
right-set old new all set at before after e order here number k it h = record {
  each = subst (All (IsRightFor new)) (sym e) (each-set IsRightFor kept-right old new 0 all at before after order here k it h.each);
  others = λ other absent.
      let gone : is_alive other all ≡ false = sym (alive-set other all at before after here number) ∙ ap (is_alive other) (sym e) ∙ absent in
      kept-nothing old new other (k other (λ same. false≢true (sym gone ∙ ap (λ n. is_alive n all) same ∙ alive-here all at before here))) (h.others other gone);
}

others-removed : {W : Type 0} (old new : IndexState) (all : List (Living W)) (at : ℕ) (before : Living W) (other : ℕ) (b : Bool) → (before.number == other) ≡ b → slice_get all at ≡ Some before → IsCleared old new before.number →
    ((number : ℕ) → is_alive number all ≡ false → HasNothing old number) → is_alive other (remove all at) ≡ false → HasNothing new other
others-removed old new all at before other true same here cleared h absent =
    subst (HasNothing new) (eqb-true before.number other same) (record { sent = cleared.own_sends; received = cleared.own_receives; asleep = cleared.own_awake })
others-removed old new all at before other false differ here cleared h absent =
    kept-nothing old new other (keeps-cleared old new before.number cleared other (λ same. false≢true (sym differ ∙ eq-eqb before.number other (sym same))))
    (h other (alive-removed other all at before here differ absent))

pub right-removed : {W : Type 0} (old new : IndexState) (all left : List (Living W)) (at : ℕ) (before : Living W) → left ≡ remove all at → ascend 0 (rows_of all) ≡ true → slice_get all at ≡ Some before →
    IsCleared old new before.number → IsRightForAll old all → IsRightForAll new left
right-removed old new all left at before e order here cleared h = record {
  each = subst (All (IsRightFor new)) (sym e) (each-removed IsRightFor kept-right old new 0 all at before order here (keeps-cleared old new before.number cleared) h.each);
  others = λ other absent. others-removed old new all at before other (before.number == other) refl here cleared h.others (ap (is_alive other) (sym e) ∙ absent);
}

-- those that begin

unmarked-right : {W : Type 0} (index : IndexState) (living : Living W) → IsUnmarked living → HasNothing index living.number → HasRoom index living.number → IsRightFor index living
unmarked-right index living u h room = record {
  sent = λ mark. h.sent mark ∙ sym (ap (λ ms. has_mark ms mark) u.sends);
  received = λ mark. h.received mark ∙ sym (ap (λ ms. has_mark ms mark) u.receives);
  room = room;
  fresh = λ e. absurd (false≢true (sym u.stale ∙ e));
}

pub right-pushed : {W : Type 0} (index : IndexState) (all pushed : List (Living W)) (living : Living W) → pushed ≡ all ++ living ∷ [] → All (IsBelow living.number) all → IsUnmarked living → HasRoom index living.number → IsRightForAll index all → IsRightForAll index pushed
right-pushed index all pushed living e below u room h = record {
  each = All-same (IsRightFor index) pushed (all ++ living ∷ []) e
      (All-push (IsRightFor index) all living h.each (unmarked-right index living u (h.others living.number (alive-below living.number all below)) room));
  others = λ other absent. h.others other (alive-pushed other all living (ap (is_alive other) (sym e) ∙ absent));
}

each-begins : {W : Type 0} (index : IndexState) (all : List (Living W)) → ((number : ℕ) → HasNothing index number) → All (HasRoom index) (map (λ living. living.number) all) → All IsUnmarked all → All (IsRightFor index) all
each-begins index [] h room u = All-nil (IsRightFor index)
each-begins index (living ∷ all) h room u =
    All-cons (IsRightFor index) living all
    (unmarked-right index living (All-head IsUnmarked living all u) (h living.number) (All-head (HasRoom index) living.number (map (λ living. living.number) all) room))
    (each-begins index all h (All-tail (HasRoom index) living.number (map (λ living. living.number) all) room) (All-tail IsUnmarked living all u))

pub right-opened : {W : Type 0} (index : IndexState) (all seen : List (Living W)) (named numbers : List ℕ) → ((number : ℕ) → HasNothing index number) → All (HasRoom index) named → named ≡ numbers → numbers ≡ map (λ living. living.number) seen → seen ≡ all → All IsUnmarked all → IsRightForAll index all
right-opened {W = W} index all seen named numbers h room e f g u = record {
  each = each-begins index all h (subst (All (HasRoom index)) (e ∙ f ∙ ap (map (λ (living : Living W). living.number)) g) room) u;
  others = λ number absent. h number;
}

room-more : (old new : IndexState) (numbers : List ℕ) (at : ℕ) → at < length numbers → ((number : ℕ) → HasRoom old number → HasRoom new number) → HasRoom new (get_or numbers at 0) → All (HasRoom old) (take at numbers) → All (HasRoom new) (take (at + 1) numbers)
room-more old new numbers at within kept here h =
    All-same (HasRoom new) (take (at + 1) numbers) (take at numbers ++ get_or numbers at 0 ∷ []) (take_more numbers at 0 within)
    (All-push (HasRoom new) (take at numbers) (get_or numbers at 0) (All-weaker (HasRoom old) (HasRoom new) kept (take at numbers) h) here)

-- with room for one more an index still has nothing
pub roomier : (old new : IndexState) (numbers : List ℕ) (at : ℕ) → at < length numbers → SameIndex old new → HasRoom new (get_or numbers at 0) → ((number : ℕ) → HasNothing old number) → All (HasRoom old) (take at numbers) →
    ((number : ℕ) → HasNothing new number) × All (HasRoom new) (take (at + 1) numbers)
roomier old new numbers at within same here h room =
    ((λ number. kept-nothing old new number (keeps-same old new same number) (h number)), room-more old new numbers at within same.same_room here room)

pub room-all : (index : IndexState) (numbers : List ℕ) (at : ℕ) → length numbers ≤ at → All (HasRoom index) (take at numbers) → All (HasRoom index) numbers
room-all index numbers at past h = All-same (HasRoom index) numbers (take at numbers) (sym (take_all at numbers past)) h

-- the marks of one action more

sent-append : (actions : List Ready) (ready : Ready) → sent_marks (actions ++ ready ∷ []) ≡ sent_marks actions ++ sent_by ready.action
sent-append [] ready = append-nil (sent_by ready.action)
sent-append (first ∷ actions) ready = ap (λ ms. sent_by first.action ++ ms) (sent-append actions ready) ∙ sym (append_assoc (sent_by first.action) (sent_marks actions) (sent_by ready.action))

received-append : (actions : List Ready) (ready : Ready) → found_marks (actions ++ ready ∷ []) ≡ found_marks actions ++ found_by ready.action
received-append [] ready = append-nil (found_by ready.action)
received-append (first ∷ actions) ready = ap (λ ms. found_by first.action ++ ms) (received-append actions ready) ∙ sym (append_assoc (found_by first.action) (found_marks actions) (found_by ready.action))

pub sent-more : (actions : List Ready) (at : ℕ) (ready : Ready) (marks pushed : List Mark) → at < length actions → ready ≡ get_or actions at ready → pushed ≡ marks ++ sent_by ready.action → marks ≡ sent_marks (take at actions) → pushed ≡ sent_marks (take (at + 1) actions)
sent-more actions at ready marks pushed within is e h =
    e ∙ ap (λ ms. ms ++ sent_by ready.action) h ∙ sym (sent-append (take at actions) ready) ∙ ap (λ r. sent_marks (take at actions ++ r ∷ [])) is ∙ ap sent_marks (sym (take_more actions at ready within))

pub received-more : (actions : List Ready) (at : ℕ) (ready : Ready) (marks pushed : List Mark) → at < length actions → ready ≡ get_or actions at ready → pushed ≡ marks ++ found_by ready.action → marks ≡ found_marks (take at actions) → pushed ≡ found_marks (take (at + 1) actions)
received-more actions at ready marks pushed within is e h =
    e ∙ ap (λ ms. ms ++ found_by ready.action) h ∙ sym (received-append (take at actions) ready) ∙ ap (λ r. found_marks (take at actions ++ r ∷ [])) is ∙ ap found_marks (sym (take_more actions at ready within))

-- one that was looked at

-- the index has the marks of what it is ready for now
pub looked-right : {W : Type 0} (old set new : IndexState) (living : Living W) (looked marks : Marks) (awake : Bool) → IsRightFor old living → IsSet old set living.number looked.sends.items looked.receives.items → IsTurned set new living.number awake →
    looked.sends.items ≡ sent_marks living.ready.items → looked.receives.items ≡ found_marks living.ready.items → marks ≡ looked → IsRightFor new (record living { marks = marks; fresh = true })
looked-right old set new living looked marks awake h is turned sent received same =
    let sends_it : (mark : Mark) → sends new mark living.number ≡ has_mark looked.sends.items mark = λ mark. turned.same_sends mark living.number ∙ is.own_sends mark in
    let receives_it : (mark : Mark) → receives new mark living.number ≡ has_mark looked.receives.items mark = λ mark. turned.same_receives mark living.number ∙ is.own_receives mark in
    record {
      sent = λ mark. sends_it mark ∙ ap (λ (ms : Marks). has_mark ms.sends.items mark) (sym same);
      received = λ mark. receives_it mark ∙ ap (λ (ms : Marks). has_mark ms.receives.items mark) (sym same);
      room = turned.same_room living.number (is.same_room living.number h.room);
      fresh = λ e. indexed-by new (row_of living) (λ mark. sends_it mark ∙ ap (λ ms. has_mark ms mark) sent) (λ mark. receives_it mark ∙ ap (λ ms. has_mark ms mark) received);
    }

-- one that wakes or falls asleep

turned-row : (old new : IndexState) (number : ℕ) (awake : Bool) (row : Row) → IsTurned old new number awake → IsMarked old row → IsMarked new row
turned-row old new number awake row turned h = record {
  sent = All-weaker (λ (mark : Mark). sends old mark row.number ≡ true) (λ (mark : Mark). sends new mark row.number ≡ true) (λ mark e. turned.same_sends mark row.number ∙ e) (sent_marks row.ready) h.sent;
  received = All-weaker (λ (mark : Mark). receives old mark row.number ≡ true) (λ (mark : Mark). receives new mark row.number ≡ true) (λ mark e. turned.same_receives mark row.number ∙ e) (found_marks row.ready) h.received;
}

turned-right : {W : Type 0} (old new : IndexState) (number : ℕ) (awake : Bool) (living : Living W) → IsTurned old new number awake → IsRightFor old living → IsRightFor new living
turned-right old new number awake living turned h = record {
  sent = λ mark. turned.same_sends mark living.number ∙ h.sent mark;
  received = λ mark. turned.same_receives mark living.number ∙ h.received mark;
  room = turned.same_room living.number h.room;
  fresh = λ e. turned-row old new number awake (row_of living) turned (h.fresh e);
}

pub all-turned : {W : Type 0} (old new : IndexState) (awake : Bool) (all : List (Living W)) (at : ℕ) (living : Living W) → slice_get all at ≡ Some living → IsTurned old new living.number awake → IsRightForAll old all → IsRightForAll new all
all-turned old new awake all at living here turned h = record {
  each = All-weaker (IsRightFor old) (IsRightFor new) (λ l it. turned-right old new living.number awake l turned it) all h.each;
  others = λ other absent. kept-nothing old new other
      (keeps-turned old new living.number awake turned other (λ same. false≢true (sym absent ∙ ap (λ n. is_alive n all) same ∙ alive-here all at living here)))
      (h.others other absent);
}
