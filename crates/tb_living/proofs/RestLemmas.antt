-- Each sleeping process rests after each kind of change: of its ready actions, its queue, the tools, and which others are awake.
use Rattle.std.proofs.Common.{◌≡◌, ◌≢◌, ◌<◌, ◌≤◌, ◌+◌, ◌⊎◌, inl, inr, ⊎_elim, ℕ, zero, suc, List, [], ◌∷◌, ◌++◌, length, take, map, refl, ap, sym, subst, ◌∙◌, arith, Option, Some, None, Bool, true, false, not, is_some, option_map, ◌&&◌, get_or, slice_get, slice_set, if◌then◌else◌}
use Rattle.std.specs.Global.{Vec}
use Rattle.std.specs.List.{All}
use Rattle.std.proofs.lemmas.Bool.{and_from, and_parts, cases_eq, cases_lt, false≢true}
use Rattle.std.proofs.lemmas.Option.{get_or_from_slice_get, slice_get-map, slice_get_within, slice_get-get_or}
use Rattle.std.proofs.lemmas.List.{length-map, get_or-map as mapped-at, take_all, take_more, get_or-set_other, get_or-set_same}
use Rattle.std.proofs.lemmas.List.Elements.{All-cons, All-head, All-nil, All-push, All-same, All-tail, All-weaker}
use Rattle.std.proofs.Math.ListN.{get_or-map}
use Rattle.tb_terms.specs.declared.term.Term.{Term}
use Rattle.tb_notes.specs.Inboxes.{Held, first_match, nothing, wants, with_note}
use Rattle.tb_index.specs.Indexes.{IndexState, IsTurned, is_awake, is_receiver, receives}
use Rattle.tb_index.specs.Marks.{received_mark, wide}
use Rattle.tb_index.specs.declared.mark.Mark.{Mark}
use Rattle.tb_bus.specs.Exchanges.{Setting}
use Rattle.tb_search.specs.Candidates.{Row, ascend, row_at, row_of, rows_of, wanting}
use Rattle.tb_search.specs.Indexed.{IsIndexed, IsIndexFor, IsNextPlace, SleepsAtRest, all_rest, own_rests, received_by, received_marks, rests}
use Rattle.tb_bus.specs.declared.action.Action.{Action}
use Rattle.tb_bus.specs.declared.action.Action.TheVariants as action
use Rattle.tb_bus.specs.declared.action.OwnAction.{OwnAction}
use Rattle.tb_bus.specs.declared.action.OwnAction.TheVariants as own
use Rattle.tb_bus.specs.declared.action.ToolAction.{ToolAction}
use Rattle.tb_search.specs.declared.living.Living.{Living}
use Rattle.tb_search.specs.declared.living.Ready.{Ready}
use Rattle.tb_search.proofs.IndexLemmas.{all-left, all-right}
use Rattle.tb_search.proofs.PlaceLemmas.{ascend-less, row-read}
use Rattle.tb_living.specs.Holdings.{bare, bares_of, helds_of, held_at, IsHeldAt, with_given}
use Rattle.tb_living.specs.Indexes.{AreStillAwake, IsAwakeAt, IsRested, IsRightFor, IsMarked, IsRightForAll, KeepsOf, found_by, found_marks, is_silent, number_in, number_marks, own_rests_with, rest_among, rest_with, rests_among, rests_with, spoken_in, tool_mark, tool_marks}
use Rattle.tb_living.specs.Lives.{AreFresh}
use Rattle.tb_living.proofs.IndexLemmas.{neither}

-- by the queue and by the tools

own-parts : (setting : Setting) (held : Held) (does : OwnAction) → own_rests setting held does ≡ true → (own_rests_with held does ≡ true) × (is_silent setting (spoken_in does) ≡ true)
own-parts setting held own.Tau h = (h, refl)
own-parts setting held (own.Set values binds) h = (h, refl)
own-parts setting held (own.Print text) h = (h, refl)
own-parts setting held (own.Notify terms) h = (h, refl)
own-parts setting held (own.TakeNote patterns) h = (h, refl)
own-parts setting held (own.NoNote patterns) h = (h, refl)
own-parts setting held (own.Subscribe patterns) h = (h, refl)
own-parts setting held (own.Unsubscribe patterns) h = (h, refl)
own-parts setting held (own.Create process actuals slot) h = (h, refl)
own-parts setting held (own.Speak does) h = (refl, h)
own-parts setting held (own.Shutdown reason) h = (h, refl)

parts : (setting : Setting) (held : Held) (does : Action) → rests setting held does ≡ true → (rests_with held does ≡ true) × (rests_among setting does ≡ true)
parts setting held (action.Own does) h = own-parts setting held does h
parts setting held (action.Send terms) h = (refl, refl)
parts setting held (action.Receive patterns) h = (refl, refl)

all-parts : (setting : Setting) (held : Held) (some : List Ready) → all_rest setting held some ≡ true → (rest_with held some ≡ true) × (rest_among setting some ≡ true)
all-parts setting held [] h = (refl, refl)
all-parts setting held (ready ∷ others) h =
    let t = and_parts (rests setting held ready.action) (all_rest setting held others) h in
    let one = parts setting held ready.action t.0 in
    let more = all-parts setting held others t.1 in (
      and_from (rests_with held ready.action) (rest_with held others) one.0 more.0,
      and_from (rests_among setting ready.action) (rest_among setting others) one.1 more.1,
    )

own-whole : (setting : Setting) (held : Held) (does : OwnAction) → own_rests_with held does ≡ true → is_silent setting (spoken_in does) ≡ true → own_rests setting held does ≡ true
own-whole setting held own.Tau a b = a
own-whole setting held (own.Set values binds) a b = a
own-whole setting held (own.Print text) a b = a
own-whole setting held (own.Notify terms) a b = a
own-whole setting held (own.TakeNote patterns) a b = a
own-whole setting held (own.NoNote patterns) a b = a
own-whole setting held (own.Subscribe patterns) a b = a
own-whole setting held (own.Unsubscribe patterns) a b = a
own-whole setting held (own.Create process actuals slot) a b = a
own-whole setting held (own.Speak does) a b = b
own-whole setting held (own.Shutdown reason) a b = a

whole : (setting : Setting) (held : Held) (does : Action) → rests_with held does ≡ true → rests_among setting does ≡ true → rests setting held does ≡ true
whole setting held (action.Own does) a b = own-whole setting held does a b
whole setting held (action.Send terms) a b = refl
whole setting held (action.Receive patterns) a b = refl

all-whole : (setting : Setting) (held : Held) (some : List Ready) → rest_with held some ≡ true → rest_among setting some ≡ true → all_rest setting held some ≡ true
all-whole setting held [] a b = refl
all-whole setting held (ready ∷ others) a b =
    let t = and_parts (rests_with held ready.action) (rest_with held others) a in
    let u = and_parts (rests_among setting ready.action) (rest_among setting others) b in
    and_from (rests setting held ready.action) (all_rest setting held others) (whole setting held ready.action t.0 u.0) (all-whole setting held others t.1 u.1)

-- the notes alone decide

own-same : (one other : Held) (does : OwnAction) → one.notes ≡ other.notes → own_rests_with one does ≡ own_rests_with other does
own-same one other own.Tau e = refl
own-same one other (own.Set values binds) e = refl
own-same one other (own.Print text) e = refl
own-same one other (own.Notify terms) e = refl
own-same one other (own.TakeNote patterns) e = ap (λ notes. not (is_some (first_match 0 patterns notes))) e
own-same one other (own.NoNote patterns) e = ap (λ notes. is_some (first_match 0 patterns notes)) e
own-same one other (own.Subscribe patterns) e = refl
own-same one other (own.Unsubscribe patterns) e = refl
own-same one other (own.Create process actuals slot) e = refl
own-same one other (own.Speak does) e = refl
own-same one other (own.Shutdown reason) e = refl

with-same : (one other : Held) (does : Action) → one.notes ≡ other.notes → rests_with one does ≡ rests_with other does
with-same one other (action.Own does) e = own-same one other does e
with-same one other (action.Send terms) e = refl
with-same one other (action.Receive patterns) e = refl

rest-same : (one other : Held) (some : List Ready) → one.notes ≡ other.notes → rest_with one some ≡ rest_with other some
rest-same one other [] e = refl
rest-same one other (ready ∷ others) e =
    ap (λ b. b && rest_with one others) (with-same one other ready.action e) ∙ ap (λ b. rests_with other ready.action && b) (rest-same one other others e)

-- one of the living

asleep-by : (index : IndexState) (number : ℕ) (rest : Bool) → is_awake index number ≡ not rest → is_awake index number ≡ false → rest ≡ true
asleep-by index number true turned asleep = refl
asleep-by index number false turned asleep = absurd (false≢true (sym asleep ∙ turned))

module _ {W : Type 0} (settings : ℕ → Setting) (stirred : Bool) where
  pub rested-kept : (old new : IndexState) (living : Living W) → KeepsOf old new living.number → IsRested settings stirred old living → IsRested settings stirred new living
  rested-kept old new living k h = record {
    queue = λ fresh asleep. h.queue fresh (sym k.awake ∙ asleep);
    tools = λ calm fresh asleep. h.tools calm fresh (sym k.awake ∙ asleep);
  }

  pub rested-stale : (index : IndexState) (living : Living W) → living.fresh ≡ false → IsRested settings stirred index living
  rested-stale index living e = record {
    queue = λ fresh asleep. absurd (false≢true (sym e ∙ fresh));
    tools = λ calm fresh asleep. absurd (false≢true (sym e ∙ fresh));
  }

  pub rested-awake : (index : IndexState) (living : Living W) → is_awake index living.number ≡ true → IsRested settings stirred index living
  rested-awake index living e = record {
    queue = λ fresh asleep. absurd (false≢true (sym asleep ∙ e));
    tools = λ calm fresh asleep. absurd (false≢true (sym asleep ∙ e));
  }

  pub rested-same : (index : IndexState) (before after : Living W) → after.number ≡ before.number → after.body ≡ before.body → (after.fresh ≡ true → (before.fresh ≡ true) × (after.ready ≡ before.ready)) →
      after.inbox.held.notes ≡ before.inbox.held.notes → IsRested settings stirred index before → IsRested settings stirred index after
  rested-same index before after number body looked notes h = record {
    queue = λ fresh asleep.
        let was = looked fresh in
        rest-same after.inbox.held before.inbox.held after.ready.items notes ∙ ap (λ (v : Vec Ready). rest_with before.inbox.held v.items) was.1
        ∙ h.queue was.0 (ap (is_awake index) (sym number) ∙ asleep);
    tools = λ calm fresh asleep.
        let was = looked fresh in
        ap (λ b. rest_among (settings b) after.ready.items) body ∙ ap (λ (v : Vec Ready). rest_among (settings before.body) v.items) was.1
        ∙ h.tools calm was.0 (ap (is_awake index) (sym number) ∙ asleep);
  }

  -- a process that sleeps if and only if all its ready actions rest
  pub rested-turned : (old new : IndexState) (living : Living W) (rest : Bool) → IsTurned old new living.number (not rest) → rest ≡ all_rest (settings living.body) living.inbox.held living.ready.items → IsRested settings stirred new living
  rested-turned old new living rest turned is =
      let both = λ (asleep : is_awake new living.number ≡ false).
      all-parts (settings living.body) living.inbox.held living.ready.items (sym is ∙ asleep-by new living.number rest turned.own_awake asleep) in
      record {
        queue = λ fresh asleep. (both asleep).0;
        tools = λ calm fresh asleep. (both asleep).1;
      }

  -- with another inbox
  rested-bare : (index : IndexState) (was now : Living W) → bare was ≡ bare now → (now.inbox.held.notes ≡ was.inbox.held.notes) ⊎ ((was.fresh ≡ false) ⊎ (is_awake index was.number ≡ true)) →
      IsRested settings stirred index was → IsRested settings stirred index now
  rested-bare index was now same (inl notes) h =
      rested-same index was now (ap (λ (l : Living W). l.number) (sym same)) (ap (λ (l : Living W). l.body) (sym same))
      (λ fresh. (ap (λ (l : Living W). l.fresh) same ∙ fresh, ap (λ (l : Living W). l.ready) (sym same))) notes h
  rested-bare index was now same (inr (inl stale)) h = rested-stale index now (ap (λ (l : Living W). l.fresh) (sym same) ∙ stale)
  rested-bare index was now same (inr (inr awake)) h = rested-awake index now (ap (λ (l : Living W). is_awake index l.number) (sym same) ∙ awake)

  pub rested-bares : (index : IndexState) (old new : List (Living W)) → bares_of new ≡ bares_of old → length new ≡ length old →
      ((k : ℕ) (d : Living W) → k < length old → ((get_or new k d).inbox.held.notes ≡ (get_or old k d).inbox.held.notes) ⊎ (((get_or old k d).fresh ≡ false) ⊎ (is_awake index (get_or old k d).number ≡ true))) →
      All (IsRested settings stirred index) old → All (IsRested settings stirred index) new
  rested-bares index old new e long stays h k d within =
      let less : k < length old = omega arith in
      let same : bare (get_or old k d) ≡ bare (get_or new k d) =
      sym (get_or-map bare old k d) ∙ ap (λ (xs : List (Living W)). get_or xs k (bare d)) (sym e) ∙ get_or-map bare new k d in
      rested-bare index (get_or old k d) (get_or new k d) same (stays k d less) (h k d less)

-- if one process wakes, no other falls asleep
turned-by : (old new : IndexState) (number other : ℕ) → (other ≡ number) ⊎ (other ≡ number → ⊥) → IsTurned old new number true → is_awake old other ≡ true → is_awake new other ≡ true
turned-by old new number other (inl e) turned awake = ap (is_awake new) e ∙ turned.own_awake
turned-by old new number other (inr ne) turned awake = turned.other_awake other ne ∙ awake

pub turned-awake : (old new : IndexState) (number : ℕ) → IsTurned old new number true → AreStillAwake old new
turned-awake old new number turned other awake = turned-by old new number other (cases_eq other number) turned awake

-- after a change of a lane (`stirred`), nothing is claimed about tools
pub rested-stirred : {W : Type 0} (settings others : ℕ → Setting) (stirred : Bool) (index : IndexState) (all : List (Living W)) → All (IsRested settings stirred index) all → All (IsRested others true index) all
rested-stirred settings others stirred index all h =
    All-weaker (IsRested settings stirred index) (IsRested others true index) (λ living it. record { queue = it.queue; tools = λ calm. absurd (false≢true (sym calm)) }) all h

-- what is held after a change

held-of : {W : Type 0} (all : List (Living W)) (k : ℕ) (d : Living W) → k < length all → held_at all k ≡ (get_or all k d).inbox.held
held-of {W = W} all k d within = get_or_from_slice_get (helds_of all) k (get_or all k d).inbox.held nothing
    (slice_get-map (λ (l : Living W). l.inbox.held) all k ∙ ap (option_map (λ (l : Living W). l.inbox.held)) (slice_get-get_or all k d within))

module _ {W : Type 0} (index : IndexState) (old new : List (Living W)) (long : length new ≡ length old) where
  -- the same
  pub stays-unheld : helds_of new ≡ helds_of old → (k : ℕ) (d : Living W) → k < length old →
      ((get_or new k d).inbox.held.notes ≡ (get_or old k d).inbox.held.notes) ⊎ (((get_or old k d).fresh ≡ false) ⊎ (is_awake index (get_or old k d).number ≡ true))
  stays-unheld e k d within =
      inl (ap (λ (h : Held). h.notes) (sym (held-of new k d (omega (arith, long, within))) ∙ ap (λ (hs : List Held). get_or hs k nothing) e ∙ held-of old k d within))

  -- another at one index
  module _ (at : ℕ) (before : Living W) (held : Held) (here : slice_get old at ≡ Some before) (changed : IsHeldAt old at held new) where
    stays-at : (k : ℕ) (d : Living W) → k < length old → k ≡ at → (held.notes ≡ before.inbox.held.notes) ⊎ (before.fresh ≡ false) →
        ((get_or new k d).inbox.held.notes ≡ (get_or old k d).inbox.held.notes) ⊎ (((get_or old k d).fresh ≡ false) ⊎ (is_awake index (get_or old k d).number ≡ true))
    stays-at k d within e (inr stale) =
        inr (inl (ap (λ (n : ℕ). (get_or old n d).fresh) e ∙ ap (λ (l : Living W). l.fresh) (get_or_from_slice_get old at before d here) ∙ stale))
    stays-at k d within e (inl notes) =
        let many = length-map old (λ (l : Living W). l.inbox.held) in
        let is : before ≡ get_or old k d = sym (get_or_from_slice_get old at before d here) ∙ ap (λ (n : ℕ). get_or old n d) (sym e) in
        inl (ap (λ (h : Held). h.notes)
        (sym (held-of new k d (omega (arith, long, within))) ∙ ap (λ (hs : List Held). get_or hs k nothing) changed.helds ∙ ap (λ (n : ℕ). get_or (slice_set (helds_of old) at held) n nothing) e
        ∙ get_or-set_same (helds_of old) at held nothing (omega (arith, many, within, e))) ∙ notes ∙ ap (λ (l : Living W). l.inbox.held.notes) is)

    pub stays-held : (held.notes ≡ before.inbox.held.notes) ⊎ (before.fresh ≡ false) → (k : ℕ) (d : Living W) → k < length old →
        ((get_or new k d).inbox.held.notes ≡ (get_or old k d).inbox.held.notes) ⊎ (((get_or old k d).fresh ≡ false) ⊎ (is_awake index (get_or old k d).number ≡ true))
    stays-held h k d within = ⊎_elim
        (λ (e : k ≡ at). stays-at k d within e h)
        (λ (ne : k ≡ at → ⊥). inl (ap (λ (h : Held). h.notes)
        (sym (held-of new k d (omega (arith, long, within))) ∙ ap (λ (hs : List Held). get_or hs k nothing) changed.helds ∙ get_or-set_other (helds_of old) at k held nothing ne ∙ held-of old k d within)))
        (cases_eq k at)

  -- a note for each that wants it and is awake
  module _ (note : List Term) (e : helds_of new ≡ map (with_given note) (helds_of old)) where
    given-notes : (was : Living W) (now : Held) (b : Bool) → wants was.inbox.held note ≡ b → now ≡ (if b then with_note note was.inbox.held else was.inbox.held) → (b ≡ true → is_awake index was.number ≡ true) →
        (now.notes ≡ was.inbox.held.notes) ⊎ ((was.fresh ≡ false) ⊎ (is_awake index was.number ≡ true))
    given-notes was now true w g awake = inr (inr (awake refl))
    given-notes was now false w g awake = inl (ap (λ (h : Held). h.notes) g)

    pub stays-given : ((k : ℕ) (d : Living W) → k < length old → wants (get_or old k d).inbox.held note ≡ true → is_awake index (get_or old k d).number ≡ true) → (k : ℕ) (d : Living W) → k < length old →
        ((get_or new k d).inbox.held.notes ≡ (get_or old k d).inbox.held.notes) ⊎ (((get_or old k d).fresh ≡ false) ⊎ (is_awake index (get_or old k d).number ≡ true))
    stays-given awake k d within =
        let was = get_or old k d in
        let many = length-map old (λ (l : Living W). l.inbox.held) in
        let now : (get_or new k d).inbox.held ≡ with_given note was.inbox.held =
        sym (get_or-map (λ (l : Living W). l.inbox.held) new k d) ∙ ap (λ (hs : List Held). get_or hs k d.inbox.held) e
        ∙ mapped-at (with_given note) (helds_of old) k d.inbox.held d.inbox.held (omega (arith, many, within)) ∙ ap (with_given note) (get_or-map (λ (l : Living W). l.inbox.held) old k d) in
        given-notes was (get_or new k d).inbox.held (wants was.inbox.held note) refl now (λ w. awake k d within w)

-- those that want a note

wanted-first : (P : ℕ → Type 0) (from : ℕ) (others : List ℕ) (b : Bool) → b ≡ true → All P (if b then from ∷ others else others) → P from
wanted-first P from others true e h = All-head P from others h
wanted-first P from others false e h = cc

wanted-others : (P : ℕ → Type 0) (from : ℕ) (others : List ℕ) (b : Bool) → All P (if b then from ∷ others else others) → All P others
wanted-others P from others true h = All-tail P from others h
wanted-others P from others false h = h

-- what holds of all that want a note holds of each
wanted-each : (P : ℕ → Type 0) (note : List Term) (from : ℕ) (rows : List Row) (k : ℕ) → All P (wanting note from rows) → k < length rows → wants (row_at rows k).inbox note ≡ true → P (from + k)
wanted-each P note from [] k h l w = absurd (omega arith)
wanted-each P note from (row ∷ rows) zero h l w =
    let same : from ≡ from + 0 = omega arith in
    subst P same (wanted-first P from (wanting note (from + 1) rows) (wants row.inbox note) w h)
wanted-each P note from (row ∷ rows) (suc k) h l w =
    let same : from + 1 + k ≡ from + suc k = omega arith in
    subst P same (wanted-each P note (from + 1) rows k (wanted-others P from (wanting note (from + 1) rows) (wants row.inbox note) h) (omega arith) w)

pub wanting-awake : {W : Type 0} (index : IndexState) (note : List Term) (all : List (Living W)) (indices : List ℕ) → indices ≡ wanting note 0 (rows_of all) → All (IsAwakeAt index all) indices →
    (k : ℕ) (d : Living W) → k < length all → wants (get_or all k d).inbox.held note ≡ true → is_awake index (get_or all k d).number ≡ true
wanting-awake index note all indices e h k d within w =
    let many = length-map all row_of in
    let row = row-read all k d within in
    let same : 0 + k ≡ k = omega arith in
    ap (λ (r : Row). is_awake index r.number) (sym row)
    ∙ subst (IsAwakeAt index all) same (wanted-each (IsAwakeAt index all) note 0 (rows_of all) k (subst (All (IsAwakeAt index all)) e h) (omega arith) (ap (λ (r : Row). wants r.inbox note) row ∙ w))

-- one more is awake
pub awake-more : {W : Type 0} (old new : IndexState) (all : List (Living W)) (indices : List ℕ) (so_far : ℕ) → so_far < length indices → AreStillAwake old new → IsAwakeAt new all (get_or indices so_far 0) →
    All (IsAwakeAt old all) (take so_far indices) → All (IsAwakeAt new all) (take (so_far + 1) indices)
awake-more old new all indices so_far within still here h =
    All-same (IsAwakeAt new all) (take (so_far + 1) indices) (take so_far indices ++ get_or indices so_far 0 ∷ []) (take_more indices so_far 0 within)
    (All-push (IsAwakeAt new all) (take so_far indices) (get_or indices so_far 0)
    (All-weaker (IsAwakeAt old all) (IsAwakeAt new all) (λ n e. still (row_at (rows_of all) n).number e) (take so_far indices) h) here)

pub awake-all : {W : Type 0} (index : IndexState) (all : List (Living W)) (indices : List ℕ) (so_far : ℕ) → length indices ≤ so_far → All (IsAwakeAt index all) (take so_far indices) → All (IsAwakeAt index all) indices
awake-all index all indices so_far past h = All-same (IsAwakeAt index all) indices (take so_far indices) (sym (take_all so_far indices past)) h

-- numbers of two that differ

module _ {W : Type 0} (all : List (Living W)) (order : ascend 0 (rows_of all) ≡ true) (at : ℕ) (living : Living W) (here : slice_get all at ≡ Some living) where
  pub apart : (k : ℕ) (d : Living W) → k < length all → (k ≡ at → ⊥) → (get_or all k d).number ≢ living.number
  apart k d within ne same =
      let many = length-map all row_of in
      let less = slice_get_within all at living here in
      let one : (get_or (rows_of all) k (row_of d)).number ≡ (get_or all k d).number = ap (λ (r : Row). r.number) (get_or-map row_of all k d) in
      let other : (get_or (rows_of all) at (row_of d)).number ≡ living.number = ap (λ (r : Row). r.number) (get_or-map row_of all at d ∙ ap row_of (get_or_from_slice_get all at living d here)) in
      ⊎_elim
      (λ (l : k < at). let t = ascend-less 0 (rows_of all) k at (row_of d) order l (omega arith) in omega arith)
      (λ (l : at ≤ k). let t = ascend-less 0 (rows_of all) at k (row_of d) order (omega arith) (omega arith) in omega arith)
      (cases_lt k at)

  -- one wakes or falls asleep, and the others stay
  pub rested-one : (settings : ℕ → Setting) (stirred : Bool) (old new : IndexState) → ((other : ℕ) → other ≢ living.number → KeepsOf old new other) → IsRested settings stirred new living →
      All (IsRested settings stirred old) all → All (IsRested settings stirred new) all
  rested-one settings stirred old new kept it h k d within = ⊎_elim
      (λ (e : k ≡ at). subst (IsRested settings stirred new) (sym (ap (λ (n : ℕ). get_or all n d) e ∙ get_or_from_slice_get all at living d here)) it)
      (λ (ne : k ≡ at → ⊥). rested-kept settings stirred old new (get_or all k d) (kept (get_or all k d).number (apart k d within ne)) (h k d within))
      (cases_eq k at)

-- those that speak with tools

spoken-unheard : (setting : Setting) (index : IndexState) (proc : ℕ) (does : Option ToolAction) → receives index tool_mark proc ≡ false → All (λ (mark : Mark). receives index mark proc ≡ true) (tool_marks does) → is_silent setting does ≡ true
spoken-unheard setting index proc None deaf h = refl
spoken-unheard setting index proc (Some does) deaf h = absurd (false≢true (sym deaf ∙ All-head (λ (mark : Mark). receives index mark proc ≡ true) tool_mark (number_marks (number_in does)) h))

among-unheard : (setting : Setting) (index : IndexState) (proc : ℕ) (does : Action) → receives index tool_mark proc ≡ false → All (λ (mark : Mark). receives index mark proc ≡ true) (found_by does) → rests_among setting does ≡ true
among-unheard setting index proc (action.Own does) deaf h = spoken-unheard setting index proc (spoken_in does) deaf h
among-unheard setting index proc (action.Send terms) deaf h = refl
among-unheard setting index proc (action.Receive patterns) deaf h = refl

all-unheard : (setting : Setting) (index : IndexState) (proc : ℕ) (some : List Ready) → receives index tool_mark proc ≡ false → All (λ (mark : Mark). receives index mark proc ≡ true) (found_marks some) → rest_among setting some ≡ true
all-unheard setting index proc [] deaf h = refl
all-unheard setting index proc (ready ∷ others) deaf h =
    and_from (rests_among setting ready.action) (rest_among setting others)
    (among-unheard setting index proc ready.action deaf (all-left (λ (mark : Mark). receives index mark proc ≡ true) (found_by ready.action) (found_marks others) h))
    (all-unheard setting index proc others deaf (all-right (λ (mark : Mark). receives index mark proc ≡ true) (found_by ready.action) (found_marks others) h))

-- a process that the index doesn't list under the mark of tools speaks with none, so it rests by the tools
pub rested-unheard : {W : Type 0} (settings : ℕ → Setting) (stirred : Bool) (index : IndexState) (living : Living W) → IsRightFor index living → is_receiver index tool_mark living.number ≡ false → IsRested settings stirred index living → IsRested settings false index living
rested-unheard settings stirred index living right deaf h = record {
  queue = h.queue;
  tools = λ calm fresh asleep. all-unheard (settings living.body) index living.number living.ready.items
      (neither (receives index tool_mark living.number) (receives index (wide tool_mark) living.number) deaf).0 (right.fresh fresh).received;
}

-- the processes before an index of the list rest by the tools too
abbrev pub AreSettledBelow : {W : Type 0} → (ℕ → Setting) → IndexState → ℕ → List (Living W) → Type 0
AreSettledBelow {W = W} settings index at all = (k : ℕ) (d : Living W) → k < at → k < length all → IsRested settings false index (get_or all k d)

module _ {W : Type 0} (settings : ℕ → Setting) (stirred : Bool) (all : List (Living W)) where
  between : (index : IndexState) (at place : ℕ) → All (IsRightFor index) all → All (IsRested settings stirred index) all → ((k : ℕ) → at ≤ k → k < place → is_receiver index tool_mark (row_at (rows_of all) k).number ≡ false) →
      AreSettledBelow settings index at all → AreSettledBelow settings index place all
  between index at place right rested deaf h k d less within = ⊎_elim
      (λ (l : k < at). h k d l within)
      (λ (l : at ≤ k). rested-unheard settings stirred index (get_or all k d) (right k d within)
      (ap (λ (r : Row). is_receiver index tool_mark r.number) (sym (row-read all k d within)) ∙ deaf k l less) (rested k d within))
      (cases_lt k at)

  -- the process at a place was settled, and no process between the index and this place speaks with tools
  pub settled-more : (old new : IndexState) (at place : ℕ) (living : Living W) → ascend 0 (rows_of all) ≡ true → All (IsRightFor old) all → All (IsRested settings stirred old) all → IsNextPlace (is_receiver old tool_mark) (rows_of all) at (Some place) →
      slice_get all place ≡ Some living → IsRested settings false new living → ((other : ℕ) → other ≢ living.number → KeepsOf old new other) → AreSettledBelow settings old at all → AreSettledBelow settings new (place + 1) all
  settled-more old new at place living order right rested next here it kept h k d less within = ⊎_elim
      (λ (e : k ≡ place). subst (IsRested settings false new) (sym (ap (λ (n : ℕ). get_or all n d) e ∙ get_or_from_slice_get all place living d here)) it)
      (λ (ne : k ≡ place → ⊥). rested-kept settings false old new (get_or all k d) (kept (get_or all k d).number (apart all order place living here k d within ne))
      (between old at place right rested next.2 h k d (omega arith) within))
      (cases_eq k place)

  -- no process from the index on speaks with tools
  pub settled-all : (index : IndexState) (at : ℕ) → All (IsRightFor index) all → All (IsRested settings stirred index) all → IsNextPlace (is_receiver index tool_mark) (rows_of all) at None →
      AreSettledBelow settings index at all → All (IsRested settings false index) all
  settled-all index at right rested next h k d within =
      let many = length-map all row_of in
      between index at (length all) right rested (λ n low l. next n low (omega arith)) h k d within within

pub settled-end : {W : Type 0} (settings : ℕ → Setting) (index : IndexState) (all : List (Living W)) (at : ℕ) → length all ≤ at → AreSettledBelow settings index at all → All (IsRested settings false index) all
settled-end settings index all at past h k d within = h k d (omega arith) within

-- the facts about the index that a search requires

row-asleep : {W : Type 0} (settings : ℕ → Setting) (index : IndexState) (living : Living W) → living.fresh ≡ true → IsRested settings false index living → SleepsAtRest settings index (row_of living)
row-asleep settings index living fresh h asleep = all-whole (settings living.body) living.inbox.held living.ready.items (h.queue fresh asleep) (h.tools refl fresh asleep)

-- if all marks of actions as receivers have a property, so have the marks of their patterns

spoken-one : (P : Mark → Type 0) (does : Option ToolAction) (more less : List Mark) → (All P more → All P less) → All P (tool_marks does ++ more) → All P less
spoken-one P None more less to h = to h
spoken-one P (Some does) more less to h = to (all-right P (number_marks (number_in does)) more (All-tail P tool_mark (number_marks (number_in does) ++ more) h))

found-one : (P : Mark → Type 0) (does : Action) (more less : List Mark) → (All P more → All P less) → All P (found_by does ++ more) → All P (received_by does ++ less)
found-one P (action.Own does) more less to h = spoken-one P (spoken_in does) more less to h
found-one P (action.Send terms) more less to h = to h
found-one P (action.Receive patterns) more less to h = All-cons P (received_mark patterns) less (All-head P (received_mark patterns) more h) (to (All-tail P (received_mark patterns) more h))

found-received : (P : Mark → Type 0) (some : List Ready) → All P (found_marks some) → All P (received_marks some)
found-received P [] h = h
found-received P (ready ∷ others) h = found-one P ready.action (found_marks others) (received_marks others) (found-received P others) h

row-indexed : (index : IndexState) (row : Row) → IsMarked index row → IsIndexed index row
row-indexed index row h = record { sent = h.sent; received = found-received (λ (mark : Mark). receives index mark row.number ≡ true) row.ready h.received }

rows-indexed : {W : Type 0} (index : IndexState) (all : List (Living W)) → All (IsRightFor index) all → AreFresh all → All (IsIndexed index) (rows_of all)
rows-indexed index [] h fresh = All-nil (IsIndexed index)
rows-indexed index (living ∷ all) h fresh =
    All-cons (IsIndexed index) (row_of living) (rows_of all)
    (row-indexed index (row_of living) ((All-head (IsRightFor index) living all h).fresh (All-head (λ living. living.fresh ≡ true) living all fresh)))
    (rows-indexed index all (All-tail (IsRightFor index) living all h) (All-tail (λ living. living.fresh ≡ true) living all fresh))

rows-asleep : {W : Type 0} (settings : ℕ → Setting) (index : IndexState) (all : List (Living W)) → All (IsRested settings false index) all → AreFresh all → All (SleepsAtRest settings index) (rows_of all)
rows-asleep settings index [] h fresh = All-nil (SleepsAtRest settings index)
rows-asleep settings index (living ∷ all) h fresh =
    All-cons (SleepsAtRest settings index) (row_of living) (rows_of all)
    (row-asleep settings index living (All-head (λ living. living.fresh ≡ true) living all fresh) (All-head (IsRested settings false index) living all h))
    (rows-asleep settings index all (All-tail (IsRested settings false index) living all h) (All-tail (λ living. living.fresh ≡ true) living all fresh))

pub right-rows : {W : Type 0} (settings : ℕ → Setting) (stirred : Bool) (index : IndexState) (all seen : List (Living W)) → seen ≡ all → stirred ≡ false → IsRightForAll index all → All (IsRested settings stirred index) all → AreFresh all → IsIndexFor settings index (rows_of seen)
right-rows settings stirred index all seen e calm h rested fresh = subst (λ xs. IsIndexFor settings index (rows_of xs)) (sym e) (record {
  each = rows-indexed index all h.each fresh;
  asleep = rows-asleep settings index all (subst (λ b. All (IsRested settings b index) all) calm rested) fresh;
})
