-- The processes that the index names under a mark are awake, place by place. Each sleeping process rests if a change of a lane lets no
-- other process begin.
use Rattle.std.proofs.Common.{◌≡◌, ◌<◌, ◌≤◌, ◌+◌, ⊎_elim, ℕ, List, [], ◌∷◌, length, refl, ap, sym, subst, ◌∙◌, arith, Option, Some, None, true, false, ◌||◌, get_or, slice_get}
use Rattle.std.specs.List.{All}
use Rattle.std.proofs.lemmas.Bool.{and_from, and_parts, cases_eq, cases_lt, false_from_ne_true, false≢true}
use Rattle.std.proofs.lemmas.Option.{none-some, same_Some}
use Rattle.std.proofs.lemmas.List.{length-map}
use Rattle.std.proofs.lemmas.List.Elements.{All-head, All-tail}
use Rattle.tb_index.specs.Indexes.{IndexState, is_awake, is_receiver, receives}
use Rattle.tb_index.specs.Marks.{wide}
use Rattle.tb_index.specs.declared.mark.Mark.{Mark}
use Rattle.tb_body.specs.declared.body.Body.{Body}
use Rattle.tb_process_steps.specs.WalkerViews.{View}
use Rattle.tb_tools.specs.Lanes.{BenchState, Tool}
use Rattle.tb_bus.specs.Exchanges.{Setting}
use Rattle.tb_bus.specs.declared.action.Action.{Action}
use Rattle.tb_bus.specs.declared.action.Action.TheVariants as action
use Rattle.tb_bus.specs.declared.action.ToolAction.{ToolAction}
use Rattle.tb_search.specs.Candidates.{Row, row_at, row_of, rows_of}
use Rattle.tb_search.specs.Indexed.{IsNextPlace}
use Rattle.tb_search.specs.declared.living.Living.{Living}
use Rattle.tb_search.specs.declared.living.Ready.{Ready}
use Rattle.tb_search.proofs.IndexLemmas.{all-left, all-right}
use Rattle.tb_search.proofs.PlaceLemmas.{row-read}
use Rattle.tb_living.specs.Indexes.{AreStillAwake, IsAwakeAt, IsRested, IsRightFor, found_by, found_marks, is_silent, number_in, number_mark, number_marks, rest_among, rests_among, spoken_in, tool_mark, tool_marks}
use Rattle.tb_living.proofs.IndexLemmas.{neither}
use Rattle.tb_living.proofs.LaneLemmas.{IsApart, StaysSilent}
use Rattle.tb_core.specs.Helpers.LiveBuses.{AreRoused, IsAwakeUnder, IsSound, settings_in}
use Rattle.tb_core.specs.declared.bus.LiveBus.{LiveBus}

-- of the processes before an index of the list, each that the index names as a receiver of a mark is awake
abbrev pub AreAwakeBelow : {W : Type 0} → Mark → IndexState → ℕ → List (Living W) → Type 0
AreAwakeBelow {W = W} mark index at all = (k : ℕ) (d : Living W) → k < at → k < length all → IsAwakeUnder mark index (get_or all k d)

-- two right indexes agree whether a process is a receiver of a mark
same-heard : {W : Type 0} (mark : Mark) (old new : IndexState) (living : Living W) → IsRightFor old living → IsRightFor new living → is_receiver old mark living.number ≡ is_receiver new mark living.number
same-heard mark old new living was is =
    ap (λ b. b || receives old (wide mark) living.number) (was.received mark ∙ sym (is.received mark))
    ∙ ap (λ b. receives new mark living.number || b) (was.received (wide mark) ∙ sym (is.received (wide mark)))

module _ {W : Type 0} (mark : Mark) (all : List (Living W)) where
  awake-between : (index : IndexState) (at place : ℕ) → ((k : ℕ) → at ≤ k → k < place → is_receiver index mark (row_at (rows_of all) k).number ≡ false) → AreAwakeBelow mark index at all → AreAwakeBelow mark index place all
  awake-between index at place deaf h k d less within heard = ⊎_elim
      (λ (l : k < at). h k d l within heard)
      (λ (l : at ≤ k). absurd (false≢true (sym (ap (λ (r : Row). is_receiver index mark r.number) (sym (row-read all k d within)) ∙ deaf k l less) ∙ heard)))
      (cases_lt k at)

  -- the next receiver is awake too, and no process between is a receiver: all receivers up to this place are awake
  pub awake-then : (old new : IndexState) (at place : ℕ) → All (IsRightFor old) all → All (IsRightFor new) all → AreStillAwake old new → IsNextPlace (is_receiver old mark) (rows_of all) at (Some place) → IsAwakeAt new all place →
      AreAwakeBelow mark old at all → AreAwakeBelow mark new (place + 1) all
  awake-then old new at place was is still next here h k d less within heard = ⊎_elim
      (λ (e : k ≡ place). ap (λ (r : Row). is_awake new r.number) (sym (row-read all k d within)) ∙ subst (IsAwakeAt new all) (sym e) here)
      (λ (ne : k ≡ place → ⊥). still (get_or all k d).number
      (awake-between old at place next.2 h k d (omega arith) within (same-heard mark old new (get_or all k d) (was k d within) (is k d within) ∙ heard)))
      (cases_eq k place)

  -- the index names no further receiver: all receivers are awake
  pub awake-none : (index : IndexState) (at : ℕ) → IsNextPlace (is_receiver index mark) (rows_of all) at None → AreAwakeBelow mark index at all → All (IsAwakeUnder mark index) all
  awake-none index at next h k d within =
      let many = length-map all row_of in
      awake-between index at (length all) (λ n low l. next n low (omega arith)) h k d within within

  pub awake-end : (index : IndexState) (at : ℕ) → length all ≤ at → AreAwakeBelow mark index at all → All (IsAwakeUnder mark index) all
  awake-end index at past h k d within = h k d (omega arith) within

-- a sleeping process names other tools

deaf-asleep : {W : Type 0} (mark : Mark) (index : IndexState) (living : Living W) → IsAwakeUnder mark index living → is_awake index living.number ≡ false → receives index mark living.number ≡ false
deaf-asleep mark index living roused asleep =
    (neither (receives index mark living.number) (receives index (wide mark) living.number)
    (false_from_ne_true (is_receiver index mark living.number) (λ heard. false≢true (sym asleep ∙ roused heard)))).0

speaks-other : (index : IndexState) (proc number : ℕ) (found : Option ℕ) → receives index (number_mark number) proc ≡ false → All (λ (mark : Mark). receives index mark proc ≡ true) (number_marks found) → found ≡ Some number → ⊥
speaks-other index proc number None deaf h e = none-some number e
speaks-other index proc number (Some other) deaf h e =
    false≢true (sym deaf ∙ ap (λ n. receives index (number_mark n) proc) (sym (same_Some other number e)) ∙ All-head (λ (mark : Mark). receives index mark proc ≡ true) (number_mark other) [] h)

speaks-apart : (index : IndexState) (proc : ℕ) (found : Option Tool) (does : ToolAction) → ((tool : Tool) → found ≡ Some tool → receives index (number_mark tool.number) proc ≡ false) →
    All (λ (mark : Mark). receives index mark proc ≡ true) (number_marks (number_in does)) → IsApart found does
speaks-apart index proc found does deaf h tool e number = speaks-other index proc tool.number (number_in does) (deaf tool e) h number

module _ (found : Option Tool) (before after : Setting) (stays : (does : ToolAction) → IsApart found does → is_silent before (Some does) ≡ true → is_silent after (Some does) ≡ true)
    (index : IndexState) (proc : ℕ) (deaf : (tool : Tool) → found ≡ Some tool → receives index (number_mark tool.number) proc ≡ false) where
  spoken-apart : (does : Option ToolAction) → All (λ (mark : Mark). receives index mark proc ≡ true) (tool_marks does) → is_silent before does ≡ true → is_silent after does ≡ true
  spoken-apart None h silent = refl
  spoken-apart (Some does) h silent = stays does (speaks-apart index proc found does deaf (All-tail (λ (mark : Mark). receives index mark proc ≡ true) tool_mark (number_marks (number_in does)) h)) silent

  among-apart : (does : Action) → All (λ (mark : Mark). receives index mark proc ≡ true) (found_by does) → rests_among before does ≡ true → rests_among after does ≡ true
  among-apart (action.Own does) h silent = spoken-apart (spoken_in does) h silent
  among-apart (action.Send terms) h silent = refl
  among-apart (action.Receive patterns) h silent = refl

  all-apart : (some : List Ready) → All (λ (mark : Mark). receives index mark proc ≡ true) (found_marks some) → rest_among before some ≡ true → rest_among after some ≡ true
  all-apart [] h silent = refl
  all-apart (ready ∷ others) h silent =
      let t = and_parts (rests_among before ready.action) (rest_among before others) silent in
      and_from (rests_among after ready.action) (rest_among after others)
      (among-apart ready.action (all-left (λ (mark : Mark). receives index mark proc ≡ true) (found_by ready.action) (found_marks others) h) t.0)
      (all-apart others (all-right (λ (mark : Mark). receives index mark proc ≡ true) (found_by ready.action) (found_marks others) h) t.1)

-- where all that is silent stays so

module _ (before after : Setting) (stays : (does : ToolAction) → is_silent before (Some does) ≡ true → is_silent after (Some does) ≡ true) where
  spoken-still : (does : Option ToolAction) → is_silent before does ≡ true → is_silent after does ≡ true
  spoken-still None silent = refl
  spoken-still (Some does) silent = stays does silent

  among-still : (does : Action) → rests_among before does ≡ true → rests_among after does ≡ true
  among-still (action.Own does) silent = spoken-still (spoken_in does) silent
  among-still (action.Send terms) silent = refl
  among-still (action.Receive patterns) silent = refl

  all-still : (some : List Ready) → rest_among before some ≡ true → rest_among after some ≡ true
  all-still [] silent = refl
  all-still (ready ∷ others) silent =
      let t = and_parts (rests_among before ready.action) (rest_among before others) silent in
      and_from (rests_among after ready.action) (rest_among after others) (among-still ready.action t.0) (all-still others t.1)

module _ {W P T : Type 0} (view : View P W T) (bus : LiveBus W P T) (bench : BenchState) (sound : IsSound view bus) (long : length bench.lanes ≡ 16) where
  -- with lanes by which each sleeping process rests
  sound-rested : All (IsRested (settings_in (record bus { bench = bench })) bus.stirred bus.index) bus.living.items → IsSound view (record bus { bench = bench })
  sound-rested rested = record {
    in_order = sound.in_order;
    below = sound.below;
    planned = sound.planned;
    live = sound.live;
    fresh = sound.fresh;
    lanes = long;
    indexed = sound.indexed;
    rested = rested;
  }

  -- with lanes by which only who speaks with one tool may begin more, and is awake
  pub sound-apart : (found : Option Tool) → AreRoused found bus.index bus.living.items → ((body : Option Body) (does : ToolAction) → IsApart found does → StaysSilent body bus.origin.program.tools bus.bench bench does) →
      IsSound view (record bus { bench = bench })
  sound-apart found roused stays = sound-rested (
      λ k d within.
      let living = get_or bus.living.items k d in
      let it = sound.rested k d within in
      record {
        queue = it.queue;
        tools = λ calm fresh asleep.
            all-apart found (settings_in bus living.body) (settings_in (record bus { bench = bench }) living.body) (stays (slice_get bus.origin.program.bodies living.body)) bus.index living.number
            (λ tool e. deaf-asleep (number_mark tool.number) bus.index living (roused tool e k d within) asleep)
            living.ready.items ((sound.indexed.each k d within).fresh fresh).received (it.tools calm fresh asleep);
      }
      )

  -- with lanes by which nobody may begin more
  pub sound-still : ((body : Option Body) (does : ToolAction) → StaysSilent body bus.origin.program.tools bus.bench bench does) → IsSound view (record bus { bench = bench })
  sound-still stays = sound-rested (
      λ k d within.
      let living = get_or bus.living.items k d in
      let it = sound.rested k d within in
      record {
        queue = it.queue;
        tools = λ calm fresh asleep.
            all-still (settings_in bus living.body) (settings_in (record bus { bench = bench }) living.body) (stays (slice_get bus.origin.program.bodies living.body)) living.ready.items (it.tools calm fresh asleep);
      }
      )
