-- The words of the headlines: what a log states of a lane, of the clock, and of its own entries.
use Rattle.std.specs.Prelude.{◌≡◌, ◌≤◌, ◌+◌, ◌⊎◌, ◌||◌, ℕ, Bool, true, false, List, [], ◌∷◌, ◌++◌}
use Rattle.std.specs.Prelude.{length, map, Option, IfSome}
use Rattle.tb_bus.specs.Ends.{TakesDown}
use Rattle.tb_bus.specs.Steps.{steps}
use Rattle.tb_edge.specs.Ends.{ClockView, and_given, and_taken, and_ticked, has_ended}
use Rattle.tb_edge.specs.declared.given.Given.{Given}
use Rattle.tb_log.specs.Lanes.{inputs, is_tick_input, sent, ticks}
use Rattle.tb_log.specs.declared.entry.Entry.TheVariants.{Did, Quiet}
use Rattle.tb_log.specs.declared.entry.Label.{Label}
use Rattle.tb_log.specs.declared.entry.Out.{Out}
use Rattle.tb_log_read.specs.Lines.{IsLog}
use Rattle.tb_run.specs.Clocks.{TimeIs, WhyNoTicks}
use Rattle.tb_run.specs.Dropping.{HasDropped}
use Rattle.tb_run.specs.Outcomes.{is_of}
use Rattle.tb_run.specs.Workers.{AreLines, CountsTo, cut_count, was_over}
use Rattle.tb_tool_line.specs.Sending.{taken_of}
-- the words of a bus and its log, which other crates define
pub use Rattle.tb_bus.specs.Buses.{Bus, origin_of, start}
pub use Rattle.tb_bus.specs.Traces.{IsTrace, replay}
pub use Rattle.tb_lock.specs.Histories.{IsSparse}
pub use Rattle.tb_log.specs.LogText.{log_text}
pub use Rattle.tb_log.specs.declared.entry.Entry.{Entry}
-- the words of a run and its environment, which other crates define
pub use Rattle.tb_edge.specs.Faults.{Rose}
pub use Rattle.tb_edge.specs.Sinks.{Writes, WritesPrefix}
pub use Rattle.tb_run.specs.Outcomes.{IsDone}
pub use Rattle.tb_run.specs.Views.{EachLane, LaneView, OutsideView}

-- The log's inputs of a lane are the lines and ends that its inlet gave in the call, in order. At
-- most `missing` last ones are missing in the log, and none if the inlet is over.
pub record Heard (missing : ℕ) (log : List Entry) (lane : ℕ) (old new : LaneView) : Type 0 where
  pub given : List Given
  pub last : List Given
  pub over : Bool
  pub gave : new.gave ≡ and_given old.gave (given ++ last) over
  pub lines : AreLines lane given (inputs log lane)
  pub few : length last ≤ missing
  pub whole : (over || was_over old.gave) ≡ true → last ≡ []

-- The outlet of a lane took in the call what the log sends on the lane, in order: each item, except
-- the last one before each `cut`. At most `missing` last ones weren't taken, and none unless the
-- outlet failed.
pub record Took (missing : ℕ) (log : List Entry) (lane : ℕ) (old new : LaneView) : Type 0 where
  pub put : List Out
  pub lost : List Out
  pub sends : sent log lane ≡ put ++ lost
  pub took : new.took ≡ and_taken old.took (map taken_of put)
  pub few : length lost ≤ missing
  pub failed : (lost ≡ []) ⊎ Rose old.outlet_faults new.outlet_faults

-- the outlet's count of failures rose by at least the number of `cut` entries of the lane, or is at
-- its last value
abbrev pub HasCutCause : List Entry → ℕ → LaneView → LaneView → Type 0
HasCutCause log lane old new = CountsTo old.outlet_faults new.outlet_faults (cut_count lane log)

-- if the inlet of a lane reports, it is over; or an input of the lane was dropped because the bus
-- had shut down
abbrev pub IsReadToEnd : List Entry → ℕ → LaneView → LaneView → Type 0
IsReadToEnd log lane old new =
    IfSome new.gave (λ inlet. (inlet.over ≡ true) ⊎ HasDropped (is_of lane) log)

-- The log's ticks are those that the clock gave in the call. At most `missing` last ones are
-- missing in the log, and none if the clock has ended. The clock gave at most `most` ticks.
pub record Ticked (missing most : ℕ) (log : List Entry) (old new : Option ClockView) : Type 0 where
  pub last : ℕ
  pub ended : Bool
  pub gave : new ≡ and_ticked old (ticks log + last) ended
  pub few : last ≤ missing
  pub whole : (ended ≡ true) ⊎ has_ended old → last ≡ 0
  pub within : ticks log + last ≤ most

-- The log has the end of ticks at most once, and no tick after it. It has the end of ticks only if
-- the clock has ended, if it failed, or if the log has `most` ticks. `Failed` states that the clock
-- failed.
pub record EndsTicks (most : ℕ) (Failed : Type 0) (log : List Entry) (clock : Option ClockView)
    : Type 0 where
  pub time : TimeIs log
  pub why : (time.tail ≡ []) ⊎ IfSome clock (λ view. WhyNoTicks log most Failed view.ended)

-- if the clock reports, ticks had a reason to end; or a tick was dropped because the bus had shut
-- down
abbrev pub IsTickedToEnd : ℕ → Type 0 → List Entry → Option ClockView → Type 0
IsTickedToEnd most Failed log clock =
    IfSome clock (λ view. WhyNoTicks log most Failed view.ended ⊎ HasDropped is_tick_input log)

-- at each `quiet` of the log, no step of the bus is possible, and the bus hasn't shut down
abbrev pub IsIdleAtQuiet : Bus → List Entry → Type 0
IsIdleAtQuiet bus log =
    (before after : List Entry) → log ≡ before ++ Quiet ∷ after
    → (steps (replay bus before) ≡ []) × ((replay bus before).down ≡ false)

-- the log has a step `finish`, `halt`, or `shutdown`
abbrev pub IsShutDown : List Entry → Type 0
IsShutDown log =
    (before : List Entry) × (label : Label) × (after : List Entry)
    × (log ≡ before ++ Did label ∷ after) × TakesDown label.kind

-- no other log has the text of this log
abbrev pub HasOneText : List Entry → Type 0
HasOneText log = (other : List Entry) → IsLog other → log_text other ≡ log_text log → other ≡ log
