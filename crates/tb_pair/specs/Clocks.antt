-- What the logs of two buses show of the one clock whose ticks both received.
use Rattle.std.specs.Prelude.{◌≡◌, ◌≤◌, ◌+◌, ◌⊎◌, ℕ, Bool, List, [], Option}
use Rattle.tb_edge.specs.Ends.{ClockView, and_ticked}
use Rattle.tb_log.specs.declared.entry.Entry.{Entry}
use Rattle.tb_log.specs.Lanes.{ticks, is_tick_input}
use Rattle.tb_run.specs.Clocks.{TimeIs, WhyNoTicks, WhyOver}
use Rattle.tb_run.specs.declared.ends.WorkEnd.TheVariants as end
use Rattle.tb_run.specs.Dropping.{AreLetIn, HasDropped}
use Rattle.tb_run.specs.Workers.{IsNoTicks, LetIn}

-- One of the two logs, for a clock that gave so many ticks. `Failed` is what a failure of the clock shows, and `Early` is what an early
-- end at this bus shows. With the empty type, there was none.
pub record TimePasses (log : List Entry) (most given : ℕ) (ended : Bool) (Failed Early : Type 0) : Type 0 where
  pub within : ticks log ≤ given
  -- all were delivered, or a tick was dropped because the bus had shut down
  pub all : (ticks log ≡ given) ⊎ (HasDropped is_tick_input log ⊎ Early)
  -- ticks, and then once at most that no more come
  pub time : TimeIs log
  -- no entry of the time follows a tick that was dropped because the bus had shut down
  pub once : AreLetIn time.first ⊎ ((time.tail ≡ []) × LetIn end.Down time.first)
  -- if the log says that no more come, one of its causes is there
  pub why : (time.tail ≡ []) ⊎ WhyNoTicks log most Failed ended
  -- the clock was read to the end, or a tick was dropped because the bus had shut down
  pub read : WhyOver log most Failed ended ⊎ Early
  -- the log says that no more come, or a tick was dropped because the bus had shut down
  pub word : IsNoTicks time.tail ⊎ (HasDropped is_tick_input log ⊎ Early)

-- the log has all ticks that were given, or all but the last, which was refused
abbrev pub HasAll : List Entry → ℕ → Type 0 → Type 0
HasAll log given Early = (ticks log ≡ given) ⊎ ((ticks log + 1 ≡ given) × Early)

-- Both logs, and the clock: how many ticks it gave, and whether it has ended.
pub record ClockPasses (most : ℕ) (one other : List Entry) (told_old told_new : Option ClockView) (Failed Early Others_early : Type 0) : Type 0 where
  pub given : ℕ
  pub ended : Bool
  pub told : told_new ≡ and_ticked told_old given ended
  pub within : given ≤ most
  pub first : TimePasses one most given ended Failed Early
  pub second : TimePasses other most given ended Failed Others_early
  -- each tick was for one of the buses at least
  pub fully : HasAll one given Early ⊎ HasAll other given Others_early
