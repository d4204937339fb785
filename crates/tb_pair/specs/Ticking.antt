-- What one tick worker of two buses has done once it ends: which of the clock's ticks each bus received, and whether the worker reported
-- to the bus that no more come.
use Rattle.std.specs.Prelude.{◌≡◌, ◌≤◌, ◌<◌, ◌+◌, ◌⊎◌, ℕ, Bool, true, List, [], ◌++◌, length, Option}
use Rattle.atomic_table.specs.Seated.{TableId}
use Rattle.tb_edge.specs.Faults.{Rose}
use Rattle.tb_edge.specs.Ends.{ClockView, and_ticked}
use Rattle.tb_log.specs.declared.entry.Input.TheVariants as input
use Rattle.tb_log.specs.declared.entry.Reply.TheVariants.{Dropped}
use Rattle.tb_log.specs.declared.entry.Why.TheVariants as why
use Rattle.tb_log.specs.declared.entry.Entry.{Entry}
use Rattle.tb_log.specs.declared.entry.Entry.TheVariants.{Fed}
use Rattle.tb_core.specs.Cores.{HandIn}
use Rattle.tb_lock.specs.Rights.{Ticks as ToTick, has}
use Rattle.tb_lock.specs.Seats.{SeatView}
use Rattle.tb_run.specs.declared.ends.WorkEnd.{WorkEnd}
use Rattle.tb_run.specs.declared.ends.WorkEnd.TheVariants as end
use Rattle.tb_run.specs.Seats.{Adds, Marks, EndsWith, FoundFull}
use Rattle.tb_run.specs.Workers.{AreTicks, IsNoTicks, LetIn}
use Rattle.tb_pair.specs.Workers.{IsEarly}

-- a seat of this bus, with the right to deliver ticks
pub record CanTick (bus : TableId) (seat : SeatView) : Type 0 where
  pub own : seat.bus ≡ bus
  pub right : has seat.rights ToTick ≡ true

-- How a bus ends that received so many of the clock's ticks; these entries follow the ticks. `Cause` is the cause for which no more ticks
-- come.
abbrev pub TicksEnd : Type 0 → List Entry → SeatView → SeatView → ℕ → ℕ → WorkEnd → Type 0
-- it received all of them, and then that no more come
TicksEnd Cause tail old new count given end.Over = IsNoTicks tail × (count ≡ given)
TicksEnd Cause tail old new count given end.Failed = IsNoTicks tail × (count ≡ given)
-- the last entry is a tick that was dropped because the bus has shut down
TicksEnd Cause tail old new count given end.Down = (tail ≡ []) × EndsWith new (Fed input.Tick (Dropped why.Down))
TicksEnd Cause tail old new count given end.Stopped = tail ≡ []
-- the log had no capacity for a tick that the clock gave; or, after all of them, for the notice that no more come
TicksEnd Cause tail old new count given end.Full = (tail ≡ []) × (((count < given) × FoundFull (HandIn input.Tick) old new) ⊎ ((count ≡ given) × Cause × FoundFull (HandIn input.NoTicks) old new))
TicksEnd Cause tail old new count given end.NoMemory = tail ≡ []

-- one of the two buses: it received ticks, at most as many as the clock gave, and then perhaps that no more come
pub record TicksSeat (Cause : Type 0) (old new : SeatView) (given : ℕ) (it : WorkEnd) : Type 0 where
  pub first : List Entry
  pub tail : List Entry
  pub adds : Adds old new (first ++ tail)
  pub ticks : AreTicks first
  -- after a tick that was dropped because the bus has shut down, it receives none
  pub let_in : LetIn it first
  pub within : length first ≤ given
  pub marks : Marks old new it
  pub ends : TicksEnd Cause tail old new (length first) given it

-- a bus that didn't receive the notice that no more come
abbrev pub IsCut : WorkEnd → Type 0
IsCut end.Over = ⊥
IsCut end.Down = Unit {0}
IsCut end.Stopped = Unit {0}
IsCut end.Full = Unit {0}
IsCut end.Failed = ⊥
IsCut end.NoMemory = Unit {0}

-- a bus that receives ticks to the end: it received the notice that no more come, or refused the notice or a tick
abbrev pub GetsTicks : WorkEnd → WorkEnd → Type 0
GetsTicks wanted it = (it ≡ wanted) ⊎ IsEarly it

-- Why no more ticks come: the clock has ended, the limit of ticks is reached, or the clock failed; or neither bus receives any more. The
-- clock is read only while a bus receives ticks.
abbrev pub WhyEnds : WorkEnd → ℕ → ℕ → Bool → ℕ → ℕ → WorkEnd → WorkEnd → Type 0
WhyEnds end.Over most given ended old new one other = (new ≡ old) × (((ended ≡ true) × (GetsTicks end.Over one ⊎ GetsTicks end.Over other)) ⊎ (given ≡ most))
WhyEnds end.Failed most given ended old new one other = Rose old new × (GetsTicks end.Failed one ⊎ GetsTicks end.Failed other)
WhyEnds end.Down most given ended old new one other = (new ≡ old) × IsCut one × IsCut other
WhyEnds end.Stopped most given ended old new one other = ⊥
WhyEnds end.Full most given ended old new one other = ⊥
WhyEnds end.NoMemory most given ended old new one other = ⊥

-- the clock has ended or failed, or the limit of ticks is reached
abbrev pub WhyNoMore : ℕ → ℕ → Bool → ℕ → ℕ → Type 0
WhyNoMore most given ended old new = (ended ≡ true) ⊎ (Rose old new ⊎ (given ≡ most))

-- a bus that received all ticks of the clock, or all except the last, which was refused
abbrev pub GotAll : ℕ → ℕ → WorkEnd → Type 0
GotAll count given it = (count ≡ given) ⊎ ((count + 1 ≡ given) × IsEarly it)

-- `pair_ticker`: the clock gave so many ticks, and perhaps ended. Each bus received all of them and then the notice that no more come; or
-- it received fewer, because it had shut down or refused a call, or memory ran out.
pub record TicksPair (most : ℕ) (one one_new other other_new : SeatView) (told_old told_new : Option ClockView) (faults_old faults_new : ℕ) (it others : WorkEnd) : Type 0 where
  pub given : ℕ
  pub ended : Bool
  pub told : told_new ≡ and_ticked told_old given ended
  pub within : given ≤ most
  pub first : TicksSeat (WhyNoMore most given ended faults_old faults_new) one one_new given it
  pub second : TicksSeat (WhyNoMore most given ended faults_old faults_new) other other_new given others
  -- each tick was for a bus that still received ticks
  pub fully : GotAll (length first.first) given it ⊎ GotAll (length second.first) given others
  pub wanted : WorkEnd
  pub first_by : (it ≡ wanted) ⊎ IsCut it
  pub second_by : (others ≡ wanted) ⊎ IsCut others
  pub why : WhyEnds wanted most given ended faults_old faults_new it others
