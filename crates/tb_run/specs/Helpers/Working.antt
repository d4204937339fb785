-- The effects of a worker that goes on, and of one item that it delivers or writes.
use Rattle.std.specs.Prelude.{◌≡◌, ◌≤◌, ◌<◌, ◌^◌, ◌⊎◌, ℕ, true, false, List, [], ◌∷◌, length, map, Option, Some, None}
use Rattle.tb_edge.specs.Faults.{Rose}
use Rattle.tb_edge.specs.Ends.{InletView, and_given, and_taken, ClockView, and_ticked, has_ended}
use Rattle.tb_edge.specs.declared.given.Given.{Given}
use Rattle.tb_edge.specs.declared.given.Taken.{Taken}
use Rattle.tb_tool_line.specs.Sending.{taken_of}
use Rattle.tb_log.specs.declared.entry.Input.TheVariants as input
use Rattle.tb_log.specs.declared.entry.Reply.{Reply}
use Rattle.tb_log.specs.declared.entry.Reply.TheVariants.{Took, Dropped}
use Rattle.tb_log.specs.declared.entry.Why.TheVariants as why
use Rattle.tb_log.specs.declared.entry.Out.{Out}
use Rattle.tb_log.specs.declared.entry.Entry.{Entry}
use Rattle.tb_log.specs.declared.entry.Entry.TheVariants.{Fed}
use Rattle.tb_log.specs.Lanes.{inputs, sent, is_cut_off}
use Rattle.tb_core.specs.Cores.{HandIn}
use Rattle.tb_lock.specs.Seats.{SeatView}
use Rattle.tb_run.specs.declared.ends.WorkEnd.{WorkEnd}
use Rattle.tb_run.specs.declared.ends.WorkEnd.TheVariants as end
use Rattle.tb_run.specs.Dropping.{AreLetIn}
use Rattle.tb_run.specs.Seats.{Adds, FoundFull, SameMarks, Stops}
use Rattle.tb_run.specs.Workers.{AreLines, AreTicks, Counts, cut_count, was_over}

-- the end of a worker after a reply: `Down` if the input was dropped because the bus had shut down, none at any other reply
abbrev pub end_of : Reply → Option WorkEnd
end_of Took = None
end_of (Dropped why.Unasked) = None
end_of (Dropped why.NotLive) = None
end_of (Dropped why.Named) = None
end_of (Dropped why.Stranger) = None
end_of (Dropped why.Bad) = None
end_of (Dropped why.Down) = Some end.Down

-- a reader that goes on: it has delivered all items that the inlet gave
pub record Reads (lane : ℕ) (old new : SeatView) (gave_old gave_new : Option InletView) : Type 0 where
  pub more : List Entry
  pub adds : Adds old new more
  pub fed : List Given
  pub told : gave_new ≡ and_given gave_old fed false
  pub lines : AreLines lane fed (inputs more lane)
  pub none : was_over gave_old ≡ true → fed ≡ []
  pub let_in : AreLetIn more
  pub marks : SameMarks old new

-- a writer that goes on: each sent item was written, or is cut off
pub record Writes (lane : ℕ) (old new : SeatView) (took_old took_new : Option (List Taken)) (faults_old faults_new : ℕ) : Type 0 where
  pub more : List Entry
  pub adds : Adds old new more
  pub told : took_new ≡ and_taken took_old (map taken_of (sent more lane))
  pub starts : is_cut_off more lane ≡ false
  pub counts : Counts faults_old faults_new (cut_count lane more)
  pub marks : SameMarks old new

-- a tick worker that goes on: it has delivered `fed` ticks
pub record Ticks (old new : SeatView) (told_old told_new : Option ClockView) (faults_old faults_new : ℕ) (fed : ℕ) : Type 0 where
  pub more : List Entry
  pub adds : Adds old new more
  pub ticks : AreTicks more
  pub let_in : AreLetIn more
  pub count : length more ≡ fed
  pub told : told_new ≡ and_ticked told_old fed false
  pub none : has_ended told_old → fed ≡ 0
  -- the clock's count of failures is unchanged
  pub calm : faults_new ≡ faults_old
  pub marks : SameMarks old new

-- a step worker that goes on
pub record Steps (old new : SeatView) : Type 0 where
  pub more : List Entry
  pub adds : Adds old new more
  pub marks : SameMarks old new

-- a writer goes on after the bus has shut down
abbrev pub going_on : Option WorkEnd → Option WorkEnd
going_on None = None
going_on (Some end.Over) = Some end.Over
going_on (Some end.Down) = None
going_on (Some end.Stopped) = Some end.Stopped
going_on (Some end.Full) = Some end.Full
going_on (Some end.Failed) = Some end.Failed
going_on (Some end.NoMemory) = Some end.NoMemory

-- the effect of a sent item that failed to be written
abbrev pub CutsOff : ℕ → SeatView → SeatView → Option WorkEnd → Type 0
CutsOff lane old new None = (reply : Reply) × Adds old new (Fed (input.Cut lane) reply ∷ []) × SameMarks old new
CutsOff lane old new (Some end.Stopped) = Adds old new [] × (new.called ≡ old.called) × (new.told ≡ true)
CutsOff lane old new (Some end.Full) = Stops old new × FoundFull (HandIn (input.Cut lane)) old new
CutsOff lane old new (Some end.NoMemory) = Stops old new
CutsOff lane old new (Some end.Over) = ⊥
CutsOff lane old new (Some end.Down) = ⊥
CutsOff lane old new (Some end.Failed) = ⊥

-- an item failed to be written; its `cut` was delivered, or the call that delivers it was rejected
pub record Fails (lane : ℕ) (old new : SeatView) (took_old took_new : Option (List Taken)) (faults_old faults_new : ℕ) (answer : Option WorkEnd) : Type 0 where
  pub told : took_new ≡ took_old
  pub rose : Rose faults_old faults_new
  pub never_falls : faults_old ≤ faults_new
  pub fits : faults_old < 2 ^ 64 → faults_new < 2 ^ 64
  pub cuts_off : CutsOff lane old new answer

-- an item was written
pub record PutsIt (out : Out) (old new : SeatView) (took_old took_new : Option (List Taken)) (faults_old faults_new : ℕ) (answer : Option WorkEnd) : Type 0 where
  pub told : took_new ≡ and_taken took_old (taken_of out ∷ [])
  pub never_falls : faults_old ≤ faults_new
  pub fits : faults_old < 2 ^ 64 → faults_new < 2 ^ 64
  pub same : new ≡ old
  pub goes_on : answer ≡ None

-- an item was written, or it failed to be written
abbrev pub Puts : ℕ → Out → SeatView → SeatView → Option (List Taken) → Option (List Taken) → ℕ → ℕ → Option WorkEnd → Type 0
Puts lane out old new took_old took_new faults_old faults_new answer = PutsIt out old new took_old took_new faults_old faults_new answer ⊎ Fails lane old new took_old took_new faults_old faults_new answer
