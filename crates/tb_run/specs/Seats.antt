-- How the seat of a worker changes, and the effect of an input that the worker delivers.
use Rattle.std.specs.Prelude.{◌≡◌, true, false, List, [], ◌∷◌, ◌++◌, Option, Some, None}
use Rattle.tb_log.specs.declared.entry.Input.{Input}
use Rattle.tb_log.specs.declared.entry.Reply.{Reply}
use Rattle.tb_log.specs.declared.entry.Reply.TheVariants.{Dropped}
use Rattle.tb_log.specs.declared.entry.Why.TheVariants as why
use Rattle.tb_log.specs.declared.entry.Entry.{Entry}
use Rattle.tb_log.specs.declared.entry.Entry.TheVariants.{Fed}
use Rattle.tb_bus.specs.Buses.{start}
use Rattle.tb_bus.specs.Traces.{IsTrace}
use Rattle.tb_core.specs.declared.answers.CoreFault.{CoreFault}
use Rattle.tb_core.specs.declared.answers.CoreFault.TheVariants as fault
use Rattle.tb_core.specs.Cores.{CoreState, Call, HandIn, is_full}
use Rattle.tb_core.specs.Full.{MayCall}
use Rattle.tb_lock.specs.Rights.{has, own, right_to}
use Rattle.tb_lock.specs.Histories.{IsSparse}
use Rattle.tb_lock.specs.Seats.{SeatView}
use Rattle.tb_run.specs.declared.ends.WorkEnd.{WorkEnd}
use Rattle.tb_run.specs.declared.ends.WorkEnd.TheVariants as end
use Rattle.tb_run.specs.Dropping.{is_down}

-- the entries that a seat has seen are a trace without two successive `quiet` entries
pub record SeesTrace (seat : SeatView) : Type 0 where
  pub trace : IsTrace (start seat.origin) seat.seen
  pub sparse : IsSparse seat.seen

-- A seat after further calls: it has seen more of the history, and `more` are the new entries that need its rights.
pub record Adds (old new : SeatView) (more : List Entry) : Type 0 where
  pub bus : new.bus ≡ old.bus
  pub origin : new.origin ≡ old.origin
  pub rights : new.rights ≡ old.rights
  pub room : new.room ≡ old.room
  pub rest : List Entry
  pub seen : new.seen ≡ old.seen ++ rest
  pub adds : own old.rights new.seen ≡ own old.rights old.seen ++ more
  pub trace : SeesTrace old → SeesTrace new
  pub told : old.told ≡ true → new.told ≡ true

-- The seat has the right for this call, and the log had no capacity for its entry. At that time, the log consisted of the entries that the
-- seat had seen before, possibly followed by further entries.
pub record FoundFull (call : Call) (old new : SeatView) : Type 0 where
  pub core : CoreState
  pub may : MayCall call
  pub right : has new.rights (right_to call) ≡ true
  pub origin : core.origin ≡ new.origin
  pub more : List Entry
  pub behind : core.log ≡ old.seen ++ more
  pub rest : List Entry
  pub seen : new.seen ≡ core.log ++ rest
  pub full : is_full core call ≡ true

-- this is the last entry that the seat has seen
abbrev pub EndsWith : SeatView → Entry → Type 0
EndsWith seat entry = (before : List Entry) × (seat.seen ≡ before ++ entry ∷ [])

-- the seat has stopped the bus, and the history has no new entry that needs its rights
pub record Stops (old new : SeatView) : Type 0 where
  pub adds : Adds old new []
  pub called : new.called ≡ true
  pub told : new.told ≡ true

-- the marks of a seat are unchanged: whether it has called `stop`, and whether it knows that the bus was stopped
abbrev pub SameMarks : SeatView → SeatView → Type 0
SameMarks old new = (new.called ≡ old.called) × (new.told ≡ old.told)

-- In its work, a worker calls `stop` if and only if it ends as `Full` or `NoMemory`. Its seat then has the mark that the bus was stopped.
-- It also has this mark after the end `Stopped`. At any other end, the marks are unchanged.
abbrev pub Marks : SeatView → SeatView → WorkEnd → Type 0
Marks old new end.Over = SameMarks old new
Marks old new end.Down = SameMarks old new
Marks old new end.Stopped = (new.called ≡ old.called) × (new.told ≡ true)
Marks old new end.Full = (new.called ≡ true) × (new.told ≡ true)
Marks old new end.Failed = SameMarks old new
Marks old new end.NoMemory = (new.called ≡ true) × (new.told ≡ true)

-- the end of a worker after a rejected call: the worker stops the bus, unless the answer was that the bus was stopped
abbrev pub Ends : CoreFault → SeatView → SeatView → WorkEnd → Type 0
Ends fault.Stopped old new it = (it ≡ end.Stopped) × (new ≡ old)
Ends fault.Full old new it = (it ≡ end.Full) × Stops old new
Ends fault.NoMemory old new it = (it ≡ end.NoMemory) × Stops old new

-- The effect of an input that a worker delivers, on the log and on the worker.
abbrev pub Hands : Input → SeatView → SeatView → Option WorkEnd → Type 0
-- the worker goes on; the reply isn't a drop because the bus had shut down
Hands input old new None = (reply : Reply) × Adds old new (Fed input reply ∷ []) × SameMarks old new × (is_down reply ≡ false)
-- the bus has shut down, and dropped the input
Hands input old new (Some end.Down) = Adds old new (Fed input (Dropped why.Down) ∷ []) × SameMarks old new × EndsWith new (Fed input (Dropped why.Down))
-- the input was rejected
Hands input old new (Some end.Stopped) = Adds old new [] × (new.called ≡ old.called) × (new.told ≡ true)
Hands input old new (Some end.Full) = Stops old new × FoundFull (HandIn input) old new
Hands input old new (Some end.NoMemory) = Stops old new
Hands input old new (Some end.Over) = ⊥
Hands input old new (Some end.Failed) = ⊥
