-- The effects of the calls of a shared bus, and of a join. A call in a turn has the answer of a core whose log is the one history.
use Rattle.std.specs.Prelude.{◌≡◌, ◌↔◌, ℕ, Bool, List, [], ◌∷◌, ◌++◌, map, length, take, drop, true, false, ◌||◌, IsTrue, Result, Ok, Err, IfOk, IsErrOf, ⊤}
use Rattle.std.specs.Option.{is_some}
use Rattle.tb_terms.specs.declared.memory.NoMemory.{NoMemory}
use Rattle.tb_log.specs.declared.entry.Entry.{Entry}
use Rattle.tb_log.specs.declared.entry.Input.{Input}
use Rattle.tb_log.specs.declared.entry.Reply.{Reply}
use Rattle.tb_log.specs.Shapes.{IsInputInShape, IsLane}
use Rattle.tb_tools.specs.declared.stage.LaneState.{LaneState}
use Rattle.tb_tools.specs.Lanes.{lane_at, lane_state}
use Rattle.tb_tools.specs.Finding.{next_out}
use Rattle.tb_bus.specs.Buses.{start}
use Rattle.tb_bus.specs.Traces.{IsTrace, fed}
use Rattle.tb_core.specs.declared.answers.CoreFault.{CoreFault}
use Rattle.tb_core.specs.declared.answers.CoreFault.TheVariants as fault
use Rattle.tb_core.specs.declared.answers.TakeOut.{TakeOut}
use Rattle.tb_core.specs.Cores.{CoreState, Call, HandIn, MakeStep, HandOut, bus_now, entries_of, is_full, IsTakenOut}
use Rattle.tb_lock.specs.Rights.{own, all_rights}
use Rattle.tb_lock.specs.Histories.{Grows, IsSparse, indexed}
use Rattle.tb_lock.specs.Seats.{SeatView, joined, most_seats}

-- The core that a handle finds in its turn. The core has the origin of the handle, and its log is the history so far.
pub record Meets (seat : SeatView) (core : CoreState) : Type 0 where
  pub origin : core.origin ≡ seat.origin
  -- the log begins with the entries that the handle has seen, and no later entry needs one of the handle's rights
  pub grows : Grows seat.rights seat.seen core.log
  -- the log is a trace, and no two consecutive entries are `quiet`
  pub trace : IsTrace (start seat.origin) core.log
  pub sparse : IsSparse core.log
  -- each entry needs one of all rights
  pub owned : own all_rights core.log ≡ core.log
  -- if the handle has called `stop`, or received `Stopped`, the core is stopped
  pub called : seat.called ≡ true → core.stopped ≡ true
  pub told : seat.told ≡ true → core.stopped ≡ true
  -- if the handle has the whole quota, and so is the only one, the core is stopped only if it has called `stop`
  pub alone : seat.room ≡ most_seats → core.stopped ≡ true → seat.called ≡ true

-- a handle after its own call on this core, which has added these entries
abbrev pub noted : SeatView → CoreState → List Entry → SeatView
noted seat core entries = record seat {
  seen = core.log ++ entries;
  mine = seat.mine ++ indexed (length core.log) entries;
  told = seat.told || core.stopped;
}

-- the entries that a call adds: none after an error
abbrev pub added : {A : Type 0} → Result A CoreFault → List Entry → List Entry
added (Ok answer) entries = entries
added (Err refused) entries = []

-- the condition on the argument of a call
abbrev pub IsCallInShape : Call → Type 0
IsCallInShape (HandIn input) = IsInputInShape input
IsCallInShape MakeStep = ⊤
IsCallInShape (HandOut lane) = IsLane lane

-- A call that may log an entry. The answer and the entry are those of the core that the handle finds in its turn.
pub record Called {A : Type 0} (Finds : CoreState → A → Type 0) (call : Call) (old new : SeatView) (result : Result A CoreFault) : Type 0 where
  pub core : CoreState
  pub meets : Meets old core
  -- the change of the handle
  pub seat : new ≡ noted old core (added result (entries_of core call))
  -- the history, with the call's entry, is a trace, and no two consecutive entries are `quiet`
  pub trace : IsTrace (start old.origin) new.seen
  pub sparse : IsSparse new.seen
  -- which answers are correct, and when the call returns `Stopped` or `Full`; nothing is claimed of `NoMemory`
  pub finds : IfOk result (Finds core)
  pub stopped : IsErrOf result fault.Stopped ↔ IsTrue core.stopped
  pub full : IsErrOf result fault.Full → is_full core call ≡ true
  pub room : IfOk result (λ _. is_full core call ≡ false)

-- the reply of a core to an input
abbrev pub IsReply : Input → CoreState → Reply → Type 0
IsReply input core reply = reply ≡ (fed (bus_now core) input).reply

-- the item that is taken from a lane
abbrev pub IsTaken : ℕ → CoreState → TakeOut → Type 0
IsTaken lane core taken = IsTakenOut core lane taken

-- A call that changes nothing in the core. The answer is that of the core in the handle's turn, and the handle has then seen its log.
pub record Observes {A : Type 0} (Finds : CoreState → A → Type 0) (old new : SeatView) (answer : A) : Type 0 where
  pub core : CoreState
  pub meets : Meets old core
  pub seat : new ≡ record old { seen = core.log }
  pub finds : Finds core answer

-- the answer is the state of a lane
abbrev pub IsStateOf : ℕ → CoreState → LaneState → Type 0
IsStateOf lane core state = state ≡ lane_state (lane_at lane (bus_now core).bench)

-- for each lane, in order, whether an item is queued on it
abbrev pub AreOuts : CoreState → List Bool → Type 0
AreOuts core outs = outs ≡ map (λ lane. is_some (next_out lane (bus_now core).bench)) (1 ∷ 2 ∷ 3 ∷ 4 ∷ 5 ∷ 6 ∷ 7 ∷ 8 ∷ 9 ∷ 10 ∷ 11 ∷ 12 ∷ 13 ∷ 14 ∷ 15 ∷ 16 ∷ [])

-- the first `most` entries of the log after the first `from`; all of these if there are fewer
abbrev pub IsPieceOf : ℕ → ℕ → CoreState → Result (List Entry) NoMemory → Type 0
IsPieceOf from most core found = IfOk found (λ piece. piece ≡ take most (drop from core.log))

-- A call that stops the bus.
pub record StopsBus (old new : SeatView) : Type 0 where
  pub core : CoreState
  pub meets : Meets old core
  pub seat : new ≡ record old { seen = core.log; called = true; told = true }

-- Two handles become one. No entry after those that one of the two had seen needs a right of that one.
pub record Joins (old other new : SeatView) : Type 0 where
  pub seat : new ≡ joined old other
  pub grows : Grows old.rights old.seen new.seen
  pub other_grows : Grows other.rights other.seen new.seen

-- The core that a bus returns when its only handle closes it.
pub record Closes (seat : SeatView) (core : CoreState) : Type 0 where
  pub origin : core.origin ≡ seat.origin
  pub log : core.log ≡ seat.seen
  pub stopped : core.stopped ≡ seat.called
  pub told : seat.told ≡ true → seat.called ≡ true
