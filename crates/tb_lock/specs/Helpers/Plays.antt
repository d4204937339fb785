-- The effect of each kind of atomic step on the handle that makes it, and the state of a handle after each part of a turn.
use Rattle.std.specs.Prelude.{◌≡◌, ◌≢◌, ℕ, ◌%◌, ◌^◌, ◌<◌, List, [], ◌∷◌, ◌++◌, length, Bool, true, false, ◌||◌, Option, Some, None, option_to_list, Result, IfOk, OnErr, IsErrOf, IsTrue, ◌↔◌}
use Rattle.atomic_table.specs.Table.{Me}
use Rattle.atomic_table.specs.Seated.{TableId}
use Rattle.tb_log.specs.declared.entry.Entry.{Entry}
use Rattle.tb_bus.specs.Buses.{start}
use Rattle.tb_bus.specs.Traces.{IsTrace, replay}
use Rattle.tb_core.specs.declared.answers.CoreFault.{CoreFault}
use Rattle.tb_core.specs.declared.answers.CoreFault.TheVariants as fault
use Rattle.tb_core.specs.Cores.{CoreState, Call, entries_of, is_full, Logs, Stays}
use Rattle.tb_lock.specs.declared.rights.Rights.{Rights}
use Rattle.tb_lock.specs.Rights.{own, all_rights}
use Rattle.tb_lock.specs.Histories.{Grows, IsSparse, indexed}
use Rattle.tb_lock.specs.Seats.{SeatView, Idle, Waiting, Serving, Joined, joined, nobody}
use Rattle.tb_lock.specs.Calls.{Meets}

-- a handle's view, and the slot that it holds, if any
abbrev pub HolderState : Type 0
HolderState = Me (Option CoreState) SeatView

-- a bus has two words and one slot
abbrev pub IsBoard : TableId → Type 0
IsBoard id = (id.words ≡ 2) × (id.slots ≡ 1)

-- The step that draws a ticket: the word found is the ticket modulo 2^64.
abbrev pub Draws : HolderState → ℕ → HolderState → Type 0
Draws me found after = (ticket : ℕ) × (found ≡ ticket % 2 ^ 64) × (after ≡ (record me.0 { stage = Waiting ticket }, me.1))

-- the handle takes the slot with the core in it, and has seen the whole history
abbrev pub TakesSlot : ℕ → HolderState → HolderState → Type 0
TakesSlot ticket me after = (core : CoreState) × (after ≡ (record me.0 { seen = core.log; stage = Serving ticket core.stopped }, (0, Some core) ∷ me.1)) × Meets me.0 core

-- The step that reads the served ticket, modulo 2^64: if it equals the handle's own ticket modulo 2^64, the handle takes the slot; if not,
-- nothing changes.
abbrev pub Reads : HolderState → ℕ → HolderState → Type 0
Reads me found after = (ticket : ℕ) → me.0.stage ≡ Waiting ticket → (found ≡ ticket % 2 ^ 64 → TakesSlot ticket me after) × (found ≢ ticket % 2 ^ 64 → after ≡ me)

-- The step by which the one handle of a bus that is being made takes the empty slot.
abbrev pub Opens : HolderState → ℕ → HolderState → Type 0
Opens me found after = after ≡ (record me.0 { stage = Serving 0 false }, (0, None) ∷ me.1)

-- the core in the slot that a handle holds, if any
abbrev pub in_hand : List (ℕ × Option CoreState) → Option CoreState
in_hand [] = None
in_hand (slot ∷ slots) = slot.1

-- a handle after it has noted a call on the taken core: the call has logged this entry or none, and the core is stopped or not
abbrev pub noting : SeatView → Option Entry → Bool → SeatView
noting seat logged stopped = record seat {
  seen = seat.seen ++ option_to_list logged;
  mine = seat.mine ++ indexed (length seat.seen) (option_to_list logged);
  told = seat.told || stopped;
}

-- The step that notes a call: the core has logged at most one entry since it was taken. The handle has seen this entry, which is its own.
abbrev pub Notes : HolderState → ℕ → HolderState → Type 0
Notes me found after =
    (core : CoreState) × (logged : Option Entry) × (in_hand me.1 ≡ Some core) × (core.log ≡ me.0.seen ++ option_to_list logged) × (after ≡ (noting me.0 logged core.stopped, me.1))

-- a handle after it has noted that the taken core was stopped
abbrev pub stopping : ℕ → SeatView → SeatView
stopping ticket seat = record seat { called = true; told = true; stage = Serving ticket true }

-- The step that notes that the taken core was stopped.
abbrev pub Stops : HolderState → ℕ → HolderState → Type 0
Stops me found after = (ticket : ℕ) (mark : Bool) → me.0.stage ≡ Serving ticket mark → after ≡ (stopping ticket me.0, me.1)

-- The step that passes the turn on: the handle returns the slot.
abbrev pub Passes : HolderState → ℕ → HolderState → Type 0
Passes me found after = after ≡ (record me.0 { stage = Idle }, [])

-- two handles just after their join: the joined handle keeps the entries that each had seen, with its rights
abbrev pub joining : SeatView → SeatView → SeatView
joining seat other = record (joined seat other) { stage = Joined seat.seen seat.rights other.seen other.rights }

-- The step after a join: it states that each of the two handles had seen all entries of its rights.
abbrev pub Looks : HolderState → ℕ → HolderState → Type 0
Looks me found after =
    (one : List Entry) (rights : Rights) (other : List Entry) (more : Rights) → me.0.stage ≡ Joined one rights other more
    → (after ≡ (record me.0 { stage = Idle }, me.1)) × Grows rights one me.0.seen × Grows more other me.0.seen

-- The state after the core is taken out: the handle has seen the core's log, and holds the empty slot.
abbrev pub HasTurn : SeatView → CoreState → HolderState → Type 0
HasTurn seat core me = (ticket : ℕ) × (me ≡ (record seat { seen = core.log; stage = Serving ticket core.stopped }, (0, None) ∷ []))

-- The effect on the taken core of a call that may log an entry, and the call's answer.
pub record Answers {A : Type 0} (Finds : CoreState → A → Type 0) (call : Call) (old new : CoreState) (result : Result A CoreFault) : Type 0 where
  pub finds : IfOk result (Finds old)
  pub logs : IfOk result (λ _. Logs old new (entries_of old call))
  pub stopped : IsErrOf result fault.Stopped ↔ IsTrue old.stopped
  pub full : IsErrOf result fault.Full → is_full old call ≡ true
  pub room : IfOk result (λ _. is_full old call ≡ false)
  pub stays : OnErr result (Stays old new)

-- A handle with an open turn may note this entry, or none: the core has logged it since it was taken, and the handle has its right.
pub record Adds (seat : SeatView) (core : CoreState) (logged : Option Entry) : Type 0 where
  pub origin : core.origin ≡ seat.origin
  pub log : core.log ≡ seat.seen ++ option_to_list logged
  pub trace : IsTrace (replay (start seat.origin) seat.seen) (option_to_list logged)
  pub sparse : IsSparse (seat.seen ++ option_to_list logged)
  pub rights : own seat.rights (option_to_list logged) ≡ option_to_list logged
  pub owned : own all_rights (option_to_list logged) ≡ option_to_list logged

-- The handle's turn is open, the handle holds the empty slot, and the core has logged at most one entry since it was taken.
pub record MayRelease (me : HolderState) (core : CoreState) : Type 0 where
  pub ticket : ℕ
  pub logged : Option Entry
  pub stage : me.0.stage ≡ Serving ticket core.stopped
  pub slot : me.1 ≡ (0, None) ∷ []
  pub adds : Adds me.0 core logged

-- what contracts see of a handle of this bus, whose views these are
abbrev pub seat_of : TableId → List SeatView → SeatView
seat_of bus [] = nobody
seat_of bus (seat ∷ others) = record seat { bus = bus }

-- between two calls, a handle has one view, is idle, and has a quota above 0
abbrev pub IsSeat : List SeatView → Type 0
IsSeat views = (seat : SeatView) × (views ≡ seat ∷ []) × (seat.stage ≡ Idle) × (0 < seat.room)

-- The handle may pass its turn on: the core is back in the slot that the handle holds, and the handle has seen the core's log.
pub record MayPass (me : HolderState) : Type 0 where
  pub ticket : ℕ
  pub core : CoreState
  pub stage : me.0.stage ≡ Serving ticket core.stopped
  pub slot : me.1 ≡ (0, Some core) ∷ []
  pub origin : core.origin ≡ me.0.origin
  pub log : core.log ≡ me.0.seen

-- the handle has put the core back, noted the call with at most one entry, and passed the turn on
abbrev pub Releases : HolderState → CoreState → HolderState → Type 0
Releases me core after = (logged : Option Entry) × (core.log ≡ me.0.seen ++ option_to_list logged) × (after ≡ (record (noting me.0 logged core.stopped) { stage = Idle }, []))

-- The handle's turn is open, the handle holds the empty slot, and the core is unchanged since it was taken.
pub record MayReturn (me : HolderState) (core : CoreState) : Type 0 where
  pub ticket : ℕ
  pub stage : me.0.stage ≡ Serving ticket core.stopped
  pub slot : me.1 ≡ (0, None) ∷ []
  pub origin : core.origin ≡ me.0.origin
  pub log : core.log ≡ me.0.seen

-- The handle's turn is open, the handle holds the empty slot, and the core is stopped and has logged nothing since it was taken.
pub record MayStop (me : HolderState) (core : CoreState) : Type 0 where
  pub ticket : ℕ
  pub mark : Bool
  pub stage : me.0.stage ≡ Serving ticket mark
  pub slot : me.1 ≡ (0, None) ∷ []
  pub origin : core.origin ≡ me.0.origin
  pub log : core.log ≡ me.0.seen
  pub stopped : core.stopped ≡ true

-- the handle has put the core back, noted that it was stopped, and passed the turn on
abbrev pub ReleasesStopped : HolderState → HolderState → Type 0
ReleasesStopped me after = after ≡ (record me.0 { called = true; told = true; stage = Idle }, [])
