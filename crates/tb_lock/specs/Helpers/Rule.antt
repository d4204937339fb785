-- The rule that every atomic step keeps. It is about the two words, the slot of the core, and all handles.
use Rattle.std.specs.Prelude.{◌≡◌, ◌≢◌, ◌⊎◌, ◌≤◌, ◌<◌, ◌+◌, ◌%◌, ◌^◌, ℕ, List, [], ◌∷◌, Bool, true, false, Option, Some, None, sum_by, ⊤}
use mathlib.Core.Option.{some, none}
use lib.ListN.{get_elem?}
use Rattle.atomic_table.specs.Table.{State}
use Rattle.tb_log.specs.declared.entry.Entry.{Entry}
use Rattle.tb_bus.specs.declared.origin.Origin.{Origin}
use Rattle.tb_bus.specs.Buses.{start}
use Rattle.tb_bus.specs.Traces.{IsTrace}
use Rattle.tb_core.specs.Cores.{CoreState}
use Rattle.tb_lock.specs.Rights.{Right, has, own, all_rights, AreAmong}
use Rattle.tb_lock.specs.Histories.{Grows, IsSparse, longer}
use Rattle.tb_lock.specs.Helpers.Indices.{AreIn, has_index}
use Rattle.tb_lock.specs.Seats.{SeatView, Stage, Opening, Idle, Waiting, Serving, Joined, nobody, first_seat, no_bus, most_seats}

-- the words, the slot and the handles of a bus
abbrev pub BoardState : Type 0
BoardState = State (Option CoreState) SeatView

-- the ticket of a handle that waits for its turn, or whose turn is open
abbrev pub ticket_of : Stage → Option ℕ
ticket_of Opening = Some 0
ticket_of Idle = None
ticket_of (Waiting ticket) = Some ticket
ticket_of (Serving ticket mark) = Some ticket
ticket_of (Joined one rights other more) = None

-- 1 for a handle that has a ticket
abbrev pub tickets : Stage → ℕ
tickets Opening = 1
tickets Idle = 0
tickets (Waiting ticket) = 1
tickets (Serving ticket mark) = 1
tickets (Joined one rights other more) = 0

-- whether a handle's turn is open
abbrev pub has_turn : Stage → Bool
has_turn Opening = false
has_turn Idle = false
has_turn (Waiting ticket) = false
has_turn (Serving ticket mark) = true
has_turn (Joined one rights other more) = false

-- The rule for the stage of a handle, if `drawn` tickets were drawn and `served` turns were passed on.
abbrev pub FitsStage : List Entry → Bool → ℕ → ℕ → SeatView → Stage → Type 0
FitsStage log stopped served drawn seat Opening = ⊥
FitsStage log stopped served drawn seat Idle = ⊤
-- its ticket was drawn, and its turn hasn't passed
FitsStage log stopped served drawn seat (Waiting ticket) = (served ≤ ticket) × (ticket < drawn)
-- it is served, has seen the whole history, and knows whether the core is stopped
FitsStage log stopped served drawn seat (Serving ticket mark) = (ticket ≡ served) × (ticket < drawn) × (seat.seen ≡ log) × (mark ≡ stopped)
-- the joined handle has the rights of both, and has seen the longer of the two logs; each had seen all entries of its rights
FitsStage log stopped served drawn seat (Joined one rights other more) =
    (seat.seen ≡ longer one other) × Grows rights one log × Grows more other log × AreAmong rights seat.rights × AreAmong more seat.rights

-- The rule for each handle.
pub record Fits (origin : Origin) (log : List Entry) (stopped : Bool) (served drawn : ℕ) (seat : SeatView) : Type 0 where
  -- a handle without quota was joined to another
  pub gone : seat.room ≡ 0 → seat ≡ nobody
  pub origin_is : 0 < seat.room → seat.origin ≡ origin
  -- it has seen a prefix of the history, and no later entry needs one of its rights
  pub grows : Grows seat.rights seat.seen log
  pub mine : AreIn seat.seen 0 seat.mine
  pub stage : FitsStage log stopped served drawn seat seat.stage
  -- if the handle has called `stop`, or received `Stopped`, the core is stopped
  pub called : seat.called ≡ true → stopped ≡ true
  pub told : seat.told ≡ true → stopped ≡ true

-- The rule for two handles: they have no right, no ticket, and no index of an own entry in common.
pub record Apart (seat other : SeatView) : Type 0 where
  pub rights : (right : Right) → has seat.rights right ≡ true → has other.rights right ≡ true → ⊥
  pub tickets : (ticket : ℕ) → ticket_of seat.stage ≡ Some ticket → ticket_of other.stage ≡ Some ticket → ⊥
  pub indices : (index : ℕ) → has_index index seat.mine ≡ true → has_index index other.mine ≡ true → ⊥

-- the predicate holds for some handle
abbrev pub Somewhere : (SeatView → Type 0) → List SeatView → Type 0
Somewhere Holds views = (id : ℕ) × (seat : SeatView) × (get_elem? views id ≡ some seat) × Holds seat

-- the core has this origin and this log, and is stopped or not, as given
pub record IsCore (origin : Origin) (log : List Entry) (stopped : Bool) (core : CoreState) : Type 0 where
  pub origin_is : core.origin ≡ origin
  pub log_is : core.log ≡ log
  pub stopped_is : core.stopped ≡ stopped

-- The core is in the slot, and no handle's turn is open.
pub record AtHome (origin : Origin) (log : List Entry) (stopped : Bool) (board : BoardState) : Type 0 where
  pub core : CoreState
  pub here : get_elem? board.homes 0 ≡ some (some (Some core))
  pub is : IsCore origin log stopped core
  pub nobody_has : (id : ℕ) (seat : SeatView) → get_elem? board.views id ≡ some seat → has_turn seat.stage ≡ false

-- The slot is taken, and some handle's turn is open.
pub record Away (board : BoardState) : Type 0 where
  pub out : get_elem? board.homes 0 ≡ some none
  pub somebody_has : Somewhere (λ seat. has_turn seat.stage ≡ true) board.views

-- The rule for a bus after it was made.
pub record Running (origin : Origin) (board : BoardState) : Type 0 where
  -- the one history, and whether the core is stopped
  pub log : List Entry
  pub stopped : Bool
  -- the numbers of drawn tickets and of passed turns; the two words are these numbers modulo 2^64
  pub drawn : ℕ
  pub served : ℕ
  pub words : board.words ≡ drawn % 2 ^ 64 ∷ served % 2 ^ 64 ∷ []
  -- there are as many drawn tickets whose turn hasn't passed as handles with a ticket, and the quotas of all handles are 64 together
  pub waiting : served + sum_by (λ seat. tickets seat.stage) board.views ≡ drawn
  pub rooms : sum_by (λ seat. seat.room) board.views ≡ most_seats
  pub fits : (id : ℕ) (seat : SeatView) → get_elem? board.views id ≡ some seat → Fits origin log stopped served drawn seat
  pub apart : (id by : ℕ) (seat other : SeatView) → id ≢ by → get_elem? board.views id ≡ some seat → get_elem? board.views by ≡ some other → Apart seat other
  pub slot : AtHome origin log stopped board ⊎ Away board
  -- the history is a trace, no two consecutive entries are `quiet`, each entry needs one of all rights, and some handle has seen it all
  pub trace : IsTrace (start origin) log
  pub sparse : IsSparse log
  pub owned : own all_rights log ≡ log
  pub seen : Somewhere (λ seat. seat.seen ≡ log) board.views
  -- the core is stopped only if some handle has called `stop`
  pub reason : stopped ≡ true → Somewhere (λ seat. seat.called ≡ true) board.views

-- the one handle of a bus that is being made
abbrev pub opening_seat : Origin → SeatView
opening_seat origin = record (first_seat no_bus origin) { stage = Opening }

-- The rule for a bus that is being made: its one handle has drawn the first ticket, and no core is in the slot yet.
pub record IsNew (origin : Origin) (board : BoardState) : Type 0 where
  pub words : board.words ≡ 1 ∷ 0 ∷ []
  pub homes : board.homes ≡ some None ∷ []
  pub views : board.views ≡ opening_seat origin ∷ []

-- The rule of a bus.
abbrev pub Kept : Origin → BoardState → Type 0
Kept origin board = IsNew origin board ⊎ Running origin board
