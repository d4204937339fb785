-- What a pair shows of whose buses one found its log full: which call was refused, and that what
-- the call was made for is there.
use Rattle.std.specs.Prelude.{◌≡◌, ◌<◌, ◌≤◌, ◌⊎◌, ℕ, Bool, false, List, [], ◌∷◌, ◌++◌, filter}
use Rattle.std.specs.Prelude.{Option}
use Rattle.tb_terms.specs.declared.term.Term.{Term}
use Rattle.tb_edge.specs.Ends.{ClockView, and_ticked}
use Rattle.tb_log.specs.declared.entry.Input.TheVariants.{Tick}
use Rattle.tb_log.specs.declared.entry.Entry.{Entry}
use Rattle.tb_log.specs.Lanes.{inputs, ticks}
use Rattle.tb_bus.specs.declared.origin.Origin.{Origin}
use Rattle.tb_core.specs.Cores.{Call, HandIn, HandOut, MakeStep}
use Rattle.tb_run.specs.Clocks.{is_time}
use Rattle.tb_run.specs.Dropping.{AreLetIn, HasDropped}
use Rattle.tb_run.specs.Outcomes.{is_of}
use Rattle.tb_run.specs.Refusals.{HadNoRoom, LaneRefused, NoTicksRefused}
use Rattle.tb_run.specs.Views.{LaneView}
use Rattle.tb_run.specs.Workers.{AreTicks}
use Rattle.tb_pair.specs.Piping.{does, events, connect, disconnect, event_of, lines_of}
use Rattle.tb_pair_run.specs.Views.{SomeFromTwo}

-- the line by which the tool of lane 1 names itself: the log has no input of lane 1
abbrev pub NameRefused : Origin → List Entry → Type 0
NameRefused origin log = (inputs log 1 ≡ []) × HadNoRoom (HandIn connect) origin log

-- At some place after all its inputs of lane 1, the log has no capacity for this call.
pub record NoRoomAfterInputs (call : Call) (origin : Origin) (log : List Entry) : Type 0 where
  pub no_room : HadNoRoom call origin log
  -- the log already has them at this place
  pub has_all : inputs no_room.core.log 1 ≡ inputs log 1

-- The rejected call delivers the next event of lane 1 of the second bus: the term of the first
-- bus's next `rec-do` line. No input of lane 1 was dropped because the bus had shut down.
pub record EventRefused (one : List Entry) (origin : Origin) (log : List Entry) : Type 0 where
  pub next : Term
  pub rest : List Term
  pub is : does one ≡ events log ++ next ∷ rest
  pub lines : inputs log 1 ≡ connect ∷ lines_of (events log) false
  pub let_in : HasDropped (is_of 1) log → ⊥
  pub no_room : NoRoomAfterInputs (HandIn (event_of next)) origin log

-- The rejected call is the disconnect request of the second bus's tool. The events are the terms of
-- all `rec-do` lines of the first bus. No input of lane 1 was dropped because the bus had shut
-- down.
pub record LeaveRefused (one : List Entry) (origin : Origin) (log : List Entry) : Type 0 where
  pub all : events log ≡ does one
  pub lines : inputs log 1 ≡ connect ∷ lines_of (events log) false
  pub let_in : HasDropped (is_of 1) log → ⊥
  pub no_room : NoRoomAfterInputs (HandIn disconnect) origin log

-- The writer of the pipe finds the log full: for the next item of lane 1 of the first bus, after
-- the connect request, which is the one input of this lane; or for the connect request.
abbrev pub WriterRefused : Origin → List Entry → Type 0
WriterRefused origin log =
    ((inputs log 1 ≡ connect ∷ []) × NoRoomAfterInputs (HandOut 1) origin log)
    ⊎ NameRefused origin log

-- The reader of the pipe finds the log full for the next item of lane 1 of the second bus, after
-- the connect request, all events, and the disconnect request if it's there.
abbrev pub ItemRefused : Origin → List Entry → Type 0
ItemRefused origin log =
    (leaves : Bool) × (inputs log 1 ≡ connect ∷ lines_of (events log) leaves)
    × NoRoomAfterInputs (HandOut 1) origin log

-- of the worker that reads the pipe: what was to be handed out on lane 1 of the second bus, or one
-- of its inputs
abbrev pub ReaderRefused : List Entry → Origin → List Entry → Type 0
ReaderRefused one origin log =
    ItemRefused origin log
    ⊎ (NameRefused origin log ⊎ (EventRefused one origin log ⊎ LeaveRefused one origin log))

-- A tick: the clock gave more than the log has. The log doesn't say that no more come, and no tick
-- was dropped because the bus had shut down.
pub record TickRefused (origin : Origin) (log : List Entry) (most : ℕ) (old new : Option ClockView)
    : Type 0 where
  pub given : ℕ
  pub ended : Bool
  pub told : new ≡ and_ticked old given ended
  pub within : given ≤ most
  pub more : ticks log < given
  pub time : AreTicks (filter is_time log)
  pub let_in : AreLetIn (filter is_time log)
  pub no_room : HadNoRoom (HandIn Tick) origin log

-- The run of one bus of a pair: its lanes and the clock before the call and after it, and the log
-- of the returned core, with its origin.
pub record BusRun : Type 0 where
  pub lanes_old : List LaneView
  pub lanes_new : List LaneView
  pub clock_old : Option ClockView
  pub clock_new : Option ClockView
  pub origin : Origin
  pub log : List Entry

-- A call on a bus of a pair was rejected because its log was full: a call of lanes 2 to 16, a call
-- of lane 1, an input of the clock, or a step. `Pipe` is the claim about lane 1. `Failed` states
-- that the clock failed, and `most` is the limit of ticks.
abbrev pub BusRefused : Type 0 → Type 0 → ℕ → BusRun → Type 0
BusRefused Pipe Failed most run =
    SomeFromTwo (LaneRefused run.origin run.log) run.lanes_old run.lanes_new
    ⊎ (Pipe ⊎ (TickRefused run.origin run.log most run.clock_old run.clock_new
    ⊎ (NoTicksRefused run.origin run.log most run.clock_old run.clock_new Failed
    ⊎ HadNoRoom MakeStep run.origin run.log)))
