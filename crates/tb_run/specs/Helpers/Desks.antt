-- The stepper and the writers at their desks, where other threads do parts of their work.
use Rattle.std.specs.Prelude.{◌≡◌, ℕ, true, List, [], ◌∷◌, Option, Some, None, MatchOption, slice_get}
use Rattle.atomic_table.specs.Seated.{TableId}
use Rattle.tb_edge.specs.declared.given.Taken.{Taken}
use Rattle.tb_log.specs.declared.entry.Entry.TheVariants.{Gave}
use Rattle.tb_log.specs.Shapes.{IsLane, IsOutInShape}
use Rattle.tb_lock.specs.Rights.{Steps as ToStep, Out as Outs, has}
use Rattle.tb_lock.specs.Seats.{SeatView}
use Rattle.tb_run.specs.declared.ends.WorkEnd.{WorkEnd}
use Rattle.tb_run.specs.declared.writer_stage.WriterStage.{WriterStage}
use Rattle.tb_run.specs.declared.writer_stage.WriterStage.TheVariants as stage
use Rattle.tb_run.specs.declared.worker.Work.{Work}
use Rattle.tb_run.specs.declared.worker.Work.TheVariants as work
use Rattle.tb_run.specs.Seats.{Adds, SameMarks}
use Rattle.tb_run.specs.Workers.{StepsBus, WritesLane}
use Rattle.tb_run.specs.Helpers.Working.{Steps, Writes}

-- how a worker begins: its seat, its lane, and what its outlet reports
pub record Begun : Type 0 where
  pub seat : SeatView
  pub lane : ℕ
  pub told : Option (List Taken)
  pub faults : ℕ

abbrev pub begun : {I O : Type 0} → (O → Option (List Taken)) → (O → ℕ) → SeatView → Work I O → Begun
begun told faults seat (work.Reads lane inlet) = record { seat = seat; lane = lane; told = None; faults = 0 }
begun told faults seat (work.Writes lane outlet) = record { seat = seat; lane = lane; told = told outlet; faults = faults outlet }
begun told faults seat work.Steps = record { seat = seat; lane = 0; told = None; faults = 0 }

-- how the workers with these seats and works begin, in order
abbrev pub all_begun : {I O : Type 0} → (O → Option (List Taken)) → (O → ℕ) → List SeatView → List (Work I O) → List Begun
all_begun told faults [] works = []
all_begun told faults (seat ∷ seats) [] = []
all_begun told faults (seat ∷ seats) (work ∷ works) = begun told faults seat work ∷ all_begun told faults seats works

-- a stepper that has begun as the worker with this index: it goes on, or has ended
pub record IsStepping (bus : TableId) (starts : List Begun) (at : ℕ) (seat : SeatView) (end : Option WorkEnd) : Type 0 where
  pub start : Begun
  pub is : slice_get starts at ≡ Some start
  pub own : start.seat.bus ≡ bus
  pub right : has start.seat.rights ToStep ≡ true
  pub went : MatchOption end (Steps start.seat seat) (StepsBus start.seat seat)

-- the progress of a writer, by its stage
abbrev pub WentTo : ℕ → Begun → SeatView → Option (List Taken) → ℕ → WriterStage → Type 0
WentTo lane start seat told faults stage.Free = Writes lane start.seat seat start.told told start.faults faults
-- the item was taken, and isn't written yet
WentTo lane start seat told faults (stage.Holds out) = (mid : SeatView) × Writes lane start.seat mid start.told told start.faults faults × Adds mid seat (Gave lane out ∷ []) × SameMarks mid seat × IsOutInShape out
WentTo lane start seat told faults (stage.Ended it) = WritesLane lane start.seat seat start.told told start.faults faults it

-- a writer that has begun as the worker with this index
pub record IsWriting (bus : TableId) (starts : List Begun) (at lane : ℕ) (seat : SeatView) (told : Option (List Taken)) (faults : ℕ) (stage : WriterStage) : Type 0 where
  pub start : Begun
  pub is : slice_get starts at ≡ Some start
  pub own : start.seat.bus ≡ bus
  pub lane_is : start.lane ≡ lane
  pub range : IsLane lane
  pub right : has start.seat.rights (Outs lane) ≡ true
  pub went : WentTo lane start seat told faults stage

-- the result of the call that takes the next item, before the item is written
abbrev pub TakesOne : ℕ → SeatView → SeatView → WriterStage → Type 0
TakesOne lane old new stage.Free = Adds old new [] × SameMarks old new
TakesOne lane old new (stage.Holds out) = Adds old new (Gave lane out ∷ []) × SameMarks old new × IsOutInShape out
TakesOne lane old new (stage.Ended it) = (told : Option (List Taken)) (faults : ℕ) → WritesLane lane old new told told faults faults it

-- the stage of a writer after it has written an item
abbrev pub stage_after : Option WorkEnd → WriterStage
stage_after None = stage.Free
stage_after (Some it) = stage.Ended it

-- a stepper that has begun as the worker with this index, and has ended
pub record HasStepped (bus : TableId) (starts : List Begun) (at : ℕ) (seat : SeatView) (it : WorkEnd) : Type 0 where
  pub start : Begun
  pub is : slice_get starts at ≡ Some start
  pub went : StepsBus start.seat seat it

-- a writer that has begun as the worker with this index, and has ended
pub record HasWritten (bus : TableId) (starts : List Begun) (at : ℕ) (seat : SeatView) (told : Option (List Taken)) (faults : ℕ) (it : WorkEnd) : Type 0 where
  pub start : Begun
  pub is : slice_get starts at ≡ Some start
  pub went : WritesLane start.lane start.seat seat start.told told start.faults faults it
