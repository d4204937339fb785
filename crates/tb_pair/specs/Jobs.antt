-- What the jobs of a pair need, and what each does.
use Rattle.std.specs.Prelude.{◌≡◌, true}
use Rattle.atomic_table.specs.Seated.{TableId}
use Rattle.rtrb.specs.Ring.{sent, received, SameProducer, SameConsumer}
use Rattle.tb_lock.specs.Rights.{In, Out, has}
use Rattle.tb_lock.specs.Seats.{SeatView}
use Rattle.tb_run.specs.declared.ends.WorkEnd.{WorkEnd}
use Rattle.tb_pair.specs.declared.pipe.PipeIn.{PipeIn}
use Rattle.tb_pair.specs.declared.pipe.PipeOut.{PipeOut}
use Rattle.tb_pair.specs.declared.job.PairJob.{PairJob}
use Rattle.tb_pair.specs.declared.job.PairJob.TheVariants.{Other, Writes, Reads}
use Rattle.tb_pair.specs.Workers.{WritesPipe, ReadsPipe}

-- a seat of this bus, with both rights of lane 1
pub record CanServe (bus : TableId) (seat : SeatView) : Type 0 where
  pub own : seat.bus ≡ bus
  pub reads : has seat.rights (In 1) ≡ true
  pub writes : has seat.rights (Out 1) ≡ true

-- what the worker that writes the pipe has done
pub record WritingDone (old new : SeatView) (pipe pipe' : PipeIn) (it : WorkEnd) : Type 0 where
  pub ring : SameProducer pipe.end pipe'.end
  pub wrote : WritesPipe old new (sent pipe.end) (sent pipe'.end) it

-- what the worker that reads it has done
pub record ReadingDone (old new : SeatView) (pipe pipe' : PipeOut) (it : WorkEnd) : Type 0 where
  pub ring : SameConsumer pipe.end pipe'.end
  pub read : ReadsPipe old new (received pipe.end) (received pipe'.end) it

abbrev pub IsReady : {W J Plan Taken : Type 0} → (J → Type 0) → PairJob W J Plan Taken → Type 0
IsReady ready (Other job) = ready job
IsReady ready (Writes job) = CanServe job.post.now.shared job.seat
IsReady ready (Reads job) = CanServe job.post.now.shared job.seat

abbrev pub JobDone : {W J Plan Taken : Type 0} → (J → J → Type 0) → PairJob W J Plan Taken → PairJob W J Plan Taken → Type 0
JobDone done (Other job) (Other job') = done job job'
JobDone done (Writes job) (Writes job') = WritingDone job.seat job'.seat job.pipe job'.pipe job'.end
JobDone done (Reads job) (Reads job') = ReadingDone job.seat job'.seat job.pipe job'.pipe job'.end
JobDone done (Other job) (Writes job') = ⊥
JobDone done (Other job) (Reads job') = ⊥
JobDone done (Writes job) (Other job') = ⊥
JobDone done (Writes job) (Reads job') = ⊥
JobDone done (Reads job) (Other job') = ⊥
JobDone done (Reads job) (Writes job') = ⊥
