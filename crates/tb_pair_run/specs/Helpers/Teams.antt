-- The jobs of a pair in one list, and apart again.
use Rattle.std.specs.Prelude.{◌≡◌, List, [], ◌∷◌, map, None, ⊤}
use Rattle.tb_edge.specs.Jobs.{AllDone}
use Rattle.tb_pair.specs.declared.job.PipeWriting.{PipeWriting}
use Rattle.tb_pair.specs.declared.job.PipeReading.{PipeReading}
use Rattle.tb_pair.specs.declared.job.PairJob.{PairJob}
use Rattle.tb_pair.specs.declared.job.PairJob.TheVariants.{Other, Writes, Reads}
use Rattle.tb_pair.specs.Jobs.{WritingDone, ReadingDone}
use Rattle.tb_pair.specs.Ticking.{CanTick}
use Rattle.tb_pair_run.specs.declared.lent.LentTicking.{LentTicking}

abbrev pub others_of : {W J Plan Taken : Type 0} → List J → List (PairJob W J Plan Taken)
others_of jobs = map (λ job. Other job) jobs

-- the writer, the reader, and all others
abbrev pub jobs_of : {W J Plan Taken : Type 0} → PipeWriting W Plan Taken → PipeReading W Plan Taken
    → List J → List (PairJob W J Plan Taken)
jobs_of writing reading others = Writes writing ∷ Reads reading ∷ others_of others

-- jobs of which none has an end of the pipe
abbrev pub AreOthers : {W J Plan Taken : Type 0} → List (PairJob W J Plan Taken) → Type 0
AreOthers [] = ⊤
AreOthers (Other job ∷ jobs) = AreOthers jobs
AreOthers (Writes job ∷ jobs) = ⊥
AreOthers (Reads job ∷ jobs) = ⊥

-- jobs that stand so: the writer, the reader, and all others
abbrev pub IsTeam : {W J Plan Taken : Type 0} → List (PairJob W J Plan Taken) → Type 0
IsTeam [] = ⊥
IsTeam (Other job ∷ jobs) = ⊥
IsTeam (Reads job ∷ jobs) = ⊥
IsTeam (Writes job ∷ []) = ⊥
IsTeam (Writes job ∷ Other job' ∷ jobs) = ⊥
IsTeam (Writes job ∷ Writes job' ∷ jobs) = ⊥
IsTeam (Writes job ∷ Reads job' ∷ jobs) = AreOthers jobs

-- what was done with each
pub record TeamDone {W J Plan Taken : Type 0} (done : J → J → Type 0)
    (writing writing' : PipeWriting W Plan Taken) (reading reading' : PipeReading W Plan Taken)
    (workers workers' others others' : List J) : Type 0 where
  pub wrote : WritingDone writing.seat writing'.seat writing.pipe writing'.pipe writing'.end
  pub read : ReadingDone reading.seat reading'.seat reading.pipe reading'.pipe reading'.end
  pub worked : AllDone done workers workers'
  pub others_worked : AllDone done others others'

-- nothing was done
pub record TeamSame {W J Plan Taken : Type 0} (writing writing' : PipeWriting W Plan Taken)
    (reading reading' : PipeReading W Plan Taken) (workers workers' others others' : List J) : Type
    0 where
  pub writes_same : writing' ≡ writing
  pub reads_same : reading' ≡ reading
  pub workers_same : workers' ≡ workers
  pub others_same : others' ≡ others

-- a ticker of two buses that may begin
pub record CanBegin {W C Plan Taken : Type 0} (it : LentTicking W C Plan Taken) : Type 0 where
  pub one : CanTick it.one.now.post.now.shared it.one.now.seat
  pub one_open : it.one.now.end ≡ None
  pub other : CanTick it.other.now.post.now.shared it.other.now.seat
  pub other_open : it.other.now.end ≡ None
