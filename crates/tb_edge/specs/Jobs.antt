-- The results of the jobs of a thread group: all jobs are done, or all come back.
use Rattle.std.specs.Prelude.{◌≡◌, ℕ, ◌<◌, List, length, slice_index_or, ⊤}
use Rattle.tb_edge.specs.declared.crew.CrewFault.{CrewFault}
use Rattle.tb_edge.specs.declared.crew.CrewFault.TheVariants as fault

-- Each job is done, and the order is unchanged. (That an element equals itself says nothing: it shows the proof search where to look.)
abbrev pub AllDone : {J : Type 0} → (J → J → Type 0) → List J → List J → Type 0
AllDone {J} done old new =
    (length new ≡ length old)
    × ((i : ℕ) (d : J) → i < length old → (slice_index_or new i d ≡ slice_index_or new i d) × done (slice_index_or old i d) (slice_index_or new i d))

-- the jobs that come back
abbrev pub jobs_of : {J : Type 0} → CrewFault J → List J
jobs_of (fault.Failed jobs) = jobs.items
jobs_of (fault.NoMemory jobs) = jobs.items

-- if the thread group failed, this holds; if memory ran out, nothing is claimed
abbrev pub FailsOnly : {J : Type 0} → CrewFault J → Type 0 → Type 0
FailsOnly (fault.Failed jobs) P = P
FailsOnly (fault.NoMemory jobs) P = ⊤
