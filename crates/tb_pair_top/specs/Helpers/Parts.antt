-- The claims that the private functions of the program guarantee to each other.
use Rattle.std.specs.Prelude.{◌≡◌, ◌⊎◌, ℕ, List, Option, Result, Ok, Err}
use Rattle.tb_edge.specs.Faults.{Rose}
use Rattle.tb_edge.specs.Sinks.{Writes, WritesPrefix}
use Rattle.tb_load.specs.Loading.{HasProgram, IsBadScript}
use Rattle.tb_load.specs.declared.fault.LoadFault.{LoadFault}
use Rattle.tb_load.specs.declared.fault.LoadFault.TheVariants as load
use Rattle.tb_pair_run.specs.declared.ends.PairWhy.{PairWhy}
use Rattle.tb_pair_run.specs.declared.ends.PairWhy.TheVariants as why
use Rattle.tb_pair_top.specs.Loading.{IsOfOne}
use Rattle.tb_core.specs.Cores.{Stays, started}
use Rattle.tb_pair_top.specs.Outcomes.{ArePut, pair_origin}
use Rattle.tb_pair_top.specs.declared.fault.PairFault.{PairFault}
use Rattle.tb_pair_top.specs.declared.fault.PairFault.TheVariants.{Script, Words, File, Out, Clock}
use Rattle.tb_pair_top.specs.declared.fault.PairFault.TheVariants.{Crew, Limit, NoMemory}
use Rattle.tb_pair_top.specs.declared.loading.Programs.{Programs}
use Rattle.tb_pair_top.specs.declared.running.Cores.{Cores}

-- the files of these names have these programs
pub record HavePrograms (held : List ℕ → Option (List ℕ)) (first second : List ℕ)
    (programs : Programs) : Type 0 where
  pub has : HasProgram (held first) programs.first
  pub others_has : HasProgram (held second) programs.second

-- why two files don't give two programs, and which files were requested
abbrev pub AreUnloaded : (List ℕ → Option (List ℕ)) → List ℕ → List ℕ → List (List ℕ)
    → List (List ℕ) → LoadFault → Type 0
AreUnloaded held first second old new (load.Script fault) =
    IsOfOne (λ told. IsBadScript told fault) held first second old new
AreUnloaded held first second old new load.File =
    IsOfOne (λ told. Unit {0}) held first second old new
AreUnloaded held first second old new load.NoMemory =
    (new ≡ old) ⊎ IsOfOne (λ told. Unit {0}) held first second old new

-- the error of a pair, by the error of its files
abbrev pub of_load : LoadFault → PairFault
of_load (load.Script fault) = Script fault
of_load load.File = File
of_load load.NoMemory = NoMemory

-- The answer of writing the text of both logs after a pair that ended for this reason.
abbrev pub PutsLogs : {A : Type 0} → PairWhy → List ℕ → Option (List ℕ) → Option (List ℕ) → ℕ → ℕ
    → Result A PairFault → Type 0
PutsLogs it text old new faults_old faults_new (Ok done) =
    (it ≡ why.Ended) × Writes old new text × (faults_new ≡ faults_old)
PutsLogs it text old new faults_old faults_new (Err Clock) =
    (it ≡ why.Clock) × Writes old new text × (faults_new ≡ faults_old)
PutsLogs it text old new faults_old faults_new (Err Limit) =
    (it ≡ why.Events) × Writes old new text × (faults_new ≡ faults_old)
PutsLogs it text old new faults_old faults_new (Err Out) =
    ArePut it × WritesPrefix old new text × Rose faults_old faults_new
PutsLogs it text old new faults_old faults_new (Err Crew) =
    (it ≡ why.Crew) × (new ≡ old) × (faults_new ≡ faults_old)
PutsLogs it text old new faults_old faults_new (Err NoMemory) =
    ((it ≡ why.NoMemory) × (new ≡ old)) ⊎ (ArePut it × WritesPrefix old new text)
PutsLogs it text old new faults_old faults_new (Err (Script fault)) = ⊥
PutsLogs it text old new faults_old faults_new (Err (Words fault)) = ⊥
PutsLogs it text old new faults_old faults_new (Err File) = ⊥

-- the answer after a pair that ended for this reason, if its logs were written
abbrev pub EndsAs : {A : Type 0} → PairWhy → Result A PairFault → Type 0
EndsAs it (Ok done) = it ≡ why.Ended
EndsAs it (Err Clock) = it ≡ why.Clock
EndsAs it (Err Limit) = it ≡ why.Events
EndsAs it _ = ⊥

-- an error of a run, after both scripts have programs
abbrev pub IsRunFault : PairFault → Type 0
IsRunFault Out = Unit {0}
IsRunFault Clock = Unit {0}
IsRunFault Crew = Unit {0}
IsRunFault Limit = Unit {0}
IsRunFault NoMemory = Unit {0}
IsRunFault (Script fault) = ⊥
IsRunFault (Words fault) = ⊥
IsRunFault File = ⊥

-- two buses that started with these programs
pub record AreStarted (programs : Programs) (events : ℕ) (cores : Cores) : Type 0 where
  pub first : Stays (started (pair_origin programs.first events)) cores.first
  pub second : Stays (started (pair_origin programs.second events)) cores.second
