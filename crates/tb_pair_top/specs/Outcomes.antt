-- The answers of a pair, with the requested files, the effects on the environment, and the written
-- bytes.
use Rattle.std.specs.Prelude.{◌≡◌, ◌≢◌, ◌⊎◌, ℕ, List, [], ◌∷◌, ◌++◌, Option, Result, Ok, Err, codes}
use Rattle.std.specs.Prelude.{⊤}
use Rattle.tb_body.specs.declared.program.Program.{Program}
use Rattle.tb_bus.specs.Buses.{origin_of}
use Rattle.tb_bus.specs.declared.origin.Origin.{Origin}
use Rattle.tb_cli.specs.declared.fault.WordFault.{WordFault}
use Rattle.tb_cli.specs.declared.fault.WordFault.TheVariants as word
use Rattle.tb_cli.specs.declared.pair_command.PairCommand.{PairCommand}
use Rattle.tb_core.specs.Cores.{CoreState}
use Rattle.tb_edge.specs.Faults.{Rose}
use Rattle.tb_edge.specs.Sinks.{Writes, WritesPrefix}
use Rattle.tb_load.specs.Loading.{HasProgram, IsBadScript}
use Rattle.tb_log.specs.declared.entry.Entry.{Entry}
use Rattle.tb_log.specs.LogText.{log_text}
use Rattle.tb_pair_run.specs.Outcomes.{PairRuns}
use Rattle.tb_pair_run.specs.Views.{PairView}
use Rattle.tb_pair_run.specs.declared.ends.PairWhy.{PairWhy}
use Rattle.tb_pair_run.specs.declared.ends.PairWhy.TheVariants as why
use Rattle.tb_pair_top.specs.Loading.{AsksBoth, IsOfOne}
use Rattle.tb_pair_top.specs.Views.{Outside, Seen}
use Rattle.tb_pair_top.specs.declared.fault.PairFault.{PairFault}
use Rattle.tb_pair_top.specs.declared.fault.PairFault.TheVariants.{Script, Words, File, Out, Clock}
use Rattle.tb_pair_top.specs.declared.fault.PairFault.TheVariants.{Crew, Limit, NoMemory}

-- the start of a bus of a pair: only the command `pipe` is connected, so lane 1 is up
abbrev pub pair_origin : Program → ℕ → Origin
pair_origin program events = origin_of program (codes "pipe" ∷ []) events

-- the text of two logs: both texts, with the line `--` between them
abbrev pub pair_text : List Entry → List Entry → List ℕ
pair_text one other = log_text one ++ (codes "--\n" ++ log_text other)

-- Two buses that started at these origins ran as a pair, and the run ended for the reason `it`:
-- `PairRuns` has the claims about the logs and the environment for each reason.
pub record HaveRun (most : ℕ) (origin others_origin : Origin) (old new : PairView) (it : PairWhy) :
    Type 0 where
  pub back : CoreState
  pub others_back : CoreState
  pub runs : PairRuns most old new origin others_origin back others_back it

-- the text of both logs of a pair
abbrev pub text_of : {most : ℕ} {origin others_origin : Origin} {old new : PairView} {it : PairWhy}
    → HaveRun most origin others_origin old new it → List ℕ
text_of run = pair_text run.back.log run.others_back.log

-- the pair ran and ended for this reason, and the text of both logs was written
abbrev pub PutsBoth : ℕ → Origin → Origin → Outside → Outside → PairWhy → Type 0
PutsBoth most origin others_origin old new it =
    (ran : HaveRun most origin others_origin old.run new.run it)
    × Writes old.put new.put (text_of ran)

-- the logs are written after a pair that ended for this reason
abbrev pub ArePut : PairWhy → Type 0
ArePut why.Ended = ⊤
ArePut why.Clock = ⊤
ArePut why.Events = ⊤
ArePut why.Crew = ⊥
ArePut why.NoMemory = ⊥

-- the pair ran and ended for a reason for which the logs are written, and a prefix of their text
-- was written
abbrev pub PutsPart : ℕ → Origin → Origin → Outside → Outside → Type 0
PutsPart most origin others_origin old new =
    (it : PairWhy) × ArePut it × (ran : HaveRun most origin others_origin old.run new.run it)
    × WritesPrefix old.put new.put (text_of ran)

-- the pair ran and ended for this reason, and nothing was written
abbrev pub PutsNothing : ℕ → Origin → Origin → Outside → Outside → PairWhy → Type 0
PutsNothing most origin others_origin old new it =
    HaveRun most origin others_origin old.run new.run it × (new.put ≡ old.put)

-- The claims about a pair of two programs, by its answer, for the greatest number of ticks and the
-- origins of both logs.
abbrev pub RunOutcome : {A : Type 0} → ℕ → Origin → Origin → Outside → Outside → Result A PairFault
    → Type 0
-- both buses have shut down, and all queued items were sent
RunOutcome most origin others_origin old new (Ok done) =
    PutsBoth most origin others_origin old new why.Ended
-- both buses have shut down, all queued items were sent, and the clock failed
RunOutcome most origin others_origin old new (Err Clock) =
    PutsBoth most origin others_origin old new why.Clock
-- the log of a bus was full
RunOutcome most origin others_origin old new (Err Limit) =
    PutsBoth most origin others_origin old new why.Events
-- the sink failed
RunOutcome most origin others_origin old new (Err Out) = PutsPart most origin others_origin old new
-- there are too few threads
RunOutcome most origin others_origin old new (Err Crew) =
    PutsNothing most origin others_origin old new why.Crew
-- memory ran out: before the buses ran, while they ran, or while their logs were written
RunOutcome most origin others_origin old new (Err NoMemory) =
    (new ≡ old)
    ⊎
    (PutsNothing most origin others_origin old new why.NoMemory
    ⊎ PutsPart most origin others_origin old new)
-- no other answer comes
RunOutcome most origin others_origin old new (Err (Script fault)) = ⊥
RunOutcome most origin others_origin old new (Err (Words fault)) = ⊥
RunOutcome most origin others_origin old new (Err File) = ⊥

-- The files of both scripts were requested in order, both scripts have programs, and these ran as a
-- pair.
pub record IsPair {A : Type 0} (command : PairCommand) (old new : Seen)
    (answer : Result A PairFault) : Type 0 where
  pub one : Program
  pub other : Program
  pub has : HasProgram (old.held command.first) one
  pub others_has : HasProgram (old.held command.second) other
  pub asks : AsksBoth command.first command.second old.asked new.asked
  pub outcome :
      RunOutcome command.ticks (pair_origin one command.events) (pair_origin other command.events)
      old.outside new.outside answer

-- `Is` holds for the file of one of the two scripts, as in `IsOfOne`, and the rest of the
-- environment is unchanged.
abbrev pub StopsAt : (Option (List ℕ) → Type 0) → PairCommand → Seen → Seen → Type 0
StopsAt Is command old new =
    IsOfOne Is old.held command.first command.second old.asked new.asked
    × (new.outside ≡ old.outside)

-- The claims about a requested pair, by its answer.
abbrev pub CommandOutcome : {A : Type 0} → PairCommand → Seen → Seen → Result A PairFault → Type 0
-- a script was rejected
CommandOutcome command old new (Err (Script fault)) =
    StopsAt (λ told. IsBadScript told fault) command old new
-- the file of a script could not be read
CommandOutcome command old new (Err File) = StopsAt (λ told. Unit {0}) command old new
-- memory ran out: before a file was requested, at one of the two files, or after both scripts had
-- programs
CommandOutcome {A} command old new (Err NoMemory) =
    ((new.asked ≡ old.asked) × (new.outside ≡ old.outside))
    ⊎ (StopsAt (λ told. Unit {0}) command old new ⊎ IsPair {A = A} command old new (Err NoMemory))
CommandOutcome command old new answer = IsPair command old new answer

-- the claims about an answer, by the pair that the arguments request, or by the error of the
-- arguments
abbrev pub Outcome : {A : Type 0} → Result PairCommand WordFault → Seen → Seen → Result A PairFault
    → Type 0
Outcome (Err fault) old new answer =
    (answer ≡ Err (Words fault)) × (fault ≢ word.NoMemory) × (new.asked ≡ old.asked)
    × (new.outside ≡ old.outside)
Outcome (Ok command) old new answer = CommandOutcome command old new answer

-- The counts of failures of the crew, the sink and the clock, by the answer. If several reasons
-- apply, the first is reported, in this order: memory, the crew, the sink, the limit of a log, the
-- clock. So the count of each reason before the answer in this order is unchanged. If the answer
-- names the crew, the sink or the clock, its count rose.
abbrev pub TellsFirst : {A : Type 0} → Outside → Outside → Result A PairFault → Type 0
TellsFirst old new (Ok done) =
    (new.run.crew_faults ≡ old.run.crew_faults) × (new.out_faults ≡ old.out_faults)
    × (new.run.clock_faults ≡ old.run.clock_faults)
TellsFirst old new (Err Clock) =
    (new.run.crew_faults ≡ old.run.crew_faults) × (new.out_faults ≡ old.out_faults)
    × Rose old.run.clock_faults new.run.clock_faults
TellsFirst old new (Err Limit) =
    (new.run.crew_faults ≡ old.run.crew_faults) × (new.out_faults ≡ old.out_faults)
TellsFirst old new (Err Out) =
    (new.run.crew_faults ≡ old.run.crew_faults) × Rose old.out_faults new.out_faults
TellsFirst old new (Err Crew) =
    Rose old.run.crew_faults new.run.crew_faults × (new.out_faults ≡ old.out_faults)
    × (new.run.clock_faults ≡ old.run.clock_faults)
TellsFirst old new _ = ⊤

-- the answer names a file only if the files' count of failures rose
abbrev pub FileCaused : {A : Type 0} → Seen → Seen → Result A PairFault → Type 0
FileCaused old new (Err File) = Rose old.file_faults new.file_faults
FileCaused old new _ = ⊤

-- This answer may come with these requested files, effects on the environment, written bytes, and
-- counts of failures.
pub record Comes {A : Type 0} (asked : Result PairCommand WordFault) (old new : Seen)
    (answer : Result A PairFault) : Type 0 where
  pub outcome : Outcome asked old new answer
  pub tells : TellsFirst old.outside new.outside answer
  pub file : FileCaused old new answer

-- the names of the requested files, in order
abbrev pub files_of : Result PairCommand WordFault → List (List ℕ)
files_of (Err fault) = []
files_of (Ok command) = command.first ∷ command.second ∷ []
