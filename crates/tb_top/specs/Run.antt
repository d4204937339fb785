-- The answers of `run`, with the effects on lanes and clock, and the bytes that the sink took.
use Rattle.std.specs.Prelude.{◌≡◌, ◌⊎◌, ℕ, List, Option, Result, Ok, Err}
use Rattle.tb_body.specs.declared.program.Program.{Program}
use Rattle.tb_bus.specs.Buses.{origin_of}
use Rattle.tb_core.specs.Cores.{CoreState}
use Rattle.tb_run.specs.Outcomes.{Runs}
use Rattle.tb_run.specs.Views.{OutsideView}
use Rattle.tb_run.specs.declared.ends.RunWhy.{RunWhy}
use Rattle.tb_run.specs.declared.ends.RunWhy.TheVariants as why
use Rattle.tb_load.specs.Loading.{HasProgram}
use Rattle.tb_top.specs.Loading.{IsUnloaded}
use Rattle.tb_top.specs.Views.{IsLeft}
use Rattle.tb_top.specs.declared.fault.Fault.{Fault}
use Rattle.tb_top.specs.declared.fault.Fault.TheVariants.{Script, File, Out, Clock, Crew, Limit}
use Rattle.tb_top.specs.declared.fault.Fault.TheVariants.{NoMemory}
use Rattle.tb_top.specs.declared.status.Bound.TheVariants as bound

-- The arguments of a run: the name of the script's file, the commands that are connected, and the
-- greatest numbers of ticks and of entries.
pub record RunRequest : Type 0 where
  pub script : List ℕ
  pub connects : List (List ℕ)
  pub ticks : ℕ
  pub events : ℕ

-- The script has a program, and its bus was run. The run ended for the reason `it`: `Runs` has the
-- claims about the log and the environment for each reason.
pub record IsRun (held : List ℕ → Option (List ℕ)) (request : RunRequest) (old new : OutsideView)
    (it : RunWhy) : Type 0 where
  pub program : Program
  pub has : HasProgram (held request.script) program
  pub back : CoreState
  pub runs : Runs request.ticks old new (origin_of program request.connects request.events) back it

-- nothing was written, and nothing else was touched
abbrev pub IsUntouched : OutsideView → OutsideView → Type 0
IsUntouched old new = (new.put ≡ old.put) × IsLeft old new

-- the claims about `run` by its answer, for the reported content of the files, the arguments, and
-- the views of the environment before and after the call
abbrev pub LiveOutcome : {A : Type 0} → (List ℕ → Option (List ℕ)) → RunRequest → OutsideView
    → OutsideView → Result A Fault → Type 0
-- the bus shut down, and all queued items were sent
LiveOutcome held request old new (Ok done) = IsRun held request old new why.Ended
-- the bus shut down, all queued items were sent, and the clock failed
LiveOutcome held request old new (Err Clock) = IsRun held request old new why.Clock
-- the log was full
LiveOutcome held request old new (Err (Limit bound.Events)) = IsRun held request old new why.Events
-- the sink failed
LiveOutcome held request old new (Err Out) = IsRun held request old new why.Out
-- there are too few threads
LiveOutcome held request old new (Err Crew) = IsRun held request old new why.Crew
-- memory ran out, before the bus was run or while it was
LiveOutcome held request old new (Err NoMemory) =
    IsUntouched old new ⊎ IsRun held request old new why.NoMemory
-- the script was rejected
LiveOutcome held request old new (Err (Script fault)) =
    IsUnloaded (held request.script) (Script fault) × IsUntouched old new
-- the script's file could not be read
LiveOutcome held request old new (Err File) = IsUntouched old new
-- no other answer comes
LiveOutcome held request old new _ = ⊥
