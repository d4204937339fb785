-- The headline of `sim`: the script, the feed, and the arguments determine the written log.
use Rattle.std.specs.Prelude.{◌≡◌, ◌⊎◌, ℕ, List, Option, Result, Ok, Err}
use Rattle.tb_body.specs.declared.program.Program.{Program}
use Rattle.tb_headline.specs.Words.{Entry, HasOneText, IsIdleAtQuiet, IsTrace, Writes, WritesPrefix}
use Rattle.tb_headline.specs.Words.{IsSparse, log_text, start}
use Rattle.tb_load.specs.Loading.{HasProgram}
use Rattle.tb_log.specs.declared.entry.Input.{Input}
use Rattle.tb_sim.specs.Simulation.{IsSim, limits_of, sim_start}
use Rattle.tb_sim.specs.declared.ends.SimEnd.{SimEnd}
use Rattle.tb_sim.specs.declared.ends.SimEnd.TheVariants as sim
use Rattle.tb_top.specs.Sim.{IsFed, Request, origin_for}
use Rattle.tb_top.specs.declared.fault.Fault.{Fault}
use Rattle.tb_top.specs.declared.fault.Fault.TheVariants.{Limit, Out, NoMemory}
use Rattle.tb_top.specs.declared.status.Bound.TheVariants as bound

-- the content of the files, as far as they report it
abbrev pub Held : Type 0
Held = List ℕ → Option (List ℕ)

-- the simulation of the program, with these inputs and the requested limits, has this log and end
abbrev pub Simulates : Request → Program → List Input → List Entry → SimEnd → Type 0
Simulates request program inputs log last =
    let origin = origin_for request program in
    IsSim (limits_of request.steps origin) (sim_start (start origin) inputs) log last

-- What the log of a simulation states, if the simulation ends for the reason `last`.
pub record SimLog (held : Held) (request : Request) (last : SimEnd) (log : List Entry)
    : Type 0 where
  pub program : Program
  pub inputs : List Input
  pub the_script_is_accepted : HasProgram (held request.script) program
  pub these_are_the_inputs_of_the_feed : IsFed held request.feed inputs
  pub the_log_is_that_of_the_simulation : Simulates request program inputs log last
  pub the_simulation_has_no_other_log :
      (other : List Entry) (end : SimEnd) → Simulates request program inputs other end
      → (other ≡ log) × (end ≡ last)
  pub the_log_is_a_trace_of_the_script : IsTrace (start (origin_for request program)) log
  pub no_other_log_has_its_text : HasOneText log
  pub it_is_quiet_only_if_no_step_is_possible :
      IsIdleAtQuiet (start (origin_for request program)) log
  pub it_is_never_quiet_twice_in_a_row : IsSparse log

-- the text of the log of a simulation was written
abbrev pub WritesLog : Held → Request → SimEnd → Option (List ℕ) → Option (List ℕ) → Type 0
WritesLog held request last old new =
    (log : List Entry) × SimLog held request last log × Writes old new (log_text log)

-- a prefix of the text of the log of a simulation was written
abbrev pub WritesPart : Held → Request → Option (List ℕ) → Option (List ℕ) → Type 0
WritesPart held request old new =
    (last : SimEnd) × (log : List Entry) × SimLog held request last log
    × WritesPrefix old new (log_text log)

-- what holds at each answer of `sim`, for the bytes that the sink took before the call and after it
abbrev pub SimHeadline : {A : Type 0}
    → Held → Request → Option (List ℕ) → Option (List ℕ) → Result A Fault → Type 0
SimHeadline held request old new (Ok done) = WritesLog held request sim.Down old new
SimHeadline held request old new (Err (Limit bound.Steps)) =
    WritesLog held request sim.Steps old new
SimHeadline held request old new (Err (Limit bound.Events)) =
    WritesLog held request sim.Events old new
SimHeadline held request old new (Err Out) = WritesPart held request old new
SimHeadline held request old new (Err NoMemory) = (new ≡ old) ⊎ WritesPart held request old new
SimHeadline held request old new (Err fault) = new ≡ old
