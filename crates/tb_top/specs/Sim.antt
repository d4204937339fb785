-- The answers of `sim`, and the bytes that it writes.
use Rattle.std.specs.Prelude.{◌≡◌, ◌≤◌, ◌⊎◌, ℕ, List, [], Option, Some, None, IsTrue, Result, Ok}
use Rattle.std.specs.Prelude.{Err, length}
use Rattle.std.specs.List.{list_all}
use Rattle.tb_edge.specs.Sinks.{Writes, WritesPrefix}
use Rattle.tb_body.specs.declared.program.Program.{Program}
use Rattle.tb_bus.specs.declared.origin.Origin.{Origin}
use Rattle.tb_bus.specs.Buses.{origin_of, start}
use Rattle.tb_bus.specs.Traces.{IsTrace}
use Rattle.tb_feed.specs.Feeds.{IsFeedOf, IsFirstBad}
use Rattle.tb_feed.specs.declared.fault.FeedFault.{FeedFault}
use Rattle.tb_feed.specs.declared.fault.FeedFault.TheVariants as feed_fault
use Rattle.tb_log.specs.LogText.{log_text}
use Rattle.tb_log.specs.Proper.{is_proper_entry}
use Rattle.tb_log.specs.declared.entry.Input.{Input}
use Rattle.tb_log.specs.declared.entry.Entry.{Entry}
use Rattle.tb_sim.specs.Simulation.{IsSim, limits_of, sim_start}
use Rattle.tb_sim.specs.declared.ends.SimEnd.{SimEnd}
use Rattle.tb_sim.specs.declared.ends.SimEnd.TheVariants as sim
use Rattle.tb_load.specs.Loading.{HasProgram, IsAccepted, IsLoaded, IsTooLong}
use Rattle.tb_top.specs.Loading.{IsUnloaded}
use Rattle.tb_top.specs.declared.fault.Fault.{Fault}
use Rattle.tb_top.specs.declared.fault.Fault.TheVariants.{Script, Feed, File, Out, Limit, NoMemory}
use Rattle.tb_top.specs.declared.status.Bound.TheVariants as bound

-- The arguments of a simulation: the names of the script's file and of the feed's file, if there is
-- one; the commands that are connected; and the greatest numbers of steps and of entries of the
-- log.
pub record Request : Type 0 where
  pub script : List ℕ
  pub feed : Option (List ℕ)
  pub connects : List (List ℕ)
  pub steps : ℕ
  pub events : ℕ

-- These are the inputs of the feed: the inputs in the file, or none if no file is named.
abbrev pub IsFed : (List ℕ → Option (List ℕ)) → Option (List ℕ) → List Input → Type 0
IsFed held None inputs = inputs ≡ []
IsFed held (Some name) inputs =
    (bytes : List ℕ) × IsLoaded (held name) bytes × IsFeedOf bytes inputs

-- The claims of an error of a feed about its file.
abbrev pub IsFeedRefused : (List ℕ → Option (List ℕ)) → Option (List ℕ) → FeedFault → Type 0
IsFeedRefused held None fault = ⊥
-- the line of this number is the first bad line
IsFeedRefused held (Some name) (feed_fault.Line number) =
    (bytes : List ℕ) × IsLoaded (held name) bytes × IsFirstBad bytes number
-- the file has this number of bytes, which is too large
IsFeedRefused held (Some name) (feed_fault.TooLong len) = IsTooLong (held name) len
-- out of memory is no error of the feed
IsFeedRefused held (Some name) feed_fault.NoMemory = ⊥

-- the start of the simulation of a program
abbrev pub origin_for : Request → Program → Origin
origin_for request program = origin_of program request.connects request.events

-- The script has a program, these are the inputs, and this log is the log of the program's
-- simulation, which ends for the reason `last`. The log is a trace of the program. Its entries are
-- well-formed, so it is the only log with its text.
pub record IsSimOf (held : List ℕ → Option (List ℕ)) (request : Request) (log : List Entry)
    (last : SimEnd) : Type 0 where
  pub program : Program
  pub has : HasProgram (held request.script) program
  pub inputs : List Input
  pub fed : IsFed held request.feed inputs
  pub simulated :
      IsSim (limits_of request.steps (origin_for request program))
      (sim_start (start (origin_for request program)) inputs) log last
  pub trace : IsTrace (start (origin_for request program)) log
  pub proper : IsTrue (list_all is_proper_entry log)
  -- the log has at most the requested number of entries
  pub within : length log ≤ request.events

-- the whole text of the log of a simulation was written, and the simulation ends for the reason
-- `last`
abbrev pub PutsLog : (List ℕ → Option (List ℕ)) → Request → Option (List ℕ) → Option (List ℕ)
    → SimEnd → Type 0
PutsLog held request old new last =
    (log : List Entry) × IsSimOf held request log last × Writes old new (log_text log)

-- a prefix of the text of the log of a simulation was written
abbrev pub PutsPrefix : (List ℕ → Option (List ℕ)) → Request → Option (List ℕ) → Option (List ℕ)
    → Type 0
PutsPrefix held request old new =
    (log : List Entry) × (last : SimEnd) × IsSimOf held request log last
    × WritesPrefix old new (log_text log)

-- the claims about `sim` by its answer, for the reported content of the files, the arguments, and
-- the bytes of the sink before and after the call
abbrev pub SimOutcome : {A : Type 0} → (List ℕ → Option (List ℕ)) → Request → Option (List ℕ)
    → Option (List ℕ) → Result A Fault → Type 0
-- the bus shut down
SimOutcome held request old new (Ok done) = PutsLog held request old new sim.Down
-- the limit of steps was reached, and another step was possible
SimOutcome held request old new (Err (Limit bound.Steps)) = PutsLog held request old new sim.Steps
-- the log had no capacity for the next entry
SimOutcome held request old new (Err (Limit bound.Events)) = PutsLog held request old new sim.Events
-- the sink failed
SimOutcome held request old new (Err Out) = PutsPrefix held request old new
-- the script was rejected
SimOutcome held request old new (Err (Script fault)) =
    IsUnloaded (held request.script) (Script fault) × (new ≡ old)
-- the script is accepted, and the feed was rejected
SimOutcome held request old new (Err (Feed fault)) =
    IsAccepted (held request.script) × IsFeedRefused held request.feed fault × (new ≡ old)
-- a file could not be read
SimOutcome held request old new (Err File) = new ≡ old
-- memory ran out, before the log was written or while it was
SimOutcome held request old new (Err NoMemory) = (new ≡ old) ⊎ PutsPrefix held request old new
-- no other answer comes
SimOutcome held request old new _ = ⊥
