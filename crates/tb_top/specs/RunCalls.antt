-- A call of `run`, as the headline speaks of it.
use Rattle.std.specs.Prelude.{◌≡◌, ℕ, List, Option}
use Rattle.tb_body.specs.declared.program.Program.{Program}
use Rattle.tb_headline.specs.Words.{Bus, Entry, OutsideView, Rose, Writes, WritesPrefix}
use Rattle.tb_headline.specs.Words.{log_text, origin_of, start}
use Rattle.tb_load.specs.Loading.{HasProgram}
use Rattle.tb_top.specs.Run.{RunRequest}

-- the reported content of the script's file, the arguments, and the views of the environment before
-- and after the call
pub record RunCall : Type 0 where
  pub told : Option (List ℕ)
  pub request : RunRequest
  pub old : OutsideView
  pub new : OutsideView

-- The script is accepted, and this is the bus with which its program starts.
pub record StartsWithScript (call : RunCall) (bus : Bus) : Type 0 where
  pub program : Program
  pub accepted : HasProgram call.told program
  pub starts : bus ≡ start (origin_of program call.request.connects call.request.events)

-- the text of this log was written, and nothing else
abbrev pub Wrote : RunCall → List Entry → Type 0
Wrote call log = Writes call.old.put call.new.put (log_text log)

-- a prefix of the text of this log was written, and nothing else
abbrev pub WrotePrefix : RunCall → List Entry → Type 0
WrotePrefix call log = WritesPrefix call.old.put call.new.put (log_text log)

-- the clock failed
abbrev pub ClockFailed : RunCall → Type 0
ClockFailed call = Rose call.old.clock_faults call.new.clock_faults

-- nothing was written, given, or taken
pub record NothingHappened (call : RunCall) : Type 0 where
  pub put : call.new.put ≡ call.old.put
  pub lanes : call.new.lanes ≡ call.old.lanes
  pub clock : call.new.clock ≡ call.old.clock
