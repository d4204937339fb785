-- The effect of an input that a worker of a pipe delivers.
use Rattle.std.specs.Prelude.{◌≡◌, Bool, true, false, [], ◌∷◌, Option, Some, None, Result, Ok, Err}
use Rattle.tb_log.specs.declared.entry.Input.{Input}
use Rattle.tb_log.specs.declared.entry.Reply.{Reply}
use Rattle.tb_log.specs.declared.entry.Reply.TheVariants.{Dropped}
use Rattle.tb_log.specs.declared.entry.Why.TheVariants as why
use Rattle.tb_log.specs.declared.entry.Entry.TheVariants.{Fed}
use Rattle.tb_core.specs.Cores.{HandIn}
use Rattle.tb_lock.specs.Seats.{SeatView}
use Rattle.tb_run.specs.declared.ends.WorkEnd.{WorkEnd}
use Rattle.tb_run.specs.declared.ends.WorkEnd.TheVariants as end
use Rattle.tb_run.specs.Dropping.{is_down}
use Rattle.tb_run.specs.Seats.{Adds, FoundFull, Marks, SameMarks}
use Rattle.tb_pair.specs.Workers.{IsEarly, PipeEnds}

-- a worker that ends with nothing of its own; `Refused` says for which call the log had no capacity
pub record EndsAs (Refused : Type 0) (old new : SeatView) (it : WorkEnd) : Type 0 where
  pub adds : Adds old new []
  pub marks : Marks old new it
  pub ends : PipeEnds Refused new it

-- whether the bus hasn't shut down, or why a worker that delivers an input ends
abbrev pub settled : Option WorkEnd → Result Bool WorkEnd
settled None = Ok true
settled (Some end.Over) = Err end.Over
settled (Some end.Down) = Ok false
settled (Some end.Stopped) = Err end.Stopped
settled (Some end.Full) = Err end.Full
settled (Some end.Failed) = Err end.Failed
settled (Some end.NoMemory) = Err end.NoMemory

-- if the input isn't refused, the worker goes on, also after the bus has shut down
abbrev pub Settles : Input → SeatView → SeatView → Result Bool WorkEnd → Type 0
Settles it old new (Ok up) = (reply : Reply) × Adds old new (Fed it reply ∷ []) × SameMarks old new × (up ≡ false → reply ≡ Dropped why.Down) × (up ≡ true → is_down reply ≡ false)
Settles it old new (Err refused) = EndsAs (FoundFull (HandIn it) old new) old new refused × IsEarly refused
