-- The status that the program ends with for each error, and the exit status for each status.
use Rattle.std.specs.Prelude.{ℕ, List, [], ◌∷◌, ◌++◌, codes}
use Rattle.tb_top.specs.declared.status.Status.{Status}
use Rattle.tb_top.specs.declared.status.Status.TheVariants as status
use Rattle.tb_top.specs.declared.status.Edge.TheVariants as edge
use Rattle.tb_top.specs.declared.fault.Fault.{Fault}
use Rattle.tb_top.specs.declared.fault.Fault.TheVariants.{Script, Feed, Words, File, Out, Clock}
use Rattle.tb_top.specs.declared.fault.Fault.TheVariants.{Crew, Limit, NoMemory, Log, Stranger}

abbrev pub status_of : Fault → Status
status_of (Script fault) = status.Script fault
status_of (Feed fault) = status.Feed fault
status_of (Words fault) = status.Words fault
status_of File = status.Outside edge.File
status_of Out = status.Outside edge.Out
status_of Clock = status.Outside edge.Clock
status_of Crew = status.Outside edge.Crew
status_of (Limit bound) = status.Limit bound
status_of NoMemory = status.NoMemory
status_of (Log wrong) = status.Log wrong
status_of Stranger = status.Stranger

abbrev pub status_number : Status → ℕ
status_number status.Ended = 0
status_number (status.Script fault) = 1
status_number (status.Feed fault) = 1
status_number (status.Words fault) = 2
status_number (status.Outside edge) = 3
status_number (status.Limit bound) = 4
status_number status.NoMemory = 5
status_number (status.Log wrong) = 6
status_number status.Stranger = 7
