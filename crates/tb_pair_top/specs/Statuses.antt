-- The status with which the program ends for each error, and the exit status for each status.
use Rattle.std.specs.Prelude.{ℕ}
use Rattle.tb_pair_top.specs.declared.status.PairStatus.{PairStatus}
use Rattle.tb_pair_top.specs.declared.status.PairStatus.TheVariants as status
use Rattle.tb_pair_top.specs.declared.status.PairEdge.TheVariants as edge
use Rattle.tb_pair_top.specs.declared.fault.PairFault.{PairFault}
use Rattle.tb_pair_top.specs.declared.fault.PairFault.TheVariants.{Script, Words, File, Out, Clock}
use Rattle.tb_pair_top.specs.declared.fault.PairFault.TheVariants.{Crew, Limit, NoMemory}

abbrev pub status_of : PairFault → PairStatus
status_of (Script fault) = status.Script fault
status_of (Words fault) = status.Words fault
status_of File = status.Outside edge.File
status_of Out = status.Outside edge.Out
status_of Clock = status.Outside edge.Clock
status_of Crew = status.Outside edge.Crew
status_of Limit = status.Limit
status_of NoMemory = status.NoMemory

abbrev pub status_number : PairStatus → ℕ
status_number status.Ended = 0
status_number (status.Script fault) = 1
status_number (status.Words fault) = 2
status_number (status.Outside edge) = 3
status_number status.Limit = 4
status_number status.NoMemory = 5
