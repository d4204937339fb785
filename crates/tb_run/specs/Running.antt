-- The requirements and results of the parts of a run, and the effects of its workers before the bus is closed.
use Rattle.std.specs.Prelude.{◌≡◌, ◌≤◌, ℕ, List, [], ◌++◌, length, drop, ◌+◌, ◌⊎◌, Option, ⊤}
use Rattle.std.specs.List.{AllZip}
use Rattle.atomic_table.specs.Seated.{TableId}
use Rattle.tb_edge.specs.Faults.{Rose}
use Rattle.tb_edge.specs.Sinks.{Writes, WritesPrefix}
use Rattle.tb_edge.specs.declared.crew.CrewFault.{CrewFault}
use Rattle.tb_edge.specs.declared.crew.CrewFault.TheVariants as fault
use Rattle.tb_log.specs.declared.entry.Entry.{Entry}
use Rattle.tb_log.specs.LogText.{log_text, log_text_from}
use Rattle.tb_core.specs.Cores.{CoreState}
use Rattle.tb_lock.specs.Rights.{all_rights}
use Rattle.tb_lock.specs.Seats.{SeatView, most_seats}
use Rattle.tb_lock.specs.Calls.{Closes}
use Rattle.tb_write.specs.Writers.{WriterView}
use Rattle.tb_run.specs.declared.ends.RunWhy.{RunWhy}
use Rattle.tb_run.specs.declared.ends.RunWhy.TheVariants.{Ended, Crew, Clock, Out as Sink, Events, NoMemory}
use Rattle.tb_run.specs.declared.worker.Work.{Work}
use Rattle.tb_run.specs.Clocks.{ClockRan, ClockStopped}
use Rattle.tb_run.specs.Jobs.{HasRight}
use Rattle.tb_run.specs.Outcomes.{LaneRan, LaneStopped, IsDone, TellsFirst}
use Rattle.tb_run.specs.Views.{OutsideView, EachLane}
use Rattle.tb_run.specs.Refusals.{WasRefused}
use Rattle.tb_run.specs.Seats.{SeesTrace}
use Rattle.tb_run.specs.Workers.{bus_of}

-- each seat belongs to this bus, and has the right for the work at the same place in the list
abbrev pub Fits : {I O : Type 0} → TableId → List SeatView → List (Work I O) → Type 0
Fits bus seats works = AllZip (λ seat work. (seat.bus ≡ bus) × HasRight seat work) seats works

-- a prefix of the log's entries was written, as many as the writer counts, and the sink's count of failures is unchanged
pub record IsPut (log : List Entry) (writer : WriterView) (put_old put_new : Option (List ℕ)) (faults_old faults_new : ℕ) : Type 0 where
  pub written : List Entry
  pub rest : List Entry
  pub is : log ≡ written ++ rest
  pub so_many : length written ≡ writer.written
  pub held : writer.held ≡ []
  pub put : Writes put_old put_new (log_text written)
  pub calm : faults_new ≡ faults_old

-- a prefix of the log's text was written
abbrev pub PutsPrefix : List Entry → OutsideView → OutsideView → Type 0
PutsPrefix log old new = WritesPrefix old.put new.put (log_text log)

-- the lanes and the clock after a run that may have been interrupted
pub record IsStopped (most : ℕ) (log : List Entry) (old new : OutsideView) : Type 0 where
  pub lanes : EachLane (LaneStopped log) 1 old.lanes new.lanes
  pub clock : ClockStopped log most old.clock new.clock (Rose old.clock_faults new.clock_faults)

-- the lanes, the clock and the bus after a complete run; `Failed` states that the clock failed, or is `⊥` if a failure isn't the reason
-- why ticks ended
pub record HasRun (most : ℕ) (Failed : Type 0) (seat : SeatView) (old new : OutsideView) : Type 0 where
  pub lanes : EachLane (LaneRan seat.seen) 1 old.lanes new.lanes
  pub clock : ClockRan seat.seen most old.clock new.clock Failed
  pub done : IsDone (bus_of seat)

-- the run is complete if the seat has closed the bus
abbrev pub RunsIfClosed : ℕ → Type 0 → SeatView → OutsideView → OutsideView → Type 0
RunsIfClosed most Failed seat old new = (core : CoreState) → Closes seat core → HasRun most Failed seat old new

-- a prefix of the entries that the seat has seen was written, as many as the writer counts
abbrev pub IsPutBy : SeatView → WriterView → OutsideView → OutsideView → Type 0
IsPutBy seat writer old new = IsPut seat.seen writer old.put new.put old.out_faults new.out_faults

-- the effects of the workers, by the reason why the run ends
abbrev pub ComesTo : ℕ → OutsideView → OutsideView → SeatView → WriterView → RunWhy → Type 0
ComesTo most old new seat writer Ended = IsPutBy seat writer old new × IsStopped most seat.seen old new × RunsIfClosed most ⊥ seat old new
ComesTo most old new seat writer Clock = IsPutBy seat writer old new × IsStopped most seat.seen old new × RunsIfClosed most (Rose old.clock_faults new.clock_faults) seat old new × Rose old.clock_faults new.clock_faults
ComesTo most old new seat writer Events = IsPutBy seat writer old new × IsStopped most seat.seen old new × WasRefused most old new seat.origin seat.seen
ComesTo most old new seat writer Sink = PutsPrefix seat.seen old new × IsStopped most seat.seen old new × Rose old.out_faults new.out_faults
ComesTo most old new seat writer NoMemory = PutsPrefix seat.seen old new × IsStopped most seat.seen old new
ComesTo most old new seat writer Crew = (new.put ≡ old.put) × (new.lanes ≡ old.lanes) × (new.clock ≡ old.clock) × (seat.seen ≡ []) × Rose old.crew_faults new.crew_faults

-- the reason why the run ends if the crew didn't do the jobs
abbrev pub why_by : {J : Type 0} → CrewFault J → RunWhy
why_by (fault.Failed jobs) = Crew
why_by (fault.NoMemory jobs) = NoMemory

-- the claim if the crew didn't do the jobs, by the reason: the crew failed and its count rose, or memory ran out
abbrev pub FailsFor : RunWhy → ℕ → ℕ → Type 0
FailsFor Crew faults_old faults_new = Rose faults_old faults_new
FailsFor NoMemory faults_old faults_new = ⊤
FailsFor Ended faults_old faults_new = ⊥
FailsFor Clock faults_old faults_new = ⊥
FailsFor Sink faults_old faults_new = ⊥
FailsFor Events faults_old faults_new = ⊥

-- The state of a run after its workers have ended, and after their seats were joined to this seat.
pub record HasCome (most : ℕ) (old new : OutsideView) (begun seat : SeatView) (writer : WriterView) (it : RunWhy) : Type 0 where
  pub bus : seat.bus ≡ begun.bus
  pub origin : seat.origin ≡ begun.origin
  pub rights : seat.rights ≡ all_rights
  pub room : seat.room ≡ most_seats
  pub sees : SeesTrace seat
  pub outcome : ComesTo most old new seat writer it
  -- this holds if the seat has closed the bus
  pub first : (core : CoreState) → Closes seat core → TellsFirst old new it

-- the requirement for writing the rest of a log, by the reason why the run ends: the writer holds nothing back, and counts no more entries
-- than the log has
abbrev pub GoesToRest : List Entry → WriterView → RunWhy → Type 0
GoesToRest log writer Ended = (writer.held ≡ []) × (writer.written ≤ length log)
GoesToRest log writer Clock = (writer.held ≡ []) × (writer.written ≤ length log)
GoesToRest log writer Events = (writer.held ≡ []) × (writer.written ≤ length log)
GoesToRest log writer Sink = ⊤
GoesToRest log writer NoMemory = ⊤
GoesToRest log writer Crew = ⊤

-- the text of the entries that the writer hasn't counted yet
abbrev pub rest_text : List Entry → WriterView → List ℕ
rest_text log writer = log_text_from (writer.written + 1) (drop writer.written log)

-- the rest of the log was written, or only a prefix of its text: the sink failed, or memory ran out
abbrev pub PutsRest : List Entry → WriterView → RunWhy → RunWhy → Option (List ℕ) → Option (List ℕ) → ℕ → ℕ → Type 0
PutsRest log writer why it put_old put_new faults_old faults_new =
    ((it ≡ why) × Writes put_old put_new (rest_text log writer) × (faults_new ≡ faults_old))
    ⊎ (((it ≡ Sink) × WritesPrefix put_old put_new (rest_text log writer) × Rose faults_old faults_new)
    ⊎ ((it ≡ NoMemory) × WritesPrefix put_old put_new (rest_text log writer)))

-- the rest of the log is written after a run that ended as `Ended`, `Clock` or `Events`; after any other end, nothing is written
abbrev pub IsAfterRest : List Entry → WriterView → RunWhy → RunWhy → Option (List ℕ) → Option (List ℕ) → ℕ → ℕ → Type 0
IsAfterRest log writer Ended it put_old put_new faults_old faults_new = PutsRest log writer Ended it put_old put_new faults_old faults_new
IsAfterRest log writer Clock it put_old put_new faults_old faults_new = PutsRest log writer Clock it put_old put_new faults_old faults_new
IsAfterRest log writer Events it put_old put_new faults_old faults_new = PutsRest log writer Events it put_old put_new faults_old faults_new
IsAfterRest log writer Sink it put_old put_new faults_old faults_new = (it ≡ Sink) × (put_new ≡ put_old) × (faults_new ≡ faults_old)
IsAfterRest log writer NoMemory it put_old put_new faults_old faults_new = (it ≡ NoMemory) × (put_new ≡ put_old) × (faults_new ≡ faults_old)
IsAfterRest log writer Crew it put_old put_new faults_old faults_new = (it ≡ Crew) × (put_new ≡ put_old) × (faults_new ≡ faults_old)
