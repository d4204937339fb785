-- The effects of a run, by the log of the core that it returns, and by the items that the environment gave and took in the call.
use Rattle.std.specs.Prelude.{◌≡◌, ◌≤◌, ◌⊎◌, ℕ, Bool, true, ◌||◌, List, [], ◌++◌, length, map, None, is_some, IsTrue, ⊤}
use Rattle.std.specs.List.{list_all}
use Rattle.tb_edge.specs.Faults.{Rose}
use Rattle.tb_edge.specs.Sinks.{Writes, WritesPrefix}
use Rattle.tb_edge.specs.Ends.{and_given, and_taken}
use Rattle.tb_edge.specs.declared.given.Given.{Given}
use Rattle.tb_log.specs.declared.entry.Input.{Input}
use Rattle.tb_log.specs.declared.entry.Out.{Out}
use Rattle.tb_log.specs.declared.entry.Entry.{Entry}
use Rattle.tb_log.specs.Shapes.{IsLane}
use Rattle.tb_log.specs.Lanes.{inputs, given_on, sent}
use Rattle.tb_log.specs.LogText.{log_text}
use Rattle.tb_log.specs.Proper.{is_proper_entry}
use Rattle.tb_bus.specs.declared.origin.Origin.{Origin}
use Rattle.tb_bus.specs.Buses.{Bus, start}
use Rattle.tb_bus.specs.Traces.{IsTrace, replay}
use Rattle.tb_tools.specs.Finding.{next_out}
use Rattle.tb_bus.specs.Commands.{largest_command}
use Rattle.tb_core.specs.Cores.{CoreState}
use Rattle.tb_core.specs.Full.{IsAtLimit}
use Rattle.tb_tool_line.specs.Sending.{taken_of}
use Rattle.tb_lock.specs.Histories.{IsSparse}
use Rattle.tb_run.specs.Dropping.{HasDropped}
use Rattle.tb_run.specs.Clocks.{ClockRan, ClockStopped}
use Rattle.tb_run.specs.Refusals.{WasRefused}
use Rattle.tb_run.specs.Views.{EachLane, LaneView, OutsideView}
use Rattle.tb_run.specs.Workers.{AreLines, CountsTo, cut_count, was_over}
use Rattle.tb_run.specs.declared.ends.RunWhy.{RunWhy}
use Rattle.tb_run.specs.declared.ends.RunWhy.TheVariants.{Ended, Crew, Clock, Out as Sink, Events, NoMemory}

-- an input that the inlet of this lane gives: a line, or the end of a tool's output
abbrev pub is_of : ℕ → Input → Bool
is_of lane it = is_some (given_on lane it)

-- A lane after a complete run: the log has exactly the lines and ends that the inlet gave, and the outlet took exactly the items that the
-- log sends and doesn't cut off.
pub record LaneRan (log : List Entry) (lane : ℕ) (old new : LaneView) : Type 0 where
  pub given : List Given
  pub over : Bool
  pub gave : new.gave ≡ and_given old.gave given over
  pub lines : AreLines lane given (inputs log lane)
  -- the inlet is over, or an input of the lane was dropped because the bus had shut down
  pub end : (over ≡ true) ⊎ HasDropped (is_of lane) log
  pub took : new.took ≡ and_taken old.took (map taken_of (sent log lane))
  pub cuts : CountsTo old.outlet_faults new.outlet_faults (cut_count lane log)

-- A lane after an interrupted run: the log may lack the last item of the inlet. The outlet may lack the last item that the log sends, if
-- the outlet failed to take it.
pub record LaneStopped (log : List Entry) (lane : ℕ) (old new : LaneView) : Type 0 where
  pub fed : List Given
  pub last : List Given
  pub over : Bool
  pub gave : new.gave ≡ and_given old.gave (fed ++ last) over
  pub lines : AreLines lane fed (inputs log lane)
  pub one : length last ≤ 1
  -- if the inlet is over, in the call or before it, the log lacks none of its items
  pub whole : (over || was_over old.gave) ≡ true → last ≡ []
  pub put : List Out
  pub lost : List Out
  pub handed : sent log lane ≡ put ++ lost
  pub took : new.took ≡ and_taken old.took (map taken_of put)
  pub one_lost : length lost ≤ 1
  pub failed : (lost ≡ []) ⊎ Rose old.outlet_faults new.outlet_faults
  pub cuts : CountsTo old.outlet_faults new.outlet_faults (cut_count lane log)

-- the bus has shut down, and no item is queued on any lane
pub record IsDone (bus : Bus) : Type 0 where
  pub down : bus.down ≡ true
  pub empty : (lane : ℕ) → IsLane lane → next_out lane bus.bench ≡ None

-- a trace of the origin without two successive `quiet` entries
pub record IsRunOf (origin : Origin) (log : List Entry) : Type 0 where
  pub trace : IsTrace (start origin) log
  pub sparse : IsSparse log

-- The effects of a run, by its answer: on the views of the environment before and after the call, and on the returned core. The number is
-- the limit of ticks.
abbrev pub RunOutcome : ℕ → OutsideView → OutsideView → CoreState → RunWhy → Type 0
-- a complete run; a failure of the clock isn't the reason why ticks ended
RunOutcome most old new back Ended =
    Writes old.put new.put (log_text back.log) × EachLane (LaneRan back.log) 1 old.lanes new.lanes
    × ClockRan back.log most old.clock new.clock ⊥ × IsDone (replay (start back.origin) back.log)
-- a complete run; the clock failed
RunOutcome most old new back Clock =
    Writes old.put new.put (log_text back.log) × EachLane (LaneRan back.log) 1 old.lanes new.lanes
    × ClockRan back.log most old.clock new.clock (Rose old.clock_faults new.clock_faults) × IsDone (replay (start back.origin) back.log)
    × Rose old.clock_faults new.clock_faults
-- a call was rejected because the log was full; the log has its greatest number of entries, or is so large that an entry might not fit
RunOutcome most old new back Events =
    Writes old.put new.put (log_text back.log) × EachLane (LaneStopped back.log) 1 old.lanes new.lanes
    × ClockStopped back.log most old.clock new.clock (Rose old.clock_faults new.clock_faults) × IsAtLimit (largest_command back.origin) back.origin back.log
    × WasRefused most old new back.origin back.log
-- the sink failed
RunOutcome most old new back Sink =
    WritesPrefix old.put new.put (log_text back.log) × EachLane (LaneStopped back.log) 1 old.lanes new.lanes
    × ClockStopped back.log most old.clock new.clock (Rose old.clock_faults new.clock_faults) × Rose old.out_faults new.out_faults
-- memory ran out
RunOutcome most old new back NoMemory =
    WritesPrefix old.put new.put (log_text back.log) × EachLane (LaneStopped back.log) 1 old.lanes new.lanes
    × ClockStopped back.log most old.clock new.clock (Rose old.clock_faults new.clock_faults)
-- there was no crew: nothing was logged, given, taken or written
RunOutcome most old new back Crew =
    (new.put ≡ old.put) × (new.lanes ≡ old.lanes) × (new.clock ≡ old.clock) × (back.log ≡ []) × Rose old.crew_faults new.crew_faults

-- The counts of failures of the crew, the sink and the clock, by the answer. If several reasons apply, the first is reported, in this
-- order: memory, the crew, the sink, the limit of the log, the clock. So the count of each reason before the answer in this order is
-- unchanged. Memory and the limit have no count. At `Clock` and `Ended`, the rest of the outcome shows that the log had capacity for
-- each entry.
abbrev pub TellsFirst : OutsideView → OutsideView → RunWhy → Type 0
TellsFirst old new NoMemory = ⊤
-- the counts of the sink and the clock are unchanged too
TellsFirst old new Crew = Rose old.crew_faults new.crew_faults × (new.out_faults ≡ old.out_faults) × (new.clock_faults ≡ old.clock_faults)
TellsFirst old new Sink = (new.crew_faults ≡ old.crew_faults) × Rose old.out_faults new.out_faults
TellsFirst old new Events = (new.crew_faults ≡ old.crew_faults) × (new.out_faults ≡ old.out_faults)
TellsFirst old new Clock = (new.crew_faults ≡ old.crew_faults) × (new.out_faults ≡ old.out_faults) × Rose old.clock_faults new.clock_faults
-- the counts of the crew, the sink and the clock are unchanged
TellsFirst old new Ended = (new.crew_faults ≡ old.crew_faults) × (new.out_faults ≡ old.out_faults) × (new.clock_faults ≡ old.clock_faults)

-- the result of `run`, for a core with this origin
pub record Runs (most : ℕ) (old new : OutsideView) (origin : Origin) (back : CoreState) (it : RunWhy) : Type 0 where
  pub origin_is : back.origin ≡ origin
  pub history : IsRunOf back.origin back.log
  -- the entries are well-formed: so the log is the only one with its text
  pub proper : IsTrue (list_all is_proper_entry back.log)
  -- the log has no more entries than its limit
  pub within : length back.log ≤ back.origin.limit
  pub outcome : RunOutcome most old new back it
  pub first : TellsFirst old new it
