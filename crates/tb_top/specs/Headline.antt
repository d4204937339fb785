-- The headline of `run`: the written log is a trace of the script under just the inputs that came.
use Rattle.std.specs.Prelude.{◌⊎◌, ℕ, List, Result, Ok, Err}
use Rattle.tb_headline.specs.Words.{Bus, EachLane, EndsTicks, Entry, HasCutCause, HasOneText, Heard}
use Rattle.tb_headline.specs.Words.{IsDone, IsIdleAtQuiet, IsReadToEnd, IsShutDown, IsSparse}
use Rattle.tb_headline.specs.Words.{IsTickedToEnd, IsTrace, Ticked, Took, replay}
use Rattle.tb_top.specs.RunCalls.{ClockFailed, NothingHappened, RunCall, StartsWithScript}
use Rattle.tb_top.specs.RunCalls.{Wrote, WrotePrefix}
use Rattle.tb_top.specs.declared.fault.Fault.{Fault}
use Rattle.tb_top.specs.declared.fault.Fault.TheVariants.{Clock, Limit, Out, NoMemory}

-- What the log of a run states, except `missing` last items at most of each end and of the clock.
pub record RunLog (missing : ℕ) (Failed : Type 0) (call : RunCall) : Type 0 where
  pub bus : Bus
  pub log : List Entry
  pub the_bus_starts_with_the_accepted_script : StartsWithScript call bus
  pub the_log_is_a_trace_of_the_bus : IsTrace bus log
  pub no_other_log_has_its_text : HasOneText log
  pub each_inlet_gave_its_inputs : EachLane (Heard missing log) 1 call.old.lanes call.new.lanes
  pub each_outlet_took_what_it_sends : EachLane (Took missing log) 1 call.old.lanes call.new.lanes
  pub each_cut_has_a_failure : EachLane (HasCutCause log) 1 call.old.lanes call.new.lanes
  pub its_ticks_are_the_clocks : Ticked missing call.request.ticks log call.old.clock call.new.clock
  pub ticks_end_for_a_reason : EndsTicks call.request.ticks Failed log call.new.clock
  pub it_is_quiet_only_if_no_step_is_possible : IsIdleAtQuiet bus log
  pub it_is_never_quiet_twice_in_a_row : IsSparse log

-- What the log of a complete run states. No item is missing.
pub record CompleteRun (Failed : Type 0) (call : RunCall) : Type 0 where
  pub run : RunLog 0 Failed call
  pub the_text_of_the_log_was_written : Wrote call run.log
  pub each_inlet_is_read_to_its_end : EachLane (IsReadToEnd run.log) 1 call.old.lanes call.new.lanes
  pub the_clock_is_read_to_its_end : IsTickedToEnd call.request.ticks Failed run.log call.new.clock
  pub the_bus_is_down_and_nothing_is_queued : IsDone (replay run.bus run.log)
  pub a_finish_halt_or_shutdown_was_logged : IsShutDown run.log

-- what holds at each answer of `run`
abbrev pub RunHeadline : {A : Type 0} → RunCall → Result A Fault → Type 0
RunHeadline call (Ok done) = CompleteRun ⊥ call
RunHeadline call (Err Clock) = CompleteRun (ClockFailed call) call × ClockFailed call
RunHeadline call (Err (Limit bound)) = (run : RunLog 1 (ClockFailed call) call) × Wrote call run.log
RunHeadline call (Err Out) = (run : RunLog 1 (ClockFailed call) call) × WrotePrefix call run.log
RunHeadline call (Err NoMemory) =
    NothingHappened call ⊎ ((run : RunLog 1 (ClockFailed call) call) × WrotePrefix call run.log)
RunHeadline call (Err fault) = NothingHappened call
