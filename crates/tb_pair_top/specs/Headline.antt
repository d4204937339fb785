-- The headline of `pair`: each written log is a trace of its script, and the pipe adds nothing.
use Rattle.std.specs.Prelude.{◌≡◌, ◌⊎◌, ℕ, List, Result, Ok, Err}
use Rattle.tb_headline.specs.Words.{Bus, Entry, HasCutCause, Heard, IsDone, IsIdleAtQuiet}
use Rattle.tb_headline.specs.Words.{IsReadToEnd, IsShutDown, IsSparse, IsTrace, Took, replay}
use Rattle.tb_pair.specs.Clocks.{ClockPasses}
use Rattle.tb_pair.specs.Passing.{Passes}
use Rattle.tb_pair_run.specs.Outcomes.{Early, of_both}
use Rattle.tb_pair_run.specs.Views.{EachFromTwo}
use Rattle.tb_pair_run.specs.declared.ends.BusWhy.{BusWhy}
use Rattle.tb_pair_run.specs.declared.ends.BusWhy.TheVariants as bus_why
use Rattle.tb_pair_run.specs.declared.ends.PairWhy.{PairWhy}
use Rattle.tb_pair_run.specs.declared.ends.PairWhy.TheVariants as why
use Rattle.tb_pair_top.specs.Outcomes.{ArePut}
use Rattle.tb_pair_top.specs.PairCalls.{ClockFailed, HaveOneText, NothingHappened, PairCall, Side}
use Rattle.tb_pair_top.specs.PairCalls.{StartsWithScript, WroteBoth, WroteNothing, WrotePart}
use Rattle.tb_pair_top.specs.PairCalls.{first_of, second_of}
use Rattle.tb_pair_top.specs.declared.fault.PairFault.{PairFault}
use Rattle.tb_pair_top.specs.declared.fault.PairFault.TheVariants.{Clock, Crew, Limit, NoMemory}
use Rattle.tb_pair_top.specs.declared.fault.PairFault.TheVariants.{Out}

-- What the log of a bus states, except `missing` last items at most of each end of lanes 2 to 16.
pub record BusLog (missing : ℕ) (side : Side) (log : List Entry) : Type 0 where
  pub bus : Bus
  pub the_bus_starts_with_the_accepted_script : StartsWithScript side bus
  pub the_log_is_a_trace_of_the_bus : IsTrace bus log
  pub each_inlet_gave_its_inputs : EachFromTwo (Heard missing log) side.old side.new
  pub each_outlet_took_what_it_sends : EachFromTwo (Took missing log) side.old side.new
  pub each_cut_has_a_failure : EachFromTwo (HasCutCause log) side.old side.new
  pub it_is_quiet_only_if_no_step_is_possible : IsIdleAtQuiet bus log
  pub it_is_never_quiet_twice_in_a_row : IsSparse log

-- What the log of a complete bus states. No item is missing.
pub record CompleteBus (side : Side) (log : List Entry) : Type 0 where
  pub run : BusLog 0 side log
  pub each_inlet_is_read_to_its_end : EachFromTwo (IsReadToEnd log) side.old side.new
  pub the_bus_is_down_and_nothing_is_queued : IsDone (replay run.bus log)
  pub a_finish_halt_or_shutdown_was_logged : IsShutDown log

-- one bus, by the reason why it ended: it is complete, or it was interrupted
abbrev pub BusEnded : Side → List Entry → BusWhy → Type 0
BusEnded side log bus_why.Ended = CompleteBus side log
BusEnded side log _ = BusLog 1 side log

-- What both logs state, if the buses ended for these reasons. `Failed`: the clock failed.
pub record PairLogs (Failed : Type 0) (call : PairCall) (one other : List Entry)
    (its others : BusWhy) : Type 0 where
  pub the_first_bus_ended : BusEnded (first_of call) one its
  pub the_second_bus_ended : BusEnded (second_of call) other others
  pub no_other_two_logs_have_their_text : HaveOneText one other
  pub the_pipe_passes_on_what_the_first_bus_sends : Passes one other (Early its) (Early others)
  pub their_ticks_are_the_clocks :
      ClockPasses call.command.ticks one other call.old.outside.run.clock call.new.outside.run.clock
      Failed (Early its) (Early others)

-- both logs, if one of the buses or both ended early, for this reason
abbrev pub EndedEarly : BusWhy → PairCall → List Entry → List Entry → Type 0
EndedEarly it call one other =
    (its : BusWhy) × (others : BusWhy) × (of_both its others ≡ it)
    × PairLogs (ClockFailed call) call one other its others

-- both logs, by the reason why the pair ended
abbrev pub PairEnded : PairCall → PairWhy → List Entry → List Entry → Type 0
PairEnded call why.Ended one other = PairLogs ⊥ call one other bus_why.Ended bus_why.Ended
PairEnded call why.Clock one other =
    PairLogs (ClockFailed call) call one other bus_why.Ended bus_why.Ended × ClockFailed call
PairEnded call why.Events one other = EndedEarly bus_why.Events call one other
PairEnded call why.NoMemory one other = EndedEarly bus_why.NoMemory call one other
PairEnded call why.Crew one other = ⊥

-- the pair ended for this reason, and `Written` holds for its logs
abbrev pub Ended : PairCall → (List Entry → List Entry → Type 0) → PairWhy → Type 0
Ended call Written it =
    (one : List Entry) × (other : List Entry) × PairEnded call it one other × Written one other

-- the pair ended, and a prefix of the text of its logs was written
abbrev pub EndedWithPart : PairCall → Type 0
EndedWithPart call = (it : PairWhy) × ArePut it × Ended call (WrotePart call) it

-- what holds at each answer of `pair`
abbrev pub PairHeadline : {A : Type 0} → PairCall → Result A PairFault → Type 0
PairHeadline call (Ok done) = Ended call (WroteBoth call) why.Ended
PairHeadline call (Err Clock) = Ended call (WroteBoth call) why.Clock
PairHeadline call (Err Limit) = Ended call (WroteBoth call) why.Events
PairHeadline call (Err Out) = EndedWithPart call
PairHeadline call (Err Crew) = NothingHappened call
PairHeadline call (Err NoMemory) =
    (call.new.outside ≡ call.old.outside)
    ⊎ (Ended call (λ one other. WroteNothing call) why.NoMemory ⊎ EndedWithPart call)
PairHeadline call (Err fault) = call.new.outside ≡ call.old.outside
