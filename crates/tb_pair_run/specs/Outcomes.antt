-- What two buses that ran as a pair have done once they end: over the logs of the cores that are
-- handed back, and what the outside gave and took in the call.
use Rattle.std.specs.Prelude.{◌≡◌, ◌≤◌, ℕ, List, [], length, IsTrue, ⊤}
use Rattle.std.specs.List.{list_all}
use Rattle.tb_edge.specs.Faults.{Rose}
use Rattle.tb_log.specs.Proper.{is_proper_entry}
use Rattle.tb_bus.specs.declared.origin.Origin.{Origin}
use Rattle.tb_bus.specs.Buses.{start}
use Rattle.tb_bus.specs.Traces.{replay}
use Rattle.tb_bus.specs.Commands.{largest_command}
use Rattle.tb_core.specs.Cores.{CoreState}
use Rattle.tb_core.specs.Full.{IsAtLimit}
use Rattle.tb_run.specs.Outcomes.{IsDone, IsRunOf, LaneRan, LaneStopped}
use Rattle.tb_run.specs.Views.{LaneView}
use Rattle.tb_pair.specs.Clocks.{ClockPasses}
use Rattle.tb_pair.specs.Passing.{Passes}
use Rattle.tb_pair_run.specs.Refusals.{BusRefused, BusRun, ReaderRefused, WriterRefused}
use Rattle.tb_pair_run.specs.Views.{EachFromTwo, IsSame, PairView}
use Rattle.tb_pair_run.specs.declared.ends.BusWhy.{BusWhy}
use Rattle.tb_pair_run.specs.declared.ends.BusWhy.TheVariants as bus
use Rattle.tb_pair_run.specs.declared.ends.PairWhy.{PairWhy}
use Rattle.tb_pair_run.specs.declared.ends.PairWhy.TheVariants.{Ended, Crew, Clock, Events}
use Rattle.tb_pair_run.specs.declared.ends.PairWhy.TheVariants.{NoMemory}

-- The log of one of the two cores.
pub record IsLogOf (origin : Origin) (back : CoreState) : Type 0 where
  -- the core is still that of the same script and commands
  pub origin_is : back.origin ≡ origin
  -- the log is a trace of it, which says quiet once where nothing comes between
  pub history : IsRunOf back.origin back.log
  -- its entries are proper: so it is the only log with its text
  pub proper : IsTrue (list_all is_proper_entry back.log)
  -- it has at most as many entries as it may have
  pub within : length back.log ≤ back.origin.limit

-- How one of the buses ends, by its own reason: its lanes 2 to 16 before and after, and its core;
-- `Refused` says which call was refused.
abbrev pub BusOutcome : Type 0 → List LaneView → List LaneView → CoreState → BusWhy → Type 0
-- to its end: it is down, and nothing is left to be handed out
BusOutcome Refused old new back bus.Ended =
    EachFromTwo (LaneRan back.log) old new × IsDone (replay (start back.origin) back.log)
-- it was stopped, since its log was full: a call on it was refused for that; and the log has all
-- entries that it may have, or it is so large that an entry might not fit
BusOutcome Refused old new back bus.Events =
    EachFromTwo (LaneStopped back.log) old new
    × IsAtLimit (largest_command back.origin) back.origin back.log × Refused
-- it was stopped, since memory ran out
BusOutcome Refused old new back bus.NoMemory = EachFromTwo (LaneStopped back.log) old new

-- what an early end of a worker of a bus shows, by the reason of the bus: where it went to its end,
-- none had one
abbrev pub Early : BusWhy → Type 0
Early bus.Ended = ⊥
Early bus.Events = ⊤
Early bus.NoMemory = ⊤

-- the run of the first bus of a pair
abbrev pub first_run : PairView → PairView → CoreState → BusRun
first_run old new back = record {
  lanes_old = old.lanes;
  lanes_new = new.lanes;
  clock_old = old.clock;
  clock_new = new.clock;
  origin = back.origin;
  log = back.log;
}

-- the run of the second bus of a pair
abbrev pub second_run : PairView → PairView → CoreState → BusRun
second_run old new back = record {
  lanes_old = old.others;
  lanes_new = new.others;
  clock_old = old.clock;
  clock_new = new.clock;
  origin = back.origin;
  log = back.log;
}

-- the clock failed
abbrev pub ClockFailed : PairView → PairView → Type 0
ClockFailed old new = Rose old.clock_faults new.clock_faults

-- a call on the first bus was rejected because its log was full
abbrev pub FirstRefused : ℕ → PairView → PairView → CoreState → Type 0
FirstRefused most old new back =
    BusRefused (WriterRefused back.origin back.log) (ClockFailed old new) most
    (first_run old new back)

-- a call on the second bus was rejected because its log was full
abbrev pub SecondRefused : ℕ → PairView → PairView → CoreState → CoreState → Type 0
SecondRefused most old new back others_back =
    BusRefused (ReaderRefused back.log others_back.origin others_back.log) (ClockFailed old new)
    most
    (second_run old new others_back)

-- Both buses, which ran beside each other and ended for these reasons, each for its own; what the
-- pipe passed on between them; and the clock. `Failed` says what a failure of the clock shows.
pub record BothRan (most : ℕ) (old new : PairView) (back others_back : CoreState)
    (why others_why : BusWhy) (Failed : Type 0) : Type 0 where
  pub first : BusOutcome (FirstRefused most old new back) old.lanes new.lanes back why
  pub second :
      BusOutcome (SecondRefused most old new back others_back) old.others new.others others_back
      others_why
  pub pipe : Passes back.log others_back.log (Early why) (Early others_why)
  pub clock :
      ClockPasses most back.log others_back.log old.clock new.clock Failed (Early why)
      (Early others_why)

-- the reason of both, from that of each: of several reasons the first, in the order memory, limit,
-- end
abbrev pub of_both : BusWhy → BusWhy → BusWhy
of_both bus.NoMemory others_why = bus.NoMemory
of_both bus.Events bus.NoMemory = bus.NoMemory
of_both bus.Events bus.Events = bus.Events
of_both bus.Events bus.Ended = bus.Events
of_both bus.Ended others_why = others_why

-- Both buses ended, one of them or both for this reason. A bus that finds its log full or no memory
-- is stopped alone: the other one ended for a reason of its own.
pub record SomeStopped (most : ℕ) (old new : PairView) (back others_back : CoreState) (it : BusWhy)
    : Type 0 where
  pub why : BusWhy
  pub others_why : BusWhy
  pub is : of_both why others_why ≡ it
  pub ran :
      BothRan most old new back others_back why others_why (Rose old.clock_faults new.clock_faults)

-- nothing was logged, given or taken
pub record NothingDone (old new : PairView) (back others_back : CoreState) : Type 0 where
  pub log : back.log ≡ []
  pub others_log : others_back.log ≡ []
  pub lanes : EachFromTwo IsSame old.lanes new.lanes
  pub others : EachFromTwo IsSame old.others new.others
  pub clock : new.clock ≡ old.clock

-- How a pair ends, by its answer: the number of ticks that there may be, what was to be seen of the
-- outside before and after, and the cores of the first and the second bus.
abbrev pub PairOutcome : ℕ → PairView → PairView → CoreState → CoreState → PairWhy → Type 0
-- both to their end, and no failure of the clock is why its ticks ended
PairOutcome most old new back others_back Ended =
    BothRan most old new back others_back bus.Ended bus.Ended ⊥
-- both to their end, though the clock failed
PairOutcome most old new back others_back Clock =
    BothRan most old new back others_back bus.Ended bus.Ended
    (Rose old.clock_faults new.clock_faults)
    × Rose old.clock_faults new.clock_faults
-- the log of a bus was full, and memory ran out at neither
PairOutcome most old new back others_back Events =
    SomeStopped most old new back others_back bus.Events
-- memory ran out
PairOutcome most old new back others_back NoMemory =
    SomeStopped most old new back others_back bus.NoMemory
-- there was no crew
PairOutcome most old new back others_back Crew =
    NothingDone old new back others_back × Rose old.crew_faults new.crew_faults

-- What the counts of faults of the crew and the clock say of an answer. Of several reasons the
-- first is told, in this order: memory, the crew, the limit of a log, the clock. So the count of
-- each that comes before the answer is as it was.
abbrev pub TellsFirst : PairView → PairView → PairWhy → Type 0
TellsFirst old new NoMemory = ⊤
-- the clock wasn't asked
TellsFirst old new Crew =
    Rose old.crew_faults new.crew_faults × (new.clock_faults ≡ old.clock_faults)
TellsFirst old new Events = new.crew_faults ≡ old.crew_faults
TellsFirst old new Clock =
    (new.crew_faults ≡ old.crew_faults) × Rose old.clock_faults new.clock_faults
-- neither the crew nor the clock failed
TellsFirst old new Ended =
    (new.crew_faults ≡ old.crew_faults) × (new.clock_faults ≡ old.clock_faults)

-- `run_pair`, of two cores that were started there
pub record PairRuns (most : ℕ) (old new : PairView) (origin others_origin : Origin)
    (back others_back : CoreState) (it : PairWhy) : Type 0 where
  pub first : IsLogOf origin back
  pub second : IsLogOf others_origin others_back
  pub outcome : PairOutcome most old new back others_back it
  pub tells : TellsFirst old new it
