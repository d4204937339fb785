-- The claims about a run that found the log full: which call was rejected, and why a worker made this call.
use Rattle.std.specs.Prelude.{◌≡◌, ◌+◌, ◌⊎◌, ℕ, Bool, true, false, List, [], ◌∷◌, ◌++◌, map, filter, Option}
use Rattle.tb_edge.specs.Faults.{Rose}
use Rattle.tb_edge.specs.Ends.{ClockView, and_given, and_taken, and_ticked}
use Rattle.tb_edge.specs.declared.given.Given.{Given}
use Rattle.tb_tool_line.specs.Sending.{taken_of}
use Rattle.tb_log.specs.declared.entry.Input.{Input}
use Rattle.tb_log.specs.declared.entry.Input.TheVariants.{Tick, NoTicks, Cut}
use Rattle.tb_log.specs.declared.entry.Out.{Out}
use Rattle.tb_log.specs.declared.entry.Entry.{Entry}
use Rattle.tb_log.specs.Lanes.{inputs, sent, ticks}
use Rattle.tb_bus.specs.declared.origin.Origin.{Origin}
use Rattle.tb_core.specs.Cores.{CoreState, Call, HandIn, MakeStep, HandOut, is_full}
use Rattle.tb_core.specs.Full.{MayCall}
use Rattle.tb_run.specs.Clocks.{WhyNoTicks, is_time}
use Rattle.tb_run.specs.Dropping.{AreLetIn}
use Rattle.tb_run.specs.Views.{LaneView, OutsideView, SomeLane}
use Rattle.tb_run.specs.Workers.{AreLines, AreTicks, IsInputFor}

-- at some place of the log, there was no capacity for the entry of this call
pub record HadNoRoom (call : Call) (origin : Origin) (log : List Entry) : Type 0 where
  pub core : CoreState
  pub may : MayCall call
  pub origin_is : core.origin ≡ origin
  pub rest : List Entry
  pub is : log ≡ core.log ++ rest
  pub full : is_full core call ≡ true

-- The rejected call is the input for the last item that an inlet gave. The log lacks this item, and the inlet isn't over.
pub record InputRefused (origin : Origin) (log : List Entry) (lane : ℕ) (old new : LaneView) : Type 0 where
  pub fed : List Given
  pub last : Given
  pub gave : new.gave ≡ and_given old.gave (fed ++ last ∷ []) false
  pub lines : AreLines lane fed (inputs log lane)
  pub input : Input
  pub stands : IsInputFor lane last input
  pub no_room : HadNoRoom (HandIn input) origin log

-- The rejected call is a `cut`: the outlet failed to take the last item that the log sends, and lacks this item.
pub record CutRefused (origin : Origin) (log : List Entry) (lane : ℕ) (old new : LaneView) : Type 0 where
  pub put : List Out
  pub last : Out
  pub handed : sent log lane ≡ put ++ last ∷ []
  pub took : new.took ≡ and_taken old.took (map taken_of put)
  pub failed : Rose old.outlet_faults new.outlet_faults
  pub no_room : HadNoRoom (HandIn (Cut lane)) origin log

-- the rejected call of a lane: the input for the last item of its inlet, the call that takes a queued item, or the `cut` after a failure
-- of its outlet
abbrev pub LaneRefused : Origin → List Entry → ℕ → LaneView → LaneView → Type 0
LaneRefused origin log lane old new = InputRefused origin log lane old new ⊎ (HadNoRoom (HandOut lane) origin log ⊎ CutRefused origin log lane old new)

-- The rejected call is a tick: the clock gave one tick more than the log has, and hasn't ended.
pub record TickRefused (origin : Origin) (log : List Entry) (old new : Option ClockView) : Type 0 where
  pub told : new ≡ and_ticked old (ticks log + 1) false
  pub no_room : HadNoRoom (HandIn Tick) origin log

-- The rejected call is the end of ticks, and ticks have a reason to end. The log's entries about time are ticks alone, and none of these
-- was dropped because the bus had shut down.
pub record NoTicksRefused (origin : Origin) (log : List Entry) (most : ℕ) (old new : Option ClockView) (Failed : Type 0) : Type 0 where
  pub ended : Bool
  pub told : new ≡ and_ticked old (ticks log) ended
  pub why : WhyNoTicks log most Failed ended
  pub time : AreTicks (filter is_time log)
  pub let_in : AreLetIn (filter is_time log)
  pub no_room : HadNoRoom (HandIn NoTicks) origin log

-- A call of a run was rejected because the log was full: a call of a lane, an input of the clock, or a step.
abbrev pub WasRefused : ℕ → OutsideView → OutsideView → Origin → List Entry → Type 0
WasRefused most old new origin log =
    SomeLane (LaneRefused origin log) 1 old.lanes new.lanes
    ⊎ (TickRefused origin log old.clock new.clock
    ⊎ (NoTicksRefused origin log most old.clock new.clock (Rose old.clock_faults new.clock_faults) ⊎ HadNoRoom MakeStep origin log))
