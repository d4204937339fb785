-- What the workers of a pair have done before its buses are closed.
use Rattle.std.specs.Prelude.{◌≡◌, ◌≤◌, ℕ, List, [], ◌∷◌, length}
use Rattle.atomic_table.specs.Seated.{TableId}
use Rattle.tb_edge.specs.declared.inlet.Inlet.{Ghosts as InletTells}
use Rattle.tb_edge.specs.declared.outlet.Outlet.{Ghosts as OutletTells}
use Rattle.tb_edge.specs.declared.clock.Clock.{Ghosts as ClockTells}
use Rattle.tb_edge.specs.declared.crew.Crew.{Ghosts as CrewTells}
use Rattle.tb_bus.specs.declared.origin.Origin.{Origin}
use Rattle.tb_core.specs.Cores.{CoreState}
use Rattle.tb_lock.specs.Rights.{all_rights}
use Rattle.tb_lock.specs.Seats.{SeatView, most_seats}
use Rattle.tb_lock.specs.Calls.{Closes}
use Rattle.tb_run.specs.Seats.{SeesTrace}
use Rattle.tb_run.specs.Views.{LaneView, views}
use Rattle.tb_pair_run.specs.Outcomes.{PairOutcome, PairRuns, TellsFirst}
use Rattle.tb_pair_run.specs.Views.{IsUnused, PairView, pair_of}
use Rattle.tb_pair_run.specs.declared.ends.PairWhy.{PairWhy}

-- what is seen of lanes 2 to 16, whose ends stand in two lists a bus
abbrev pub ends_seen : {I T C P : Type 0} → InletTells I → OutletTells T → ClockTells C
    → CrewTells P → List I → List T → List I → List T → C → P → PairView
ends_seen inlet outlet clock crew inlets outlets others_inlets others_outlets c p =
    pair_of (views inlet.told inlet.faults outlet.told outlet.faults inlets outlets)
    (views inlet.told inlet.faults outlet.told outlet.faults others_inlets others_outlets)
    (clock.told c) (clock.faults c) (crew.faults p)

-- the ends of lanes 2 to 16 of both buses
abbrev pub AreFifteen : {A B : Type 0} → List A → List B → Type 0
AreFifteen ends others = (length ends ≡ 15) × (length others ≡ 15)

-- with lane 1 of each bus
abbrev pub with_first : LaneView → LaneView → PairView → PairView
with_first lane other view =
    pair_of (lane ∷ view.lanes) (other ∷ view.others) view.clock view.clock_faults view.crew_faults

-- a bus whose seats have become one again
pub record IsBack (begun last : SeatView) : Type 0 where
  pub bus : last.bus ≡ begun.bus
  pub origin : last.origin ≡ begun.origin
  pub rights : last.rights ≡ all_rights
  pub room : last.room ≡ most_seats
  pub sees : SeesTrace last

-- What comes of both buses, whose lanes from 2 on are seen, whatever is seen of the unused lane 1
-- of each.
pub record HasCome (most : ℕ) (old new : PairView) (begun last others_begun others_last : SeatView)
    (it : PairWhy) : Type 0 where
  pub first : IsBack begun last
  pub second : IsBack others_begun others_last
  -- once both seats have closed their buses
  pub outcome : (core others_core : CoreState) → Closes last core → Closes others_last others_core
      → length core.log ≤ core.origin.limit → length others_core.log ≤ others_core.origin.limit
      → (lane lane' other other' : LaneView) → IsUnused lane lane' → IsUnused other other'
      → PairOutcome most (with_first lane other old) (with_first lane' other' new) core others_core
      it
  pub tells : (core others_core : CoreState) → Closes last core → Closes others_last others_core
      → length core.log ≤ core.origin.limit → length others_core.log ≤ others_core.origin.limit
      → (lane lane' other other' : LaneView) → IsUnused lane lane' → IsUnused other other'
      → TellsFirst (with_first lane other old) (with_first lane' other' new) it

-- What both buses have done, whose lanes from 2 on are seen, whatever is seen of the unused lane 1
-- of each.
pub record RunsFromTwo (most : ℕ) (old new : PairView) (origin others_origin : Origin)
    (back others_back : CoreState) (it : PairWhy) : Type 0 where
  pub runs : (lane lane' other other' : LaneView) → IsUnused lane lane' → IsUnused other other'
      → PairRuns most (with_first lane other old) (with_first lane' other' new) origin others_origin
      back others_back it

-- Lists are there for what the workers of a bus leave: for the ends of its lanes, for seats, and
-- for why they ended.
pub record CanGather {I O S E : Type 0} (inlets : List I) (ins : ℕ) (outlets : List O) (outs : ℕ)
    (seats : List S) (room : ℕ) (ends : List E) (more : ℕ) : Type 0 where
  pub no_inlets : inlets ≡ []
  pub for_inlets : 15 ≤ ins
  pub no_outlets : outlets ≡ []
  pub for_outlets : 15 ≤ outs
  pub no_seats : seats ≡ []
  pub for_seats : 33 ≤ room
  pub no_ends : ends ≡ []
  pub for_ends : 31 ≤ more

-- the first seat of a bus, that of its pipe's worker and that of its ticker, and so many ends of
-- its lanes
pub record CanFinish (bus : TableId) (seat pipe tick : SeatView) (workers inlets outlets : ℕ) : Type
    0 where
  pub own : seat.bus ≡ bus
  pub pipe_own : pipe.bus ≡ bus
  pub tick_own : tick.bus ≡ bus
  pub workers_are : workers ≡ 31
  pub inlets_are : inlets ≡ 15
  pub outlets_are : outlets ≡ 15
