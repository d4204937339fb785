-- What is seen of the outside of two buses that run as a pair, before the call and after it.
use Rattle.std.specs.Prelude.{◌≡◌, ◌≤◌, ℕ, List, [], ◌∷◌, map, Option, Some, ⊤}
use Rattle.std.specs.declared.alloc.Global.{Global}
use Rattle.std.specs.declared.dyn_box.DynBox.{DynBox}
use Rattle.tb_edge.specs.Ends.{ClockView}
use Rattle.tb_edge.specs.declared.lane_pair.LanePair.{LanePair}
use Rattle.tb_edge.specs.declared.inlet.Inlet.{Ghosts as InletTells}
use Rattle.tb_edge.specs.declared.outlet.Outlet.{Ghosts as OutletTells}
use Rattle.tb_edge.specs.declared.clock.Clock.{Ghosts as ClockTells}
use Rattle.tb_edge.specs.declared.crew.Crew.{Ghosts as CrewTells}
use Rattle.tb_run.specs.Views.{LaneView, lane_view, AllTell, EachLane, SomeLane}

-- the lanes of the first bus and those of the second, the one clock, and the crew
pub record PairView : Type 0 where
  pub lanes : List LaneView
  pub others : List LaneView
  pub clock : Option ClockView
  pub clock_faults : ℕ
  pub crew_faults : ℕ

abbrev pub pair_of : List LaneView → List LaneView → Option ClockView → ℕ → ℕ → PairView
pair_of lanes others clock clock_faults crew_faults =
    record {
      lanes = lanes;
      others = others;
      clock = clock;
      clock_faults = clock_faults;
      crew_faults = crew_faults;
    }

-- What is seen of lanes with two boxed ends, of a clock and of a crew: each tells it by its trait.
abbrev pub pair_seen : {X Y C P : Type 0} {A : X → Type 0} {B : Y → Type 0}
    → InletTells (DynBox X Global A) → OutletTells (DynBox Y Global B) → ClockTells C → CrewTells P
    → List (LanePair X Y A B) → List (LanePair X Y A B) → C → P → PairView
pair_seen inlet outlet clock crew lanes others c p =
    pair_of
    (map
    (λ pair. lane_view inlet.told inlet.faults outlet.told outlet.faults pair.inlet pair.outlet)
    lanes)
    (map
    (λ pair. lane_view inlet.told inlet.faults outlet.told outlet.faults pair.inlet pair.outlet)
    others)
    (clock.told c) (clock.faults c) (crew.faults p)

-- Lane 1 of a bus of a pair belongs to the pipe, so the two ends that the caller has given for it
-- aren't used: they gave and took nothing. The outlet is closed, which may raise its count of
-- faults.
pub record IsUnused (old new : LaneView) : Type 0 where
  pub gave : new.gave ≡ old.gave
  pub inlet_faults : new.inlet_faults ≡ old.inlet_faults
  pub took : new.took ≡ old.took
  pub outlet_faults : old.outlet_faults ≤ new.outlet_faults

-- this holds of each lane from 2 on, and the ends at place 1 aren't used
abbrev pub EachFromTwo : (ℕ → LaneView → LaneView → Type 0) → List LaneView → List LaneView → Type 0
EachFromTwo P (old ∷ olds) (new ∷ news) = IsUnused old new × EachLane P 2 olds news
EachFromTwo P [] [] = ⊥
EachFromTwo P [] (new ∷ news) = ⊥
EachFromTwo P (old ∷ olds) [] = ⊥

-- this holds of some lane from 2 on
abbrev pub SomeFromTwo : (ℕ → LaneView → LaneView → Type 0) → List LaneView → List LaneView → Type 0
SomeFromTwo P (old ∷ olds) (new ∷ news) = SomeLane P 2 olds news
SomeFromTwo P [] [] = ⊥
SomeFromTwo P [] (new ∷ news) = ⊥
SomeFromTwo P (old ∷ olds) [] = ⊥

-- a lane that gave and took nothing
abbrev pub IsSame : ℕ → LaneView → LaneView → Type 0
IsSame lane old new = new ≡ old

-- each lane from 2 on tells what its inlet gave and what its outlet took
abbrev pub TellFromTwo : List LaneView → Type 0
TellFromTwo [] = ⊤
TellFromTwo (lane ∷ lanes) = AllTell lanes

-- the lanes of both buses from 2 on and the clock tell what they gave and took
pub record PairTells (view : PairView) : Type 0 where
  pub lanes : TellFromTwo view.lanes
  pub others : TellFromTwo view.others
  pub clock : (given : ClockView) × (view.clock ≡ Some given)
