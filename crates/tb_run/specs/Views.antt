-- The reported values of the environment of a run, before the call and after it.
use Rattle.std.specs.Prelude.{◌≡◌, ◌+◌, ℕ, List, [], ◌∷◌, map, Option, Some, ◌⊎◌, ⊤}
use Rattle.std.specs.declared.alloc.Global.{Global}
use Rattle.std.specs.declared.dyn_box.DynBox.{DynBox}
use Rattle.tb_edge.specs.Ends.{InletView, ClockView}
use Rattle.tb_edge.specs.declared.given.Taken.{Taken}
use Rattle.tb_edge.specs.declared.lane_pair.LanePair.{LanePair}
use Rattle.tb_edge.specs.declared.inlet.Inlet.{Ghosts as InletTells}
use Rattle.tb_edge.specs.declared.outlet.Outlet.{Ghosts as OutletTells}
use Rattle.tb_edge.specs.declared.clock.Clock.{Ghosts as ClockTells}
use Rattle.tb_edge.specs.declared.crew.Crew.{Ghosts as CrewTells}
use Rattle.tb_edge.specs.declared.sink.Sink.{Ghosts as SinkTells}

-- the view of a lane's ends: the items that its inlet gave and its count of failures, the items that its outlet took and its count of
-- failures
pub record LaneView : Type 0 where
  pub gave : Option InletView
  pub inlet_faults : ℕ
  pub took : Option (List Taken)
  pub outlet_faults : ℕ

-- the view of a lane with these two ends
abbrev pub lane_view : {I O : Type 0} → (I → Option InletView) → (I → ℕ) → (O → Option (List Taken)) → (O → ℕ) → I → O → LaneView
lane_view gave fails took faults inlet outlet = record { gave = gave inlet; inlet_faults = fails inlet; took = took outlet; outlet_faults = faults outlet }

-- the views of the lanes with these ends, in order
abbrev pub views : {I O : Type 0} → (I → Option InletView) → (I → ℕ) → (O → Option (List Taken)) → (O → ℕ) → List I → List O → List LaneView
views gave fails took faults [] outlets = []
views gave fails took faults (inlet ∷ inlets) [] = []
views gave fails took faults (inlet ∷ inlets) (outlet ∷ outlets) = lane_view gave fails took faults inlet outlet ∷ views gave fails took faults inlets outlets

-- the view of the environment, before the call or after it
pub record OutsideView : Type 0 where
  pub lanes : List LaneView
  pub clock : Option ClockView
  pub clock_faults : ℕ
  pub crew_faults : ℕ
  pub put : Option (List ℕ)
  pub out_faults : ℕ

abbrev pub outside_of : List LaneView → Option ClockView → ℕ → ℕ → Option (List ℕ) → ℕ → OutsideView
outside_of lanes clock clock_faults crew_faults put out_faults = record { lanes = lanes; clock = clock; clock_faults = clock_faults; crew_faults = crew_faults; put = put; out_faults = out_faults }

-- The reported values of lanes with boxed ends, of a clock, of a crew, and of the sink of the log. Each reports its values through its
-- trait.
abbrev pub outside_seen : {X Y C P O : Type 0} {A : X → Type 0} {B : Y → Type 0} → InletTells (DynBox X Global A) → OutletTells (DynBox Y Global B) → ClockTells C → CrewTells P → SinkTells O →
    List (LanePair X Y A B) → C → P → O → OutsideView
outside_seen inlet outlet clock crew sink lanes c p o =
    outside_of (map (λ pair. lane_view inlet.told inlet.faults outlet.told outlet.faults pair.inlet pair.outlet) lanes) (clock.told c) (clock.faults c) (crew.faults p) (sink.taken o) (sink.faults o)

-- the reported values if the ends of the lanes are in two lists
abbrev pub ends_seen : {I T C P O : Type 0} → InletTells I → OutletTells T → ClockTells C → CrewTells P → SinkTells O → List I → List T → C → P → O → OutsideView
ends_seen inlet outlet clock crew sink inlets outlets c p o =
    outside_of (views inlet.told inlet.faults outlet.told outlet.faults inlets outlets) (clock.told c) (clock.faults c) (crew.faults p) (sink.taken o) (sink.faults o)

-- `P` holds for each lane, with its views before and after; the lanes are numbered from `lane` on
abbrev pub EachLane : {A : Type 0} → (ℕ → A → A → Type 0) → ℕ → List A → List A → Type 0
EachLane P lane [] [] = ⊤
EachLane P lane (old ∷ olds) (new ∷ news) = P lane old new × EachLane P (lane + 1) olds news
EachLane P lane [] (new ∷ news) = ⊥
EachLane P lane (old ∷ olds) [] = ⊥

-- `P` holds for at least one lane, with its views before and after; the lanes are numbered from `lane` on
abbrev pub SomeLane : {A : Type 0} → (ℕ → A → A → Type 0) → ℕ → List A → List A → Type 0
SomeLane P lane [] news = ⊥
SomeLane P lane (old ∷ olds) [] = ⊥
SomeLane P lane (old ∷ olds) (new ∷ news) = P lane old new ⊎ SomeLane P (lane + 1) olds news

-- each of these lanes reports the items that its inlet gave and its outlet took
abbrev pub AllTell : List LaneView → Type 0
AllTell [] = ⊤
AllTell (lane ∷ lanes) = ((given : InletView) × (lane.gave ≡ Some given)) × ((taken : List Taken) × (lane.took ≡ Some taken)) × AllTell lanes

-- the lanes and the clock report what they gave and took
pub record Tells (outside : OutsideView) : Type 0 where
  pub lanes : AllTell outside.lanes
  pub clock : (given : ClockView) × (outside.clock ≡ Some given)
