-- The reported values of the environment, before a call and after it.
use Rattle.std.specs.Prelude.{◌≡◌, ℕ, List, Option}
use Rattle.std.specs.declared.alloc.Global.{Global}
use Rattle.std.specs.declared.dyn_box.DynBox.{DynBox}
use Rattle.tb_edge.specs.declared.files.Files.{Ghosts as FilesTell}
use Rattle.tb_edge.specs.declared.inlet.Inlet.{Ghosts as InletTells}
use Rattle.tb_edge.specs.declared.outlet.Outlet.{Ghosts as OutletTells}
use Rattle.tb_edge.specs.declared.clock.Clock.{Ghosts as ClockTells}
use Rattle.tb_edge.specs.declared.crew.Crew.{Ghosts as CrewTells}
use Rattle.tb_edge.specs.declared.sink.Sink.{Ghosts as SinkTells}
use Rattle.tb_edge.specs.declared.lane_pair.LanePair.{LanePair}
use Rattle.tb_run.specs.Views.{OutsideView, outside_seen}

pub record Seen : Type 0 where
  -- the content of the files, as far as they report it
  pub held : List ℕ → Option (List ℕ)
  -- the names of the requested files
  pub asked : List (List ℕ)
  pub file_faults : ℕ
  -- the lanes, the clock, the crew and the sink of the log
  pub outside : OutsideView

-- The reported values of files, lanes with boxed ends, a clock, a crew and the sink of the log.
-- Each reports its values through its trait.
abbrev pub all_seen : {F X Y C P O : Type 0} {A : X → Type 0} {B : Y → Type 0} → FilesTell F
    → InletTells (DynBox X Global A) → OutletTells (DynBox Y Global B) → ClockTells C → CrewTells P
    → SinkTells O →
    F → List (LanePair X Y A B) → C → P → O → Seen
all_seen files inlet outlet clock crew sink f lanes c p o =
    record {
      held =
          files.held f;
      asked = files.asked f;
      file_faults = files.faults f;
      outside = outside_seen inlet outlet clock crew sink lanes c p o;
    }

-- no lane gave or took anything, the clock gave no tick, and the counts of failures of lanes, clock
-- and crew are unchanged
pub record IsLeft (old new : OutsideView) : Type 0 where
  pub lanes : new.lanes ≡ old.lanes
  pub clock : new.clock ≡ old.clock
  pub clock_faults : new.clock_faults ≡ old.clock_faults
  pub crew_faults : new.crew_faults ≡ old.crew_faults
