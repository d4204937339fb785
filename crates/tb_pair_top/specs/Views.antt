-- The reported values of the environment of a pair, before a call and after it.
use Rattle.std.specs.Prelude.{ℕ, List, Option}
use Rattle.std.specs.declared.alloc.Global.{Global}
use Rattle.std.specs.declared.dyn_box.DynBox.{DynBox}
use Rattle.tb_edge.specs.declared.files.Files.{Ghosts as FilesTell}
use Rattle.tb_edge.specs.declared.inlet.Inlet.{Ghosts as InletTells}
use Rattle.tb_edge.specs.declared.outlet.Outlet.{Ghosts as OutletTells}
use Rattle.tb_edge.specs.declared.clock.Clock.{Ghosts as ClockTells}
use Rattle.tb_edge.specs.declared.crew.Crew.{Ghosts as CrewTells}
use Rattle.tb_edge.specs.declared.sink.Sink.{Ghosts as SinkTells}
use Rattle.tb_edge.specs.declared.lane_pair.LanePair.{LanePair}
use Rattle.tb_pair_run.specs.Views.{PairView, pair_seen}

-- the lanes, the clock and the crew of a run; the bytes that the sink of the two logs took, if it
-- reports them, and its count of failures
pub record Outside : Type 0 where
  pub run : PairView
  pub put : Option (List ℕ)
  pub out_faults : ℕ

pub record Seen : Type 0 where
  -- the content of the files, if they report it
  pub held : List ℕ → Option (List ℕ)
  -- the names of the requested files
  pub asked : List (List ℕ)
  pub file_faults : ℕ
  pub outside : Outside

-- The reported values of the lanes of both buses, which have boxed ends, of a clock, of a crew, and
-- of the sink of the logs. Each reports its values through its trait.
abbrev pub outside_seen : {X Y C P O : Type 0} {A : X → Type 0} {B : Y → Type 0}
    → InletTells (DynBox X Global A) → OutletTells (DynBox Y Global B) → ClockTells C → CrewTells P
    → SinkTells O →
    List (LanePair X Y A B) → List (LanePair X Y A B) → C → P → O → Outside
outside_seen inlet outlet clock crew sink lanes others c p o =
    record {
      run =
          pair_seen inlet outlet clock crew lanes others c p;
      put = sink.taken o;
      out_faults = sink.faults o;
    }

-- these reported values, and the reported values of files
abbrev pub all_seen : {F X Y C P O : Type 0} {A : X → Type 0} {B : Y → Type 0} → FilesTell F
    → InletTells (DynBox X Global A) → OutletTells (DynBox Y Global B) → ClockTells C → CrewTells P
    → SinkTells O →
    F → List (LanePair X Y A B) → List (LanePair X Y A B) → C → P → O → Seen
all_seen files inlet outlet clock crew sink f lanes others c p o =
    record {
      held =
          files.held f;
      asked = files.asked f;
      file_faults = files.faults f;
      outside = outside_seen inlet outlet clock crew sink lanes others c p o;
    }
