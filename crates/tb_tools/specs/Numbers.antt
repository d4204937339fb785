-- The numbering of the tools of a bench, and the changes of only one lane.
use Rattle.std.specs.Prelude.{◌≡◌, ◌≢◌, ℕ, ◌<◌, ◌≤◌, Some}
use Rattle.tb_log.specs.Shapes.{IsLane}
use Rattle.tb_tools.specs.Lanes.{Tool, BenchState, lane_at, tool_at}

-- the change leaves each other lane unchanged
abbrev pub OthersStay : (ℕ → BenchState → BenchState) → Type 0
OthersStay change = (lane other : ℕ) (bench : BenchState) → IsLane lane → IsLane other → other ≢ lane → lane_at other (change lane bench) ≡ lane_at other bench

-- tools are numbered from 1 on, below the number of the next tool, and no two lanes have tools with the same number
pub record IsNumbered (bench : BenchState) : Type 0 where
  pub first : 1 ≤ bench.next_tool
  pub given : (lane : ℕ) (tool : Tool) → tool_at lane bench ≡ Some tool → (1 ≤ tool.number) × (tool.number < bench.next_tool)
  pub once : (lane other : ℕ) (tool another : Tool) → IsLane lane → IsLane other → tool_at lane bench ≡ Some tool → tool_at other bench ≡ Some another → tool.number ≡ another.number → lane ≡ other

-- the change keeps the numbering of the tools
abbrev pub KeepsNumbers : (BenchState → BenchState) → Type 0
KeepsNumbers change = (bench : BenchState) → IsNumbered bench → IsNumbered (change bench)
