use Rattle.std.proofs.Common.{◌≡◌, ◌<◌, ℕ, false, get_or}
use Rattle.tb_chart.specs.declared.row.Seat.{Seat}
use Rattle.tb_chart.specs.Lifelines.{is_tool}
use Rattle.tb_chart.proofs.lines.tool_place.Given as goal

-- none of the lifelines so far is that of the tool
abbrev pub invariant-loop-index : goal.invariant-loop-index
invariant-loop-index l = (k : ℕ) → k < l.index → (d : Seat) → is_tool l.seat (get_or l.tools k d) ≡ false
