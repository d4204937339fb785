use Rattle.std.proofs.Common.{◌≡◌, length}
use Rattle.tb_chart.proofs.scene.first_lanes.Given as goal

abbrev pub invariant-loop-index : goal.invariant-loop-index
invariant-loop-index l = length l.lanes.items ≡ l.index
