use Rattle.std.proofs.Common.{◌≡◌, take, count_by}
use Rattle.tb_tools.specs.Lanes.{is_open}
use Rattle.tb_tools.proofs.bench.open_count.Given as goal

abbrev pub invariant-loop-lane : goal.invariant-loop-lane
invariant-loop-lane l = l.count ≡ count_by is_open (take l.lane-index l.lanes)
