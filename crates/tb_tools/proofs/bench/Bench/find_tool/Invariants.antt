use Rattle.std.proofs.Common.{◌≡◌, ◌+◌, drop}
use Rattle.std.specs.List.{position_from}
use Rattle.tb_tools.specs.Finding.{has_tool}
use Rattle.tb_tools.proofs.bench.Bench.find_tool.Given as goal

-- the lanes that are left decide
abbrev pub invariant-loop-index : goal.invariant-loop-index
invariant-loop-index l =
    position_from (has_tool l.t) (l.index + 1) (drop l.index l.self-inside.lanes.items) ≡ position_from (has_tool l.t) 1 l.self-inside.lanes.items
