use Rattle.std.proofs.Common.{◌≡◌, ◌+◌, drop}
use Rattle.std.specs.List.{position_from}
use Rattle.tb_tools.specs.Finding.{has_out}
use Rattle.tb_tools.proofs.bench.Bench.first_out.Given as goal

-- the lanes that are left decide
abbrev pub invariant-loop-index : goal.invariant-loop-index
invariant-loop-index l =
    position_from has_out (l.index + 1) (drop l.index l.self-inside.lanes.items) ≡ position_from has_out 1 l.self-inside.lanes.items
