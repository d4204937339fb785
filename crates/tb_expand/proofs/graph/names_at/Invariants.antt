use Rattle.std.proofs.Common.{◌≡◌, take}
use Rattle.tb_expand.specs.Helpers.CallGraphs.{names_of}
use Rattle.tb_expand.proofs.graph.names_at.Given as goal

-- the names so far
abbrev pub invariant-loop-position : goal.invariant-loop-position
invariant-loop-position l = l.names ≡ names_of l.script (take l.position-index l.positions)
