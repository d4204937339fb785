use Rattle.std.proofs.Common.{◌≡◌, ◌+◌, drop, None, IsTrue}
use Rattle.std.specs.Option.{ForSome}
use Rattle.tb_log.specs.Shapes.{IsLane}
use Rattle.tb_tools.specs.Lanes.{is_stage_at}
use Rattle.tb_tools.specs.Finding.{smallest_from}
use Rattle.tb_tools.proofs.bench.Bench.first_at.Given as goal

-- the best so far and the lanes that are left decide
abbrev pub invariant-loop-index : goal.invariant-loop-index
invariant-loop-index l =
    (smallest_from l.tool l.stage l.best (l.index + 1) (drop l.index l.self-inside.lanes.items) ≡ smallest_from l.tool l.stage None 1 l.self-inside.lanes.items)
    × ForSome l.best (λ found. IsLane found.lane × IsTrue (is_stage_at l.stage found.lane l.self))
