use Rattle.std.proofs.Common.{◌≡◌, drop}
use Rattle.tb_search.specs.Candidates.{candidates_among, scene_of, row_of, rows_of}
use Rattle.tb_bus.specs.Steps.{first}
use Rattle.tb_search.proofs.search.first_of.Given as goal

-- the remaining actions determine the result
abbrev pub invariant-loop-index : goal.invariant-loop-index
invariant-loop-index g l =
    let scene = scene_of l.searched.program.now.bodies l.searched.program.now.tools l.searched.bench.now (rows_of l.searched.all.now) l.searched.marks in
    first (candidates_among scene l.at (row_of l.living) l.index (drop l.index l.living.ready.items)) ≡ first (candidates_among scene l.at (row_of l.living) 0 l.living.ready.items)
