use Rattle.std.proofs.Common.{◌≡◌, ◌-◌, take, drop}
use Rattle.tb_search.specs.Candidates.{candidates_from, scene_of, rows_of}
use Rattle.tb_bus.specs.Steps.{first}
use Rattle.tb_search.proofs.search.first_between.Given as goal

abbrev pub decreases-loop-at : goal.decreases-loop-at
decreases-loop-at g l = l.end - l.at

-- the remaining processes determine the result
abbrev pub invariant-loop-at : goal.invariant-loop-at
invariant-loop-at g l =
    let scene = scene_of l.searched.program.now.bodies l.searched.program.now.tools l.searched.bench.now (rows_of l.searched.all.now) l.searched.marks in
    let rows = take l.end (rows_of l.searched.all.now) in
    first (candidates_from scene l.at (drop l.at rows)) ≡ first (candidates_from scene l.start (drop l.start rows))
