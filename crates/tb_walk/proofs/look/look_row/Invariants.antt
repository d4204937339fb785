use Rattle.std.proofs.Common.{◌≡◌, ◌++◌, drop, map}
use Rattle.tb_process_steps.specs.Processes.{fresh}
use Rattle.tb_walk.specs.Helpers.Sights.{sighted, row_sightings}
use Rattle.tb_walk.proofs.look.look_row.Given as goal

-- what was found, and then what the branches that are left may do
abbrev pub invariant-loop-at : goal.invariant-loop-at
invariant-loop-at l =
    map (sighted l.base) l.found ++ row_sightings (fresh l.code.body.tree) l.code.body.atoms l.now l.ticks l.base l.at (drop l.at l.row)
    ≡ map (sighted l.base) l.fn.found ++ row_sightings (fresh l.code.body.tree) l.code.body.atoms l.now l.ticks l.base 0 l.row
