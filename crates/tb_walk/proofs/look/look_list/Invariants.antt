use Rattle.std.proofs.Common.{◌≡◌, ◌++◌, drop, flat_map, map}
use Rattle.tb_process_steps.specs.Processes.{fresh}
use Rattle.tb_walk.specs.Helpers.Sights.{entry_sightings, sighted, looking}
use Rattle.tb_walk.proofs.look.look_list.Given as goal

-- what was found, and then what is seen by the entries that are left
abbrev pub invariant-loop-entry : goal.invariant-loop-entry
invariant-loop-entry l =
    map (sighted l.base) l.found ++ flat_map (entry_sightings (fresh l.code.body.tree) (looking l.code.body.atoms l.clock) l.base) (drop l.entry-index l.list)
    ≡ map (sighted l.base) l.fn.found ++ flat_map (entry_sightings (fresh l.code.body.tree) (looking l.code.body.atoms l.clock) l.base) l.list
