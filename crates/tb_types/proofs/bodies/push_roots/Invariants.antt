use Rattle.std.proofs.Common.{◌≡◌, ◌++◌, take}
use Rattle.std.specs.List.{flat_map}
use Rattle.tb_types.specs.Bodies.{root_faults}
use Rattle.tb_types.proofs.bodies.push_roots.Given as goal

abbrev pub invariant-loop-root : goal.invariant-loop-root
invariant-loop-root l = l.into ≡ l.initial.into ++ flat_map (root_faults l.names.script.now) (take l.root-index l.roots)
