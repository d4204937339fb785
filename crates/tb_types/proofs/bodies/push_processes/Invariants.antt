use Rattle.std.proofs.Common.{◌≡◌, ◌++◌, take}
use Rattle.std.specs.List.{flat_map}
use Rattle.tb_types.specs.Bodies.{process_faults}
use Rattle.tb_types.proofs.bodies.push_processes.Given as goal

abbrev pub invariant-loop-process : goal.invariant-loop-process
invariant-loop-process l = l.into ≡ l.initial.into ++ flat_map (process_faults l.names.script.now) (take l.process-index l.processes)
