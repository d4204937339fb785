use Rattle.std.proofs.Common.{◌≡◌, ◌++◌, take}
use Rattle.std.specs.List.{flat_map}
use Rattle.tb_types.specs.Atoms.{time_faults}
use Rattle.tb_types.specs.Scopes.{visible}
use Rattle.tb_types.proofs.atoms.push_times.Given as goal

abbrev pub invariant-loop-time : goal.invariant-loop-time
invariant-loop-time l = l.into ≡ l.initial.into ++ flat_map (time_faults l.names.script.now (visible l.scope)) (take l.time-index l.times)
