use Rattle.std.proofs.Common.{◌≡◌, ◌++◌, take}
use Rattle.std.specs.List.{flat_map}
use Rattle.tb_types.specs.Definitions.{formal_faults}
use Rattle.tb_types.proofs.definitions.push_formal_sorts.Given as goal

abbrev pub invariant-loop-formal : goal.invariant-loop-formal
invariant-loop-formal l = l.into ≡ l.initial.into ++ flat_map (formal_faults l.names.script.now.tools) (take l.formal-index l.formals)
