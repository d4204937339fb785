use Rattle.std.proofs.Common.{◌≡◌, ◌++◌, take}
use Rattle.std.specs.List.{flat_map}
use Rattle.tb_types.specs.Definitions.{var_faults}
use Rattle.tb_types.proofs.definitions.push_var_sorts.Given as goal

abbrev pub invariant-loop-var : goal.invariant-loop-var
invariant-loop-var l = l.into ≡ l.initial.into ++ flat_map (var_faults l.names.script.now.tools) (take l.var-index l.vars)
