use Rattle.std.proofs.Common.{◌≡◌, ◌++◌, take}
use Rattle.std.specs.List.{flat_map}
use Rattle.tb_types.specs.ExpectedSorts.{expected_sort_of, site_faults}
use Rattle.tb_types.specs.Scopes.{visible}
use Rattle.tb_types.proofs.atoms.push_others.Given as goal

abbrev pub invariant-loop-other : goal.invariant-loop-other
invariant-loop-other l = l.into ≡ l.initial.into ++ flat_map (site_faults l.names.script.now (visible l.scope) l.site.position (expected_sort_of l.site.expected_sort)) (take l.other-index l.others)
