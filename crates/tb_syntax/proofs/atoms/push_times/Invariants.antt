use Rattle.std.proofs.Common.{◌≡◌, ◌++◌, take}
use Rattle.std.specs.List.{flat_map}
use Rattle.tb_syntax.specs.Helpers.Canonical.{time_tokens}
use Rattle.tb_syntax.proofs.atoms.push_times.Given as goal

abbrev pub invariant-loop-time : goal.invariant-loop-time
invariant-loop-time l = l.into ≡ l.initial.into ++ flat_map time_tokens (take l.time-index l.times)
