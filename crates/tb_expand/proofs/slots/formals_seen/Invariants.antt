use Rattle.std.proofs.Common.{◌≡◌, ◌++◌, drop}
use Rattle.tb_expand.specs.Scopes.{formals_seen}
use Rattle.tb_expand.proofs.slots.formals_seen.Given as goal

abbrev pub invariant-loop-formal : goal.invariant-loop-formal
invariant-loop-formal l = l.block ++ formals_seen l.next (drop l.formal-index l.formals) ≡ formals_seen l.slot l.formals
