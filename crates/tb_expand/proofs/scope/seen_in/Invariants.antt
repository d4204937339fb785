use Rattle.std.proofs.Common.{◌≡◌, drop}
use Rattle.tb_expand.specs.Scopes.{seen_as}
use Rattle.tb_expand.proofs.scope.seen_in.Given as goal

abbrev pub invariant-loop-seen : goal.invariant-loop-seen
invariant-loop-seen l = seen_as l.name (drop l.seen-index l.block) ≡ seen_as l.name l.block
