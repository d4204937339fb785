use Rattle.std.proofs.Common.{◌≡◌, ◌++◌, map, take}
use Rattle.tb_syntax.specs.Helpers.Canonical.{formal_tokens, parted}
use Rattle.tb_syntax.proofs.definitions.push_parted_formals.Given as goal

abbrev pub invariant-loop-position : goal.invariant-loop-position
invariant-loop-position l = l.into ≡ l.initial.into ++ parted (map formal_tokens (take l.position l.formals))
