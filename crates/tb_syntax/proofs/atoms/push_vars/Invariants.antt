use Rattle.std.proofs.Common.{◌≡◌, ◌++◌, map, take}
use Rattle.tb_syntax.specs.Helpers.Canonical.{var_tokens, parted}
use Rattle.tb_syntax.proofs.atoms.push_vars.Given as goal

abbrev pub invariant-loop-position : goal.invariant-loop-position
invariant-loop-position l = l.into ≡ l.initial.into ++ parted (map var_tokens (take l.position l.vars))
