use Rattle.std.proofs.Common.{◌≡◌, ◌++◌, map, take}
use Rattle.tb_syntax.specs.Helpers.Canonical.{expr_tokens, parted}
use Rattle.tb_syntax.proofs.exprs.+exprs.Given as goal

abbrev pub invariant-push_parted-loop-position : goal.invariant-push_parted-loop-position
invariant-push_parted-loop-position l =
    l.into ≡ l.initial.into ++ parted (map expr_tokens (take l.position l.parts))
