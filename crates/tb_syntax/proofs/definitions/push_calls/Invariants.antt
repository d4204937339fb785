use Rattle.std.proofs.Common.{◌≡◌, ◌++◌, map, take}
use Rattle.tb_syntax.specs.Helpers.Canonical.{call_tokens, parted}
use Rattle.tb_syntax.proofs.definitions.push_calls.Given as goal

abbrev pub invariant-loop-position : goal.invariant-loop-position
invariant-loop-position l = l.into ≡ l.initial.into ++ parted (map call_tokens (take l.position l.calls))
