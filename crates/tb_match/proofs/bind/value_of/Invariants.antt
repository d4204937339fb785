use Rattle.std.proofs.Common.{◌≡◌, drop}
use Rattle.tb_match.specs.Joining.{bound}
use Rattle.tb_match.proofs.bind.value_of.Given as goal

-- the remaining binds decide
abbrev pub invariant-loop-bind : goal.invariant-loop-bind
invariant-loop-bind l = bound l.slot (drop l.bind-index l.binds) ≡ bound l.slot l.binds
