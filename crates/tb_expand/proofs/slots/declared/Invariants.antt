use Rattle.std.proofs.Common.{◌≡◌, ◌++◌, drop}
use Rattle.tb_expand.specs.Scopes.{declared}
use Rattle.tb_expand.proofs.slots.declared.Given as goal

abbrev pub invariant-loop-var : goal.invariant-loop-var
invariant-loop-var l = l.block ++ declared l.next (drop l.var-index l.vars) ≡ declared l.slot l.vars
