use Rattle.std.proofs.Common.{◌≡◌, take}
use Rattle.tb_expand.specs.Expansion.{sorts_of_vars}
use Rattle.tb_expand.proofs.slots.sorts_of_vars.Given as goal

abbrev pub invariant-loop-var : goal.invariant-loop-var
invariant-loop-var l = l.sorts ≡ sorts_of_vars (take l.var-index l.vars)
