use Rattle.std.proofs.Common.{◌≡◌, ◌++◌, drop}
use Rattle.tb_expand.specs.Expansion.{sorts_of, value_formals}
use Rattle.tb_expand.proofs.slots.value_sorts.Given as goal

abbrev pub invariant-loop-formal : goal.invariant-loop-formal
invariant-loop-formal l = l.sorts ++ sorts_of (value_formals (drop l.formal-index l.formals)) ≡ sorts_of (value_formals l.formals)
