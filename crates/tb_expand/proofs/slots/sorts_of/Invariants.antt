use Rattle.std.proofs.Common.{◌≡◌, take}
use Rattle.tb_expand.specs.Expansion.{sorts_of}
use Rattle.tb_expand.proofs.slots.sorts_of.Given as goal

abbrev pub invariant-loop-formal : goal.invariant-loop-formal
invariant-loop-formal l = l.sorts ≡ sorts_of (take l.formal-index l.formals)
