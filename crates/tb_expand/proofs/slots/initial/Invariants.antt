use Rattle.std.proofs.Common.{◌≡◌, ◌++◌, drop}
use Rattle.tb_expand.specs.Expansion.{initial}
use Rattle.tb_expand.proofs.slots.initial.Given as goal

abbrev pub invariant-loop-var : goal.invariant-loop-var
invariant-loop-var l = l.settings ++ initial l.next (drop l._var-index l.vars) ≡ initial l.slot l.vars
