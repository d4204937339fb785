use Rattle.std.proofs.Common.{◌≡◌, ◌++◌, take}
use Rattle.tb_living.proofs.speaking.with_event.Given as goal

abbrev pub invariant-loop-term : goal.invariant-loop-term
invariant-loop-term l = l.terms ≡ l.fn.terms ++ take l.term-index l.term-items
