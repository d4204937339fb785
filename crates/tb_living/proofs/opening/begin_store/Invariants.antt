use Rattle.std.proofs.Common.{length}
use Rattle.tb_living.proofs.OpenLemmas.{IsBeginning}
use Rattle.tb_living.proofs.opening.begin_store.Given as goal

abbrev pub invariant-loop-actual : goal.invariant-loop-actual
invariant-loop-actual l = IsBeginning l.body l.store l.slot l.fn.actuals l.actuals

abbrev pub decreases-loop-actual : goal.decreases-loop-actual
decreases-loop-actual l = length l.actuals
