use Rattle.tb_living.proofs.TickLemmas.{AreTickedBelow}
use Rattle.tb_living.proofs.ticking.tick_all.Given as goal

abbrev pub invariant-loop-living : goal.invariant-loop-living
invariant-loop-living g l = AreTickedBelow g.W.Walker.view l.plans l.living-index l.fn.all.items l.living-items
