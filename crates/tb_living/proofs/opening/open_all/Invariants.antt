use Rattle.tb_living.proofs.OpenLemmas.{AreOpened}
use Rattle.tb_living.proofs.opening.open_all.Given as goal

abbrev pub invariant-loop-at : goal.invariant-loop-at
invariant-loop-at g l = AreOpened g.W.Walker.view l.plans l.program.bodies l.program.roots l.at l.all.items
