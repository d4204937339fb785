use Rattle.tb_living.proofs.NoteLemmas.{HasReserved}
use Rattle.tb_living.proofs.inboxes.reserve_all.Given as goal

abbrev pub invariant-loop-at : goal.invariant-loop-at
invariant-loop-at g l = HasReserved l.fn.all.items l.all.items l.indices l.at-index
