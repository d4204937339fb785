use Rattle.std.proofs.Common.{length}
use Rattle.tb_living.proofs.NoteLemmas.{HasPut}
use Rattle.tb_living.proofs.inboxes.put_all.Given as goal

abbrev pub invariant-loop-note : goal.invariant-loop-note
invariant-loop-note g l = HasPut l.fn.all.items l.all.items l.indices l.fn.copies.items l.copies.items

abbrev pub decreases-loop-note : goal.decreases-loop-note
decreases-loop-note g l = length l.copies.items
