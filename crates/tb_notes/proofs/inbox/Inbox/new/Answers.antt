use Rattle.tb_notes.proofs.Ordering.{nothing-in_order}
use Rattle.tb_notes.proofs.inbox.Inbox.new.Goals as goal

pub invariant_of-result : goal.invariant_of-result
invariant_of-result c = nothing-in_order c.new.result c.new-2.result.items c.new.ensures c.new-2.ensures.items
