use Rattle.tb_notes.proofs.Ordering.{removed-in_order}
use Rattle.tb_notes.proofs.inbox.Inbox.unsubscribe.Goals as goal

pub invariant_of-self : goal.invariant_of-self
invariant_of-self c =
    removed-in_order c.args.ps.now c.self.inside.subscriptions c.remove-gone.new.self c.self.inside.queue.items c.self.invariant (cc (c.in-Some.ensures.2, c.as_slice.ensures))
