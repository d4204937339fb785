use Rattle.tb_notes.proofs.Ordering.{added-in_order}
use Rattle.tb_notes.proofs.inbox.Inbox.subscribe.Goals as goal

pub invariant_of-self : goal.invariant_of-self
invariant_of-self c =
    added-in_order c.args.ps c.self.inside.subscriptions c.push.new.self c.self.inside.queue.items c.self.invariant c.requires
    (cc (c.contains.ensures, c.if-not-contains.true, c.as_slice.ensures)) (cc (c.in_ok-push.ensures.ok))
