use Rattle.std.proofs.Common.{arith}
use Rattle.tb_process_steps.specs.Walks.{offers_of}
use Rattle.calls.proofs.WalkerUses.{bound_taken}
use Rattle.calls.proofs.walkers.bound.Goals as goal

pub accepts-requires-clause-within : goal.accepts-requires-clause-within
accepts-requires-clause-within g c = λ seen is. (let count = c.offer_count.ensures.seen seen is in omega arith)

pub returns-in-Some : goal.returns-in-Some
returns-in-Some g c = λ offered here.
    bound_taken (g.W.Walker.view.body_of c.args.plan.now).atoms c.push.new.self (offers_of (g.W.Walker.view.walking c.args.plan.now c.args.walker.now)) c.args.k c.in_ok-binds.field-0 c.in-Some.binds offered c.in_ok-binds.ensures c.in-Some.is here
