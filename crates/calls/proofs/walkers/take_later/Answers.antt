use Rattle.std.proofs.Common.{◌≡◌, ◌+◌, ap, arith}
use Rattle.tb_process_steps.specs.Walks.{Walking}
use Rattle.tb_process_steps.proofs.AgedOffers.{within-ticked}
use Rattle.tb_process_steps.proofs.WalkerLemmas.{is_taken, takes_none}
use Rattle.calls.proofs.walkers.take_later.Goals as goal

pub take-requires-clause-within : goal.take-requires-clause-within
take-requires-clause-within g c =
    let count = c.offer_count.ensures.all c.args.plan.now c.look.ensures.on in
    within-ticked (g.W.Walker.view.walking c.args.plan.now c.look.new.self) (g.W.Walker.view.walking c.args.plan.now c.tick.new.self) c.args.k c.tick.ensures.aged (omega arith)

pub advance-requires-clause-taken : goal.advance-requires-clause-taken
advance-requires-clause-taken g c =
    let count = c.offer_count.ensures.all c.args.plan.now c.look.ensures.on in
    let within = within-ticked (g.W.Walker.view.walking c.args.plan.now c.look.new.self) (g.W.Walker.view.walking c.args.plan.now c.tick.new.self) c.args.k c.tick.ensures.aged (omega arith) in
    is_taken g.W.Walker.view c.args.plan.now c.tick.new.self c.in_ok-taken.taken c.args.k c.new-none.result within c.in_ok-taken.ensures.taken (λ offered here. takes_none offered.store c.new-none.result c.new-none.ensures)

-- one tick passes, and the step takes no time
pub returns-clause-ticks : goal.returns-clause-ticks
returns-clause-ticks g c =
    let count = c.offer_count.ensures.all c.args.plan.now c.look.ensures.on in
    let within = within-ticked (g.W.Walker.view.walking c.args.plan.now c.look.new.self) (g.W.Walker.view.walking c.args.plan.now c.tick.new.self) c.args.k c.tick.ensures.aged (omega arith) in
    let given = is_taken g.W.Walker.view c.args.plan.now c.tick.new.self c.in_ok-taken.taken c.args.k c.new-none.result within c.in_ok-taken.ensures.taken (λ offered here. takes_none offered.store c.new-none.result c.new-none.ensures) in
    let after : (g.W.Walker.view.walking c.args.plan.now c.advance.new.self).ticks ≡ (g.W.Walker.view.walking c.args.plan.now c.tick.new.self).ticks = ap (λ (w : Walking). w.ticks) (c.advance.ensures.advanced given.0 given.1.0) in
    let aged : (g.W.Walker.view.walking c.args.plan.now c.tick.new.self).ticks ≡ (g.W.Walker.view.walking c.args.plan.now c.look.new.self).ticks + 1 = ap (λ (w : Walking). w.ticks) c.tick.ensures.aged in
    let stays : (g.W.Walker.view.walking c.args.plan.now c.look.new.self).ticks ≡ (g.W.Walker.view.walking c.args.plan.now c.args.walker.now).ticks = ap (λ (w : Walking). w.ticks) c.look.ensures.stays in
    omega arith
