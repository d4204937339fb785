use Rattle.std.proofs.Common.{◌<◌, length, ap, ◌∙◌, arith}
use Rattle.tb_process_steps.specs.Walks.{Walking, offers_of}
use Rattle.calls.proofs.WalkerUses.{fired_ticks}
use Rattle.calls.proofs.walkers.take.Goals as goal

-- a look and a step take no time
pub returns-clause-ticks : goal.returns-clause-ticks
returns-clause-ticks g c =
    let within : c.args.k < length (offers_of (g.W.Walker.view.walking c.args.plan.now c.look.new.self)) = (let count = c.offer_count.ensures.all c.args.plan.now c.look.ensures.on in omega arith) in
    fired_ticks (g.W.Walker.view.walking c.args.plan.now c.look.new.self) (g.W.Walker.view.walking c.args.plan.now c.fire.new.self) c.args.k c.in_ok-binds.binds within c.in_ok-fire.ensures.goes
    ∙ ap (λ (w : Walking). w.ticks) c.look.ensures.stays
