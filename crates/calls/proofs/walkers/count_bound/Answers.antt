use Rattle.std.proofs.Common.{ap}
use Rattle.tb_body.specs.declared.body.Body.{Body}
use Rattle.calls.proofs.WalkerUses.{store_fits}
use Rattle.calls.proofs.walkers.count_bound.Goals as goal

-- a new store has the slots of its body
pub start-requires : goal.start-requires
start-requires g c = store_fits c.in_ok-fresh.field-0 c.args.body.now.sorts (g.W.Walker.view.body_of c.in_ok-plan.plan).sorts c.in_ok-fresh.ensures (ap (λ (b : Body). b.sorts) c.in_ok-plan.ensures)
