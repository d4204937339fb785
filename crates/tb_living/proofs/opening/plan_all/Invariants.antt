use Rattle.std.proofs.Common.{◌≡◌, map, take}
use Rattle.tb_living.proofs.opening.plan_all.Given as goal

abbrev pub invariant-loop-body : goal.invariant-loop-body
invariant-loop-body g l = map g.W.Walker.view.body_of l.plans ≡ take l.body-index l.bodies
