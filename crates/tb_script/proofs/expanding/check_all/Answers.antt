use Rattle.std.proofs.Common.{ℕ, ◌<◌, [], subst}
use Rattle.tb_script.proofs.Bodies.{no_bodies, bodies_further, body_failed}
use Rattle.tb_script.proofs.expanding.check_all.Goals as goal

pub loop-position-init : goal.loop-position-init
loop-position-init c = ([], no_bodies c.args.expansions.now.script.now)

pub loop-position-preserved : goal.loop-position-preserved
loop-position-preserved c =
    bodies_further c.args.expansions.now.script.now c.loop-position.position (subst (λ (n : ℕ). c.loop-position.position < n) c.len-position-end.ensures c.loop-position-test.true) c.loop-position.invariant c.in-Ok.ensures.body

pub returns-in-Err : goal.returns-in-Err
returns-in-Err c =
    let first = c.loop-position.invariant in
    body_failed c.args.expansions.now.script.now first.0 c.loop-position.position c.in-Err.fault c.requires (subst (λ (n : ℕ). c.loop-position.position < n) c.len-position-end.ensures c.loop-position-test.true) first.1 c.in-Err.ensures.fault
