use Rattle.std.proofs.Common.{ℕ, ◌<◌, ◌+◌, sym, subst, take}
use Rattle.tb_script.proofs.Bodies.{AreFirst, more_bodies, body_failed}
use Rattle.tb_script.proofs.expanding.all_bodies.Goals as goal

pub returns-in-Err : goal.returns-in-Err
returns-in-Err c =
    body_failed c.args.expansions.now.script.now c.loop-position.bodies c.loop-position.position c.in-Err.fault c.requires (subst (λ (n : ℕ). c.loop-position.position < n) c.len-position-end.ensures c.loop-position-test.true) c.loop-position.invariant c.in-Err.ensures.fault

pub loop-position-preserved : goal.loop-position-preserved
loop-position-preserved c =
    let script = c.args.expansions.now.script.now in
    subst (AreFirst script (take (c.loop-position.position + 1) script.procs)) (sym c.in_ok-push-in-Ok.ensures.ok)
    (more_bodies script c.loop-position.bodies c.in-Ok.body c.loop-position.position (subst (λ (n : ℕ). c.loop-position.position < n) c.len-position-end.ensures c.loop-position-test.true) c.loop-position.invariant c.in-Ok.ensures.body)
