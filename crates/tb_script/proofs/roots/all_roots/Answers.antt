use Rattle.tb_script.specs.Programs.{IsRootOf}
use Rattle.tb_script.proofs.Bodies.{zip_take_more}
use Rattle.tb_script.proofs.roots.all_roots.Goals as goal

pub loop-call-preserved : goal.loop-call-preserved
loop-call-preserved c =
    zip_take_more (IsRootOf c.args.names.now.script.now) c.args.calls.now c.loop-call.call-index _ _ _ _ c.loop-call-test.true c.call-item.is c.loop-call.invariant c.in_ok-root_of.ensures c.in_ok-push.ensures.ok
