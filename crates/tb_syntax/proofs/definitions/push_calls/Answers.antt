use Rattle.tb_syntax.specs.Helpers.Canonical.{call_tokens}
use Rattle.tb_syntax.proofs.Parted.{parted-more}
use Rattle.tb_syntax.proofs.definitions.push_calls.Goals as goal

pub loop-position-preserved : goal.loop-position-preserved
loop-position-preserved c =
    parted-more call_tokens _ _ _ _ c.args.calls.now c.loop-position.position _ c.loop-position.invariant c.in_ok-push_comma.ensures c.in_ok-push_call.ensures c.loop-position-test.true c.index-calls-position.is
