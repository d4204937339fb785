use Rattle.tb_notes.proofs.Walking.{found_at, passed_at}
use Rattle.tb_notes.proofs.subscriptions.position_of.Goals as goal

pub returns-then-same_patterns : goal.returns-then-same_patterns
returns-then-same_patterns c =
    found_at c.args.patterns.now c.args.subscriptions.now c.loop-index.index c.index-subscriptions-index.result c.same_patterns.result c.loop-index-test.true c.index-subscriptions-index.is c.if-same_patterns.true c.same_patterns.ensures c.loop-index.invariant.0 c.loop-index.invariant.1

pub loop-index-preserved : goal.loop-index-preserved
loop-index-preserved c =
    passed_at c.args.patterns.now c.args.subscriptions.now c.loop-index.index c.index-subscriptions-index.result c.same_patterns.result c.loop-index-test.true c.index-subscriptions-index.is c.if-same_patterns.false c.same_patterns.ensures c.loop-index.invariant.0 c.loop-index.invariant.1
