use Rattle.std.proofs.Common.{length, refl, arith}
use Rattle.tb_why.proofs.FollowLemmas.{up-ends, up-goes-on, up-whole}
use Rattle.tb_why.proofs.following.up_len.Goals as goal

pub returns-then-takes_down-clause-before : goal.returns-then-takes_down-clause-before
returns-then-takes_down-clause-before c = up-ends c.args.entries.now c.loop-index.index c.index-entries-index.result c.loop-index-test.true c.index-entries-index.is c.if-takes_down.ensures c.loop-index.invariant

pub loop-index-preserved : goal.loop-index-preserved
loop-index-preserved c = up-goes-on c.args.entries.now c.loop-index.index c.index-entries-index.result c.loop-index-test.true c.index-entries-index.is c.if-takes_down.ensures c.loop-index.invariant

pub returns-clause-before : goal.returns-clause-before
returns-clause-before c = up-whole c.args.entries.now c.loop-index.index (length c.args.entries.now) c.loop-index-test.false refl c.loop-index.invariant
