use Rattle.tb_parse.proofs.Opened.{counted_none, counted_more, counted_over, counted_all}
use Rattle.tb_parse.proofs.brackets.too_deep.Goals as goal

pub loop-position-init : goal.loop-position-init
loop-position-init c = counted_none c.args.tokens.now

pub loop-position-preserved : goal.loop-position-preserved
loop-position-preserved c =
    counted_more c.loop-position.invariant c.loop-position-test.true c.index-tokens-position.is c.open_behind-count.ensures c.if-count-gt-MOST_OPEN.false

pub returns-then-count-gt-MOST_OPEN : goal.returns-then-count-gt-MOST_OPEN
returns-then-count-gt-MOST_OPEN c =
    counted_over c.loop-position.invariant c.loop-position-test.true c.index-tokens-position.is c.open_behind-count.ensures c.if-count-gt-MOST_OPEN.true

pub returns : goal.returns
returns c = counted_all c.loop-position.invariant c.loop-position-test.false
