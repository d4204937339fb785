use Rattle.tb_feed.proofs.FeedLemmas.{only-feed, exact-line}
use Rattle.tb_feed.proofs.reading.read_feed.Goals as goal

pub returns-clause-only : goal.returns-clause-only
returns-clause-only c = only-feed c.args.bytes.now c.read.result c.read.ensures.ok c.read.ensures.fault

pub returns-clause-exact : goal.returns-clause-exact
returns-clause-exact c = exact-line c.args.bytes.now c.read.result c.read.ensures.ok c.read.ensures.fault
