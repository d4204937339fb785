use Rattle.tb_feed.proofs.FeedLemmas.{feed-fine}
use Rattle.tb_feed.proofs.laws.a_feed_has_no_fault.Goals as goal

pub returns : goal.returns
returns c = λ text inputs number h g. feed-fine text inputs number h g
