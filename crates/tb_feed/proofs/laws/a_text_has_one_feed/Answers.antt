use Rattle.tb_feed.proofs.FeedLemmas.{one-feed}
use Rattle.tb_feed.proofs.laws.a_text_has_one_feed.Goals as goal

pub returns : goal.returns
returns c = λ text inputs others h g. one-feed text inputs others h g
