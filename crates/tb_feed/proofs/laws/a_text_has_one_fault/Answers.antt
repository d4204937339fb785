use Rattle.tb_feed.proofs.FeedLemmas.{one-bad}
use Rattle.tb_feed.proofs.laws.a_text_has_one_fault.Goals as goal

pub returns : goal.returns
returns c = λ text number other h g. one-bad text number other h g
