use Rattle.std.proofs.Common.{subst, List, ℕ}
use Rattle.tb_feed.specs.Feeds.{IsFeedOf}
use Rattle.tb_refeed.specs.Feeding.{came_in}
use Rattle.tb_refeed.proofs.FeedLemmas.{feed-said, none-long, text-same}
use Rattle.tb_refeed.proofs.laws.what_came_in_is_one_feed.Goals as goal

pub returns : goal.returns
returns c = λ log is none. subst (λ (bytes : List ℕ). IsFeedOf bytes (came_in log)) (text-same log) (feed-said log is (none-long log none))
