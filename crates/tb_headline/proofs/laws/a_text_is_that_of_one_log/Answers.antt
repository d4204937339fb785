use Rattle.tb_headline.proofs.Entries.{one-text}
use Rattle.tb_headline.proofs.laws.a_text_is_that_of_one_log.Goals as goal

pub returns : goal.returns
returns c = one-text
