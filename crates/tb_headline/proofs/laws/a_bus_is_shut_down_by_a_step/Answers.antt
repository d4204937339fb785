use Rattle.tb_headline.proofs.Entries.{shut_down-by_step}
use Rattle.tb_headline.proofs.laws.a_bus_is_shut_down_by_a_step.Goals as goal

pub returns : goal.returns
returns c = shut_down-by_step
