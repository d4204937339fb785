use Rattle.tb_bus.proofs.ApartLemmas.{steps-apart}
use Rattle.tb_bus.proofs.laws.labels_differ.Goals as goal

pub returns : goal.returns
returns c = steps-apart
