use Rattle.tb_read.proofs.Stops.{syntax_stop}
use Rattle.tb_read.proofs.laws.syntax_stops.Goals as goal

pub returns : goal.returns
returns c = syntax_stop
