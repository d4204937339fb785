use Rattle.tb_read.proofs.Begins.{syntax_begin}
use Rattle.tb_read.proofs.laws.syntax_begins.Goals as goal

pub returns : goal.returns
returns c = syntax_begin
