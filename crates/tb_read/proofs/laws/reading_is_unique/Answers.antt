use Rattle.tb_read.proofs.Complete.{reads_one}
use Rattle.tb_read.proofs.laws.reading_is_unique.Goals as goal

pub returns : goal.returns
returns c = reads_one
