use Rattle.tb_read.proofs.Written.{written_reads}
use Rattle.tb_read.proofs.laws.written_text_reads.Goals as goal

pub returns : goal.returns
returns c = written_reads c.args.term.now c.show_proper.ensures
