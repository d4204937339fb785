use Rattle.tb_syntax.proofs.ReadWords.{each_atom_read, each_time_read}
use Rattle.tb_syntax.proofs.laws.each_word_is_read.Goals as goal

pub returns-clause-atom : goal.returns-clause-atom
returns-clause-atom c = each_atom_read

pub returns-clause-time : goal.returns-clause-time
returns-clause-time c = each_time_read
