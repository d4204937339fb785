use Rattle.std.proofs.Common.{arith}
use Rattle.tb_index.proofs.BitLemmas as bits
use Rattle.tb_index.proofs.bits.next_behind.Goals as goal

pub returns-then-words-other-ne0 : goal.returns-then-words-other-ne0
returns-then-words-other-ne0 c = bits.next-behind c.args.words.now c.args.at c.loop-other.other c.first_in_word.result (omega arith) c.loop-other.invariant c.first_in_word.ensures.next c.first_in_word.ensures.within
