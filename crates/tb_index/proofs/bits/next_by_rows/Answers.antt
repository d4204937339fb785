use Rattle.tb_index.proofs.BitLemmas as bits
use Rattle.tb_index.proofs.bits.next_by_rows.Goals as goal

pub bounds-low-other : goal.bounds-low-other
bounds-low-other c = bits.filled-within c.args.low.now c.in-Some.other (c.requires.rows.filled c.in-Some.other c.in-Some.ensures.1)

pub first_in_word-requires : goal.first_in_word-requires
first_in_word-requires c = c.requires.rows.filled c.in-Some.other c.in-Some.ensures.1

pub returns-in-Some : goal.returns-in-Some
returns-in-Some c = bits.next-two_rows c.args.low.now c.args.high.now c.args.word c.in-Some.other c.first_in_word.result c.requires.rows c.in-Some.ensures c.first_in_word.ensures.next c.first_in_word.ensures.within

pub returns-in-None : goal.returns-in-None
returns-in-None c = bits.none-two_rows c.args.low.now c.args.high.now c.args.word c.requires.rows c.in-None.ensures
