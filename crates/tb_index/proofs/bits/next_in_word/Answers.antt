use Rattle.std.proofs.Common.{rules, ◌+◌, arith}
use Rattle.tb_index.proofs.BitLemmas as bits
use Rattle.tb_index.proofs.bits.next_in_word.Goals as goal

pub returns-then-rest-eq0-clause-next : goal.returns-then-rest-eq0-clause-next
returns-then-rest-eq0-clause-next c = λ k l. bits.none-shifted c.args.word c.args.from k (search rules) l

pub returns-else-rest-eq0-clause-next : goal.returns-else-rest-eq0-clause-next
returns-else-rest-eq0-clause-next c = bits.next-shifted c.args.word c.args.from c.first_in_word.result c.first_in_word.ensures.next

pub returns-else-rest-eq0-clause-within : goal.returns-else-rest-eq0-clause-within
returns-else-rest-eq0-clause-within c = bits.within-word c.args.word (c.args.from + c.first_in_word.result) (omega arith) (returns-else-rest-eq0-clause-next c).1
