use Rattle.std.proofs.Common.{◌<◌, arith}
use Rattle.tb_index.proofs.BitLemmas as bits
use Rattle.tb_index.proofs.bits.next_of.Goals as goal

pub overflow_add-result : goal.overflow_add-result
overflow_add-result c = let few = c.requires.few in let small : c.in-Some.bit < 64 = c.in-Some.ensures.within in omega arith

pub returns-in-Some : goal.returns-in-Some
returns-in-Some c = bits.next-here c.args.low.now c.args.from c.in-Some.bit c.in-Some.ensures.next c.in-Some.ensures.within

pub returns-in-None : goal.returns-in-None
returns-in-None c = bits.next-on c.args.low.now c.args.from c.next_by_rows.result c.in-None.ensures.next c.next_by_rows.ensures
