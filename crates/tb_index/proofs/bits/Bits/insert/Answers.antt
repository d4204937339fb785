use Rattle.std.proofs.Common.{◌/◌}
use Rattle.tb_index.proofs.BitLemmas as bits
use Rattle.tb_index.proofs.bits.Bits.insert.Goals as goal

pub invariant_of-self : goal.invariant_of-self
invariant_of-self c = bits.rows-inserted c.self.inside.low.items c.self.inside.high.items _ _ (c.args.n / 64) c.self.invariant c.set_bit.ensures.long c.set_bit-2.ensures.long c.set_bit.ensures.apart c.set_bit.ensures.filled c.set_bit-2.ensures.here c.set_bit-2.ensures.others
