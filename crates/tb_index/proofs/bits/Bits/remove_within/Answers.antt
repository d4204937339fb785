use Rattle.std.proofs.Common.{◌/◌, length, arith, ap, sym, ◌∙◌}
use Rattle.tb_index.proofs.BitLemmas as bits
use Rattle.tb_index.proofs.bits.Bits.remove_within.Goals as goal

pub invariant_of-self : goal.invariant_of-self
invariant_of-self c = bits.rows-emptied c.self.inside.low.items c.self.inside.high.items _ _ (c.args.n / 64) c.self.invariant c.clear_bit.ensures.long c.clear_bit-then-index-eq0.ensures.long c.clear_bit.ensures.apart (sym (bits.read c.clear_bit.new.words.items (c.args.n / 64) c.index.result.now (omega (arith, c.clear_bit.ensures.long, c.requires, ap length c.self.view_is)) c.index.ensures) ∙ c.if-index-eq0.true) c.clear_bit-then-index-eq0.ensures.here c.clear_bit-then-index-eq0.ensures.others

pub invariant_of-self-else-index-eq0 : goal.invariant_of-self-else-index-eq0
invariant_of-self-else-index-eq0 c = bits.rows-lessened c.self.inside.low.items c.self.inside.high.items _ (c.args.n / 64) c.self.invariant c.clear_bit.ensures.long c.clear_bit.ensures.apart c.clear_bit.ensures.less (λ e. c.if-index-eq0.false (bits.read c.clear_bit.new.words.items (c.args.n / 64) c.index.result.now (omega (arith, c.clear_bit.ensures.long, c.requires, ap length c.self.view_is)) c.index.ensures ∙ e))
