use Rattle.std.proofs.Common.{refl}
use Rattle.tb_index.proofs.SlotLemmas as slots
use Rattle.tb_index.proofs.pairs.Pairs.remove.Goals as goal

pub returns-then-not-is_empty : goal.returns-then-not-is_empty
returns-then-not-is_empty c = slots.both-removed c.args.self.now (record { few = c.remove_few.new.few; many = c.remove_many.new.many }) c.args.mark c.args.proc c.remove_few.ensures c.remove_many.ensures

pub returns-else-not-is_empty : goal.returns-else-not-is_empty
returns-else-not-is_empty c = slots.few-removed c.args.self.now (record { few = c.remove_few.new.few; many = c.args.self.now.many }) c.args.mark c.args.proc c.remove_few.ensures refl
    (c.is_empty.ensures.0 c.if-not-is_empty.false)
