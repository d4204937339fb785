use Rattle.tb_index.proofs.SlotLemmas as slots
use Rattle.tb_index.proofs.pairs.Pairs.new.Goals as goal

pub returns : goal.returns
returns c = slots.none-has (record { few = c.new.result; many = c.new-2.result }) c.new.ensures.items c.new-2.ensures.len
