use Rattle.std.proofs.Common.{sym, subst}
use Rattle.tb_index.specs.Helpers.Pairs.{has, in_few, IsFirst}
use Rattle.tb_index.proofs.SlotLemmas as slots
use Rattle.tb_index.proofs.pairs.Pairs.next.Goals as goal

pub returns-then-is_empty : goal.returns-then-is_empty
returns-then-is_empty c = slots.next-few c.args.self.now c.args.mark c.args.from c.next_few-few.result
    (subst (λ few. IsFirst (in_few few c.args.mark) c.args.from c.next_few-few.result) c.as_slice.ensures.value c.next_few-few.ensures)
    (c.is_empty.ensures.0 c.if-is_empty.true)

pub returns : goal.returns
returns c = subst (λ found. IsFirst (has c.args.self.now c.args.mark) c.args.from found) (sym c.earlier.ensures)
    (slots.next-both c.args.self.now c.args.mark c.args.from c.next_few-few.result c.next_many.result
    (subst (λ few. IsFirst (in_few few c.args.mark) c.args.from c.next_few-few.result) c.as_slice.ensures.value c.next_few-few.ensures)
    c.next_many.ensures)
