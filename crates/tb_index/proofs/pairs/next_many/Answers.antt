use Rattle.tb_index.proofs.PairLemmas as pairs
use Rattle.tb_index.proofs.pairs.next_many.Goals as goal
use Rattle.tb_index.proofs.pairs.next_many.Goals.{else-found-mark-via-then-found-mark+else-found-mark-2, else-found-mark-via-else-found-mark}

pub returns-in-None : goal.returns-in-None
returns-in-None c = λ proc low. pairs.next-none c.args.many.now c.args.mark c.args.from _ (c.range.ensures.in_range tt) c.in-None.ensures.steps.0 proc low

pub returns-then-found-mark-2 : goal.returns-then-found-mark-2
returns-then-found-mark-2 c = pairs.next-found c.args.many.now c.args.mark c.args.from _ c.in-Some.found.now c.next.new.self (c.range.ensures.in_range tt) c.in-Some.ensures.steps c.if-found-mark.true c.if-found-mark-2.true

pub returns-else-found-mark : goal.returns-else-found-mark
returns-else-found-mark c = pairs.next-other c.args.many.now c.args.mark c.args.from _ c.in-Some.found.now c.next.new.self (c.range.ensures.in_range tt) c.in-Some.ensures.steps
    (λ same as_well. elim c.else-found-mark.branch [ else-found-mark-via-then-found-mark+else-found-mark-2 w ↦ w.if-found-mark-2.false as_well | else-found-mark-via-else-found-mark w ↦ w.if-found-mark.false same ])
