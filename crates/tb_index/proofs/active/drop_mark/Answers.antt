use Rattle.std.proofs.Common.{◌∙◌, List, ap, length, arith}
use Rattle.tb_index.specs.declared.mark.Mark.{Mark}
use Rattle.tb_index.specs.Marks.{has_mark}
use Rattle.tb_index.proofs.ActiveLemmas as active
use Rattle.tb_index.proofs.active.drop_mark.Goals as goal

pub returns-then-there-mark-2 : goal.returns-then-there-mark-2
returns-then-there-mark-2 c = λ other apart e.
    active.dropped c.loop-place.active.items c.swap_remove.new.self.items c.loop-place.place c.swap_remove.result c.index-there.result.now c.args.mark
    (omega (arith, c.loop-place-test.true, c.loop-place.auto.place-end, c.len-place-end.ensures, ap length c.loop-place.invariant))
    c.swap_remove.ensures.value c.index-there.ensures c.if-there-mark.true c.if-there-mark-2.true c.swap_remove.ensures.items other apart
    (ap (λ (marks : List Mark). has_mark marks other) c.loop-place.invariant ∙ e)
