use Rattle.tb_index.proofs.ActiveLemmas as active
use Rattle.tb_index.proofs.counts.count_marks.Goals as goal

pub loop-mark-preserved : goal.loop-mark-preserved
loop-mark-preserved c = (
  λ mark its e. c.count_one.ensures.kept mark its (c.loop-mark.invariant.0 mark its e),
  active.count-more c.args.marks.now c.args.but.now c.loop-mark.mark-index _ c.loop-mark.counted c.count_one.new.counted c.args.proc c.loop-mark-test.true
      c.loop-mark.invariant.1 c.count_one.ensures.kept c.in_ok-count_one.ensures.here,
)
