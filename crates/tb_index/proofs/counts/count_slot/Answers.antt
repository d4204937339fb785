use Rattle.tb_index.proofs.SlotLemmas as slots
use Rattle.tb_index.proofs.counts.count_slot.Goals as goal

pub loop-pair-preserved : goal.loop-pair-preserved
loop-pair-preserved c = (
  λ mark its e. c.count_pair.ensures.kept mark its (c.loop-pair.invariant.0 mark its e),
  slots.counted-more c.count_pair.new.counted c.args.pairs.now c.loop-pair.pair-index _ c.loop-pair-test.true
      (λ mark its e. c.count_pair.ensures.kept _ its (c.loop-pair.invariant.1 mark its e)) c.in_ok-count_pair.ensures.here,
)
