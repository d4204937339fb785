use Rattle.tb_index.specs.Helpers.Pairs.{AreCountedStill}
use Rattle.tb_index.proofs.counts.uncount_marks.Given as goal

abbrev pub invariant-loop-mark : goal.invariant-loop-mark
invariant-loop-mark l = AreCountedStill l.initial.counted l.counted l.others l.proc
