use Rattle.tb_index.specs.Helpers.Sides.{AreKeptOn}
use Rattle.tb_index.proofs.active.quiet_side.Given as goal

abbrev pub invariant-loop-mark : goal.invariant-loop-mark
invariant-loop-mark l = AreKeptOn l.side l.initial.active.items l.active.items l.pairs
