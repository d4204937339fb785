use Rattle.std.proofs.Common.{take}
use Rattle.tb_index.specs.Helpers.Pairs.{AreKept}
use Rattle.tb_index.specs.Helpers.Sides.{AreHeardOn}
use Rattle.tb_index.proofs.active.activate_side.Given as goal

abbrev pub invariant-loop-mark : goal.invariant-loop-mark
invariant-loop-mark l = AreKept l.initial.active.items l.active.items × AreHeardOn l.side (take l.mark-index l.marks) l.but l.across l.active.items
