use Rattle.std.proofs.Common.{take}
use Rattle.tb_expand.proofs.SizesKept.{AreKept}
use Rattle.tb_expand.proofs.sizes.sizes_of.Given as goal

abbrev pub invariant-loop-position : goal.invariant-loop-position
invariant-loop-position l = AreKept l.names.script.now (take l.position-index l.order) l.sizes
