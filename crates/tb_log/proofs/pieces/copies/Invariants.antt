use Rattle.std.proofs.Common.{◌≡◌, drop, take}
use Rattle.tb_log.proofs.pieces.copies.Given as goal

abbrev pub invariant-loop-position : goal.invariant-loop-position
invariant-loop-position l = l.copies.items ≡ take l.position (drop l.before l.log.entries)
