use Rattle.std.proofs.Common.{◌≡◌, ◌+◌, ◌≤◌, take}
use Rattle.tb_source_map.specs.Spots.{spot_behind}
use Rattle.tb_source_map.proofs.spot.spot_behind.Given as goal

abbrev pub invariant-loop-byte : goal.invariant-loop-byte
invariant-loop-byte l = (l.spot ≡ spot_behind (take l.byte-index l.before)) × (l.spot.line ≤ l.byte-index + 1) × (l.spot.column ≤ l.byte-index + 1)
